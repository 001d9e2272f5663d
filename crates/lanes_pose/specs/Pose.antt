-- The pose from the tables after opening is the plan's.
use Rattle.std.specs.Prelude.{List, refl, ◌≡◌, ℕ, ◌*◌, ◌≤◌, Float, length, take}
use Rattle.std.proofs.Common.{ap, ◌∙◌}
use Rattle.plan.specs.Accepted.{Accepted}
use Rattle.plan_format.specs.Laws.{Bytes}
use Rattle.plan_format.specs.Plan.{Decoded, Plan}
use Rattle.plan_format.specs.Reading.{opened}
use Rattle.plan_format.specs.Tables.{plan_rows}
use Rattle.plan_format.specs.declared.Counts.{Counts}
use Rattle.plan_format.specs.declared.Read.{Read}
use Rattle.pose.specs.Lanes.{Polylines, pose_in, pose_of, pose_row}
use Rattle.pose.specs.Laws.{polylines, rows_pose}
use Rattle.pose.specs.declared.Posed.{Posed}
use Rattle.tables.specs.LaneTables.{Calls, LaneTables, Opens, lane_rows, too_short}
use Rattle.tables.specs.Opening.{Front, cumulative_now, found, lanes_now, points_now, tangents_now}
use Rattle.calling.specs.Calling.{calls_accepted}

-- what `pose_from` needs: the front of each table is there, and is the rows of n lanes
pub record PoseFronts (n m : ℕ) (lanes : List ℕ) (points cumulative tangents : List Float) : Type 0 where
  pub lanes_there : 6 * n ≤ length lanes
  pub points_there : 3 * m ≤ length points
  pub arcs_there : m ≤ length cumulative
  pub tangents_there : 3 * m ≤ length tangents
  pub rows : Polylines n (take (6 * n) lanes) (take (3 * m) points) (take m cumulative) (take (3 * m) tangents)

-- tables that start with a plan's rows
module _ (p : Plan) (A : Accepted p) (n m : ℕ) (lanes : List ℕ) (points cumulative tangents : List Float) (few : n ≡ length p.lanes)
    (L : Front (6 * n) lanes (plan_rows p).lanes) (P : Front (3 * m) points (plan_rows p).points)
    (C : Front m cumulative (lane_rows p).cumulative) (T : Front (3 * m) tangents (lane_rows p).tangents) where
  fronts_of : PoseFronts n m lanes points cumulative tangents
  fronts_of =
      record {
        lanes_there = L.long;
        points_there = P.long;
        arcs_there = C.long;
        tangents_there = T.long;
        rows = rw (L.is, P.is, C.is, T.is, few) (polylines p A);
      }

  pose_of_law : (k : ℕ) (s : Float)
      → pose_row k s n (take (6 * n) lanes) (take (3 * m) points) (take m cumulative) (take (3 * m) tangents) ≡ pose_in p k s
  pose_of_law k s = rw (L.is, P.is, C.is, T.is, few) (rows_pose p A k s)

-- the tables of an accepted file
module _ (side : ℕ) (f : List ℕ) (B : Bytes f) (r : Read) (t t' : LaneTables) (O : Opens (opened (too_short t) side f) r t t')
    (z : r.number ≡ 0) where
  few : r.counts.lanes ≡ length (found side f B r t t' O z).plan.lanes
  few = ap (λ (c : Counts). c.lanes) (found side f B r t t' O z).counts

  pub pose_fronts : PoseFronts r.counts.lanes r.counts.points t'.plan.lanes t'.plan.points t'.cumulative t'.tangents
  pose_fronts =
      fronts_of (found side f B r t t' O z).plan (found side f B r t t' O z).ok _ _ _ _ _ _ few
      (lanes_now side f B r t t' O z r.counts refl)
      (points_now side f B r t t' O z r.counts refl) (cumulative_now side f B r t t' O z r.counts refl)
      (tangents_now side f B r t t' O z r.counts refl)

  pub pose_calls : (k : ℕ) (s : Float) (a : Posed)
      → a
      ≡ pose_row k s r.counts.lanes (take (6 * r.counts.lanes) t'.plan.lanes) (take (3 * r.counts.points) t'.plan.points)
      (take r.counts.points t'.cumulative) (take (3 * r.counts.points) t'.tangents)
      → Calls (λ (d : Decoded). pose_of d k s) side f a t t'
  pose_calls k s a e =
      calls_accepted (λ (d : Decoded). pose_of d k s) side f B r t t' O a z
      (e
      ∙ pose_of_law (found side f B r t t' O z).plan (found side f B r t t' O z).ok _ _ _ _ _ _ few
      (lanes_now side f B r t t' O z r.counts refl)
      (points_now side f B r t t' O z r.counts refl) (cumulative_now side f B r t t' O z r.counts refl)
      (tangents_now side f B r t t' O z r.counts refl) k s)
