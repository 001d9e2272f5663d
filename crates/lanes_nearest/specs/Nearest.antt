-- The nearest lane from the tables after opening is the plan's.
use Rattle.std.specs.Prelude.{List, refl, ◌≡◌, ℕ, ◌*◌, ◌≤◌, Float, length, take}
use Rattle.std.proofs.Common.{ap, ◌∙◌}
use Rattle.coords.specs.declared.Point.{Point}
use Rattle.nearest.specs.PlanLanes.{lanes_are, searchable}
use Rattle.nearest.specs.Nearest.{Searchable, nearest_among, nearest_from, nearest_in}
use Rattle.nearest.specs.declared.NearestAnswer.{NearestAnswer}
use Rattle.network.specs.Lanes.{Lane}
use Rattle.network.specs.Tables.{lanes_from}
use Rattle.plan.specs.Accepted.{Accepted}
use Rattle.plan_format.specs.Laws.{Bytes}
use Rattle.plan_format.specs.Plan.{Decoded, Plan}
use Rattle.plan_format.specs.Reading.{opened}
use Rattle.plan_format.specs.Tables.{plan_rows}
use Rattle.plan_format.specs.declared.Counts.{Counts}
use Rattle.plan_format.specs.declared.Read.{Read}
use Rattle.tables.specs.LaneTables.{Calls, LaneTables, Opens, lane_rows, too_short}
use Rattle.tables.specs.Opening.{Front, cumulative_now, found, lanes_now, points_now}
use Rattle.calling.specs.Calling.{calls_accepted}

-- what `nearest_from` needs: the front of each table is there, and is the rows of n lanes
pub record NearestFronts (n m : ℕ) (lanes : List ℕ) (points cumulative : List Float) : Type 0 where
  pub lanes_there : 6 * n ≤ length lanes
  pub points_there : 3 * m ≤ length points
  pub arcs_there : m ≤ length cumulative
  pub rows : Searchable (take (6 * n) lanes) (take (3 * m) points) (take m cumulative) n

-- tables that start with a plan's rows
module _ (p : Plan) (A : Accepted p) (n m : ℕ) (lanes : List ℕ) (points cumulative : List Float) (few : n ≡ length p.lanes)
    (L : Front (6 * n) lanes (plan_rows p).lanes) (P : Front (3 * m) points (plan_rows p).points)
    (C : Front m cumulative (lane_rows p).cumulative) where
  fronts_of : NearestFronts n m lanes points cumulative
  fronts_of =
      record {
        lanes_there = L.long;
        points_there = P.long;
        arcs_there = C.long;
        rows = rw (L.is, P.is, C.is, few) (searchable p A);
      }

  nearest_of_law : (q : Point) → nearest_among (lanes_from (take (6 * n) lanes) (take (3 * m) points) n 0) q ≡ nearest_in p q
  nearest_of_law q = rw (L.is, P.is, few) (ap (λ (ls : List Lane). nearest_among ls q) (lanes_are p A))

-- the tables of an accepted file
module _ (side : ℕ) (f : List ℕ) (B : Bytes f) (r : Read) (t t' : LaneTables) (O : Opens (opened (too_short t) side f) r t t')
    (z : r.number ≡ 0) where
  few : r.counts.lanes ≡ length (found side f B r t t' O z).plan.lanes
  few = ap (λ (c : Counts). c.lanes) (found side f B r t t' O z).counts

  pub nearest_fronts : NearestFronts r.counts.lanes r.counts.points t'.plan.lanes t'.plan.points t'.cumulative
  nearest_fronts =
      fronts_of (found side f B r t t' O z).plan (found side f B r t t' O z).ok _ _ _ _ _ few
      (lanes_now side f B r t t' O z r.counts refl)
      (points_now side f B r t t' O z r.counts refl) (cumulative_now side f B r t t' O z r.counts refl)

  pub nearest_calls : (q : Point) (a : NearestAnswer)
      → a ≡ nearest_among
      (lanes_from (take (6 * r.counts.lanes) t'.plan.lanes) (take (3 * r.counts.points) t'.plan.points) r.counts.lanes 0) q
      → Calls (λ (d : Decoded). nearest_from d q) side f a t t'
  nearest_calls q a e =
      calls_accepted (λ (d : Decoded). nearest_from d q) side f B r t t' O a z
      (e
      ∙ nearest_of_law (found side f B r t t' O z).plan (found side f B r t t' O z).ok _ _ _ _ t'.cumulative few
      (lanes_now side f B r t t' O z r.counts refl)
      (points_now side f B r t t' O z r.counts refl) (cumulative_now side f B r t t' O z r.counts refl) q)
