-- The rows of an accepted plan give the plan's poses.
use Rattle.std.specs.Prelude.{Bool, List, ◌≡◌, suc, zero, ℕ, ◌+◌, ◌<◌, Float, get_or, length}
use Rattle.std.proofs.Math.Bool.{cond, false, true}
use Rattle.std.proofs.Math.Path.{ap, refl}
use Rattle.std.proofs.Common.{◌∙◌, arith, length-drop, length-take}
use Rattle.std.proofs.Math.Dec.{eqb}
use borrow.Author.Tests.{eq-eqb, eqb-false, ne_eqb}
use Rattle.geometry.specs.Locate.{pose_along}
use Rattle.geometry.specs.declared.Pose.{Pose}
use Rattle.plan.specs.Accepted.{Accepted}
use Rattle.plan.specs.Rows.{lanes_size}
use Rattle.plan_find.specs.FirstRow.{first_row, is_lane}
use Rattle.plan_find.specs.Lookup.{find_lane}
use Rattle.plan_format.specs.Lookup.{index_in}
use Rattle.plan_format.specs.Plan.{Plan, lane_of, number_of}
use Rattle.plan_format.specs.Tables.{plan_rows}
use Rattle.rows.specs.Rows.{arcs_of, points_of, tangents_of}
use Rattle.tables.specs.LaneTables.{cumulative_row, lane_rows, no_lane, tangent_row}
use Rattle.tables.specs.Lines.{arcs_are, arcs_within_law, line, points_are, points_within, rising, tangents_are, tangents_within}
use Rattle.pose.specs.Lanes.{Polyline, Polylines, pose_in, pose_row, posed_at, refused_pose}
use Rattle.pose.specs.declared.Posed.{Posed}

-- ---- the answer of `pose_in`
-- a row that is found is one of the k
row_below : (test : ℕ → Bool) (k i d : ℕ) → (first_row test k i d ≡ d → ⊥) → first_row test k i d < i + k
unfolding first_row
row_below test zero i d h = absurd (h refl)
row_below test (suc k) i d h = go (test i) (λ (z : first_row test k (i + 1) d ≡ d → ⊥). row_below test k (i + 1) d z) h
  where
    go : (b : Bool) → ((first_row test k (i + 1) d ≡ d → ⊥) → first_row test k (i + 1) d < i + 1 + k)
        → (cond b i (first_row test k (i + 1) d) ≡ d → ⊥) → cond b i (first_row test k (i + 1) d) < i + suc k
    go true r h = omega arith
    go false r h = let z = r h in omega arith

module _ (n : ℕ) (s : Float) (k : ℕ) (lanes : List ℕ) (points cumulative tangents : List Float) (i : ℕ)
    (e : i ≡ first_row (is_lane lanes n) k 0 256) where
  pub found_below : (i ≡ 256 → ⊥) → i < k
  found_below h = let z = row_below (is_lane lanes n) k 0 256 (λ q. h (e ∙ q)) in omega arith

  pub unknown : i ≡ 256 → (r : Posed) → r ≡ refused_pose 12 → r ≡ pose_row n s k lanes points cumulative tangents
  unfolding pose_row
  unknown h r q = rw (← e, eq-eqb i 256 h) q

  pub known : (i ≡ 256 → ⊥) → (q : Pose)
      → q ≡ pose_along (points_of lanes points i) (arcs_of lanes cumulative i) (tangents_of lanes tangents i) s
      → posed_at q ≡ pose_row n s k lanes points cumulative tangents
  unfolding pose_row
  known h q is = rw (← e, ne_eqb i 256 h) (ap posed_at is)

-- ---- a part of a table
module _ (lanes : List ℕ) (points cumulative tangents : List Float) (i : ℕ) (P : Polyline lanes points cumulative tangents i) where
  pub tangents_long : length (tangents_of lanes tangents i) ≡ length (points_of lanes points i)
  tangents_long = simp (length-take, length-drop) (omega (arith, P.points_there, P.tangents_there))

-- ---- an accepted plan
module _ (p : Plan) (A : Accepted p) where
  pub polylines : Polylines (length p.lanes) (plan_rows p).lanes (plan_rows p).points (lane_rows p).cumulative (lane_rows p).tangents
  polylines =
      let size = lanes_size p A in
      record {
        few = A.limited.lanes;
        lanes_there = omega arith;
        each = λ i h. record {
          row = omega arith;
          points_there = points_within p A i no_lane h;
          arcs_there = arcs_within_law p A i no_lane h;
          tangents_there = tangents_within p A i no_lane h;
          line = rw (points_are p A i no_lane h, arcs_are p A i no_lane h) (line p A i no_lane h);
          rising = rw (arcs_are p A i no_lane h) (rising p A i no_lane h);
        };
      }

  module _ (n : ℕ) (s : Float) where
    -- the pose on the lane of row i
    on_row : (i : ℕ) → i < length p.lanes
        → pose_along (points_of (plan_rows p).lanes (plan_rows p).points i) (arcs_of (plan_rows p).lanes (lane_rows p).cumulative i)
        (tangents_of (plan_rows p).lanes (lane_rows p).tangents i) s
        ≡ pose_along (get_or p.lanes i no_lane).points (cumulative_row (get_or p.lanes i no_lane)) (tangent_row (get_or p.lanes i no_lane)) s
    on_row i h = rw (points_are p A i no_lane h, arcs_are p A i no_lane h, tangents_are p A i no_lane h)

    pub rows_pose : pose_row n s (length p.lanes) (plan_rows p).lanes (plan_rows p).points (lane_rows p).cumulative (lane_rows p).tangents
        ≡ pose_in p n s
    unfolding pose_row pose_in
    rows_pose = rw (find_lane p A no_lane n) (by (eqb (lane_of p n) 256) refl)
      where
        by : (b : Bool) → eqb (lane_of p n) 256 ≡ b
            → cond b (refused_pose 12)
            (posed_at
            (pose_along (points_of (plan_rows p).lanes (plan_rows p).points (lane_of p n))
            (arcs_of (plan_rows p).lanes (lane_rows p).cumulative (lane_of p n))
            (tangents_of (plan_rows p).lanes (lane_rows p).tangents (lane_of p n)) s))
            ≡ cond b (refused_pose 12)
            (posed_at
            (pose_along (get_or p.lanes (lane_of p n) no_lane).points (cumulative_row (get_or p.lanes (lane_of p n) no_lane))
            (tangent_row (get_or p.lanes (lane_of p n) no_lane)) s))
        by true e = refl
        by false e = ap posed_at (on_row (lane_of p n) (index_in n number_of p.lanes (lane_of p n) 256 refl (eqb-false (lane_of p n) 256 e)))
