-- The rows of an accepted plan hold its lanes, and may be asked.
use Rattle.std.specs.Prelude.{List, [], map, ◌∷◌, ◌≡◌, drop, get_or}
use Rattle.std.proofs.Common.{ap, ap₂, sym, ◌∙◌, drop_of_length-le, drop-cons}
use Rattle.std.proofs.Math.Path.{refl}
use Prim.Native.Nat.{suc, zero, ℕ, ◌+◌, ◌<◌, ◌≤◌}
use native.Mathlib.Omega.{arith}
use Rattle.std.proofs.Math.ListN.{length}
use Rattle.geometry.specs.Polyline.{cumulative_of}
use Rattle.network.specs.Limits.{max_spans, point_total}
use Rattle.network.specs.Lanes.{driving, drives_table}
use Rattle.network.specs.Tables.{Row, lane_at, lanes_from}
use Rattle.plan.specs.Accepted.{Accepted}
use Rattle.plan.specs.Rows.{lanes_size}
use Rattle.plan_format.specs.Plan.{Plan, lane_count}
use Rattle.plan_format.specs.Reading.{sum}
use Rattle.plan_format.specs.Records as records
use Rattle.plan_format.specs.Tables.{plan_rows}
use Rattle.rows.specs.Rows.{arcs_of, point_count, points_of}
use Rattle.tables.specs.LaneTables.{lane_rows, no_lane}
use Rattle.tables.specs.Lines.{arcs_are, arcs_within_law, count_is, number_is, points_are, points_within, type_is}
use Rattle.nearest.specs.Nearest.{Searchable, lanes_after, lanes_of, row_lane}

after_length : (row : ℕ) (ls : List records.Lane) → length (lanes_after row ls) ≡ length ls
unfolding lanes_after
after_length row [] = refl
after_length row (l ∷ ls) = ap suc (after_length (suc row) ls)

after_points : (row : ℕ) (ls : List records.Lane) → point_total (lanes_after row ls) ≡ sum (map lane_count ls)
unfolding lanes_after point_total sum
after_points row [] = refl
after_points row (l ∷ ls) = ap (λ (n : ℕ). l.count + n) (after_points (suc row) ls)

module _ (p : Plan) (A : Accepted p) where
  module _ (i : ℕ) (h : i < length p.lanes) where
    abbrev l : records.Lane
    l = get_or p.lanes i no_lane

    lane_is : lane_at (plan_rows p).lanes (plan_rows p).points i ≡ row_lane i l
    unfolding lane_at
    lane_is =
        let number = number_is p A i no_lane h in
        let type = type_is p A i no_lane h in
        let many = count_is p A i no_lane h in
        let line = points_are p A i no_lane h in
        rw (line, number, type, many) refl

    row_is : Row (plan_rows p).lanes (plan_rows p).points drives_table i
    row_is =
        let ok = A.lane i no_lane h in
        let size = lanes_size p A in
        let type = type_is p A i no_lane h in
        let many = count_is p A i no_lane h in
        let t = ok.type in
        let two = ok.two in
        let within = points_within p A i no_lane h in
        record { in_table = omega arith; kind = omega arith; two = omega arith; within = omega arith }

    arcs_at : arcs_of (plan_rows p).lanes (lane_rows p).cumulative i
        ≡ cumulative_of (points_of (plan_rows p).lanes (plan_rows p).points i) (point_count (plan_rows p).lanes i)
    arcs_at = arcs_are p A i no_lane h ∙ ap₂ cumulative_of (sym (points_are p A i no_lane h)) (sym (count_is p A i no_lane h))

  lanes_from_law : (k i : ℕ) → i + k ≡ length p.lanes
      → lanes_from (plan_rows p).lanes (plan_rows p).points k i ≡ lanes_after i (drop i p.lanes)
  unfolding lanes_from lanes_after
  lanes_from_law zero i e =
      let past : length p.lanes ≤ i = omega arith in
      rw (drop_of_length-le p.lanes past) refl
  lanes_from_law (suc k) i e =
      let here = lane_is i (omega arith) in
      let rest = lanes_from_law k (suc i) (omega arith) in
      rw (drop-cons p.lanes i no_lane (omega arith)) (cc)

  pub lanes_are : lanes_from (plan_rows p).lanes (plan_rows p).points (length p.lanes) 0 ≡ lanes_of p
  lanes_are = lanes_from_law (length p.lanes) 0 (omega arith)

  -- 256 lanes and 4,096 points at most
  pub few_spans : length (driving drives_table (lanes_of p)) ≤ 1152
  few_spans =
      let n = after_length 0 p.lanes in
      let m = after_points 0 p.lanes in
      max_spans drives_table (lanes_of p) (omega (arith, A.limited.lanes)) (omega (arith, A.limited.points))

  pub searchable : Searchable (plan_rows p).lanes (plan_rows p).points (lane_rows p).cumulative (length p.lanes)
  searchable =
      record {
        rows = record { each = λ i h. row_is i h };
        arcs = record { within = λ i h. arcs_within_law p A i no_lane h; each = λ i h. arcs_at i h };
        few = rw lanes_are few_spans;
      }
