-- The rows of an accepted plan by lanes: the i-th lane's fields, points, arc lengths and tangents as a reader finds them in the tables, and
-- what its polyline guarantees.
use Rattle.std.specs.Prelude.{false, true, map, refl, ◌≡◌, ℕ, ◌*◌, ◌+◌, ◌-◌, ◌<◌, ◌≤◌, T, Float, pos, get_or, length, take}
use Rattle.std.proofs.Common.{ap, subst, sym, ◌∙◌}
use native.Mathlib.Omega.{arith}
use Rattle.std.specs.Float.{binary32, fin, nan}
use Rattle.std.specs.Float.Ieee.{le, of_bits}
use Rattle.exact.specs.Sums.{LinkCost}
use Rattle.geometry.specs.Partition.{Rising}
use Rattle.geometry.specs.Polyline.{Line, arc_length}
use Rattle.geometry.specs.PolylineLaws.{length_cumulative, length_tangents}
use Rattle.geometry_laws.proofs.Cumulative.{cumulative_rises, length_cost}
use Rattle.geometry_laws.specs.Range.{Coordinates, InRange}
use Rattle.plan.specs.Accepted.{Accepted}
use Rattle.plan.specs.Rows.{lane_entry, points_end, points_part, points_size, run_part, runs_length}
use Rattle.plan_format.specs.Laws.{and_fst, and_snd}
use Rattle.plan_format.specs.Plan.{Plan, lane_count}
use Rattle.plan_format.specs.Reading.{sum}
use Rattle.plan_format.specs.Records.{Lane}
use Rattle.plan_format.specs.Tables.{lane_row, plan_rows}
use Rattle.rows.specs.Rows.{arcs_of, direction_of, end_point, first_point, lane_number, length_of, points_of, tangents_of, type_of}
use Rattle.tables.specs.LaneTables.{cumulative_row, ends_of, lane_rows, tangent_row}

-- an arc length for each point, three entries of a tangent
pub cumulative_length : (l : Lane) → length (cumulative_row l) ≡ l.count
cumulative_length l = length_cumulative l.points l.count

pub tangent_length : (l : Lane) → length (tangent_row l) ≡ 3 * l.count
tangent_length l = length_tangents l.points l.count (ends_of l) l.count

-- the ends of the range, as `coordinate` and as geometry_laws write them
low_end : of_bits binary32 0xc5800000 ≡ fin true 1 (pos 12)
unfolding of_bits
low_end = refl

high_end : of_bits binary32 0x45800000 ≡ fin false 1 (pos 12)
unfolding of_bits
high_end = refl

-- SIZES of the two tables
module _ (p : Plan) where
  pub cumulative_size : length (lane_rows p).cumulative ≡ sum (map lane_count p.lanes)
  unfolding lane_rows
  cumulative_size =
      let e = runs_length cumulative_row 1 lane_count p.lanes (λ j e m. let z = cumulative_length (get_or p.lanes j e) in omega arith) in
      omega arith

  pub tangents_size : length (lane_rows p).tangents ≡ 3 * sum (map lane_count p.lanes)
  unfolding lane_rows
  tangents_size = runs_length tangent_row 3 lane_count p.lanes (λ j e m. tangent_length (get_or p.lanes j e))

-- THE i-TH LANE, any e standing for a lane past the end
module _ (p : Plan) (A : Accepted p) (i : ℕ) (e : Lane) (h : i < length p.lanes) where
  abbrev l : Lane
  l = get_or p.lanes i e

  -- how many points the lanes before it have
  abbrev before : ℕ
  before = sum (map lane_count (take i p.lanes))

  entry : (k : ℕ) → k < 6 → get_or (plan_rows p).lanes (6 * i + k) 0 ≡ get_or (lane_row before l) k 0
  entry k b = lane_entry p A i k e h b

  pub number_is : lane_number (plan_rows p).lanes i ≡ l.number
  number_is = let z : 6 * i ≡ 6 * i + 0 = omega arith in rw z (entry 0 (omega arith))

  pub type_is : type_of (plan_rows p).lanes i ≡ l.type
  type_is = entry 1 (omega arith)

  pub direction_is : direction_of (plan_rows p).lanes i ≡ l.direction
  direction_is = entry 2 (omega arith)

  pub ends_is : get_or (plan_rows p).lanes (6 * i + 3) 0 ≡ l.ends
  ends_is = entry 3 (omega arith)

  pub first_is : first_point (plan_rows p).lanes i ≡ before
  first_is = entry 4 (omega arith)

  pub count_is : get_or (plan_rows p).lanes (6 * i + 5) 0 ≡ l.count
  count_is = entry 5 (omega arith)

  pub end_is : end_point (plan_rows p).lanes i ≡ before + l.count
  end_is = rw (first_is, count_is)

  -- its points, arc lengths and tangents, cut out of their tables
  pub points_are : points_of (plan_rows p).lanes (plan_rows p).points i ≡ l.points
  points_are =
      let n : 3 * (before + l.count) - 3 * before ≡ 3 * l.count = omega arith in
      rw (first_is, count_is, n) (points_part p A i e h)

  pub arcs_are : arcs_of (plan_rows p).lanes (lane_rows p).cumulative i ≡ cumulative_row l
  unfolding lane_rows
  arcs_are =
      let n : before + l.count - before ≡ 1 * l.count = omega arith in
      let f : before ≡ 1 * before = omega arith in
      rw (first_is, count_is, n, f)
      (run_part cumulative_row 1 lane_count p.lanes e (λ j m. let z = cumulative_length (get_or p.lanes j e) in omega arith) i h)

  pub tangents_are : tangents_of (plan_rows p).lanes (lane_rows p).tangents i ≡ tangent_row l
  unfolding lane_rows
  tangents_are =
      let n : 3 * (before + l.count) - 3 * before ≡ 3 * l.count = omega arith in
      rw (first_is, count_is, n)
      (run_part tangent_row 3 lane_count p.lanes e (λ j m. tangent_length (get_or p.lanes j e)) i h)

  pub length_is : length_of (plan_rows p).lanes (lane_rows p).cumulative i ≡ arc_length (cumulative_row l)
  length_is = ap arc_length arcs_are

  -- they lie within the tables
  pub points_within : 3 * end_point (plan_rows p).lanes i ≤ length (plan_rows p).points
  points_within = let z = end_is in let w = points_end p A i e h in omega arith

  pub arcs_within_law : end_point (plan_rows p).lanes i ≤ length (lane_rows p).cumulative
  arcs_within_law =
      let w = points_within in
      let a = points_size p A in
      let b = cumulative_size p in
      omega arith

  pub tangents_within : 3 * end_point (plan_rows p).lanes i ≤ length (lane_rows p).tangents
  tangents_within =
      let w = points_within in
      let a = points_size p A in
      let b = tangents_size p in
      omega arith

  -- its polyline: at most 4,096 points, each coordinate in range; the arc lengths never fall, and the last is a cost of a link
  pub few : l.count ≤ 4096
  few =
      let w = points_end p A i e h in
      let a = points_size p A in
      omega (arith, A.limited.points)

  pub coordinates : Coordinates l.points
  coordinates = record { each = λ j b. let z = (A.lane i e h).size in in_range_law j (omega arith) }
    where
      in_range_law : (j : ℕ) → j < 3 * l.count → InRange (get_or l.points j nan)
      in_range_law j b =
          let x = get_or l.points j nan in
          let c = (A.lane i e h).coordinates j nan b in
          record {
            held = (A.lane i e h).held j nan b;
            low = subst T (sym (and_fst _ _ c) ∙ ap (λ (a : Float). le a x) low_end) tt;
            high = subst T (sym (and_snd (le (of_bits binary32 0xc5800000) x) _ c) ∙ ap (λ (a : Float). le x a) high_end) tt;
          }

  pub line : Line l.points (cumulative_row l)
  line =
      let n = cumulative_length l in
      let s = (A.lane i e h).size in
      let t = (A.lane i e h).two in
      record { two = omega arith; points = omega arith }

  pub rising : Rising (cumulative_row l)
  rising =
      let s = (A.lane i e h).size in
      cumulative_rises l.points coordinates l.count (omega (arith, few)) (omega arith)

  pub cost : LinkCost (arc_length (cumulative_row l))
  cost =
      let s = (A.lane i e h).size in
      let t = (A.lane i e h).two in
      length_cost l.points coordinates l.count (omega (arith, few)) (omega arith) (omega arith)
