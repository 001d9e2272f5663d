-- The counts of an answer are within the lists that were lent for it, and these are as long as before.
use Rattle.std.specs.Prelude.{Bool, cond, ◌&&◌, ◌≡◌, ℕ, ◌*◌, ◌≤◌, ltb, Float}
use Rattle.std.proofs.Math.Bool.{false, true}
use mathlib.Core.List.{List, [], ◌∷◌}
use Rattle.std.proofs.Math.Path.{refl}
use native.Mathlib.Omega.{arith}
use Rattle.std.proofs.Math.Dec.{leb}
use Rattle.std.specs.Float.Ieee.Scale.{finite}
use Rattle.std.proofs.Math.ListN.{length, length-append}
use borrow.Author.Tests.{leb-true}
use Rattle.advance.specs.Advance.{Answer, advance_row, advance_rows, answered, answered_by, case_row, explored, metre_row, pick_answer}
use Rattle.advance.specs.Advance.{refused_with, rows_of}
use Rattle.advance.specs.InPlan.{advance_in, advance_of}
use Rattle.beside.specs.Beside.{in_section}
use Rattle.beside.specs.declared.LanePosition.{LanePosition}
use Rattle.branches.specs.Tables.{Tables}
use Rattle.coords.specs.declared.Point.{Point}
use Rattle.ends.specs.declared.Advance.{Advance as AdvanceCase}
use Rattle.lanes_route.specs.Route.{RouteLists, listed, route_of}
use Rattle.lists.specs.Over.{over, over_length}
use Rattle.plan_format.specs.Plan.{Decoded, accepted, refused}
use Rattle.road.specs.Along.{along_of}
use Rattle.route.specs.Route.{Routed, answer_of, fitted, refusal, route_in}
use Rattle.rows.specs.Rows.{place_of, placed_section, points_of, stations_of}

-- ---- a route

pub record RouteFits (r : RouteLists) (chain : List ℕ) (waypoints : List Float) : Type 0 where
  pub lanes : r.answer.lanes ≤ length chain
  pub points : 3 * r.answer.points ≤ length waypoints
  pub chain_kept : length r.chain ≡ length chain
  pub waypoints_kept : length r.waypoints ≡ length waypoints

module _ (chain : List ℕ) (waypoints : List Float) where
  within : (R : Routed) → length R.chain ≤ length chain → length R.points ≤ length waypoints
      → RouteFits (listed R chain waypoints) chain waypoints
  unfolding answer_of
  within R h l =
      record {
        lanes = h;
        points = omega arith;
        chain_kept = over_length R.chain chain h;
        waypoints_kept = over_length R.points waypoints l;
      }

  fitted_fits : (R : Routed) → RouteFits (listed (fitted (length chain) (length waypoints) R) chain waypoints) chain waypoints
  unfolding fitted
  fitted_fits R = by (leb (length R.chain) (length chain)) (leb (length R.points) (length waypoints)) refl refl
    where
      by : (a b : Bool) → leb (length R.chain) (length chain) ≡ a → leb (length R.points) (length waypoints) ≡ b
          → RouteFits (listed (cond (a && b) R (refusal 14)) chain waypoints) chain waypoints
      by true true e f = within R (leb-true _ _ e) (leb-true _ _ f)
      by true false e f = within (refusal 14) (omega arith) (omega arith)
      by false b e f = within (refusal 14) (omega arith) (omega arith)

  pub route_fits : (d : Decoded) (from to : Point) → RouteFits (route_of d from to chain waypoints) chain waypoints
  unfolding route_in
  route_fits (refused k) from to = within (refusal k) (omega arith) (omega arith)
  route_fits (accepted p) from to = fitted_fits _

-- ---- an advance

pub record AdvanceFits (a : Answer) (rows : List ℕ) (metres : List Float) : Type 0 where
  pub cases : 2 * a.advanced.positions ≤ length rows
  pub places : 3 * a.advanced.positions ≤ length metres
  pub rows_kept : length a.rows ≡ length rows
  pub metres_kept : length a.metres ≡ length metres

module _ {A : Type 0} (row : AdvanceCase → List A) (k : ℕ) (long : (x : AdvanceCase) → length (row x) ≡ k) where
  rows_length : (out : List AdvanceCase) → length (rows_of row out) ≡ k * length out
  unfolding rows_of
  rows_length [] = omega arith
  rows_length (x ∷ xs) =
      let e = length-append (rows_of row xs) (row x) in
      let l = long x in
      let r = rows_length xs in
      omega arith

module _ (rows : List ℕ) (metres : List Float) where
  refused_fits : (number : ℕ) → AdvanceFits (refused_with number rows metres) rows metres
  refused_fits number = record { cases = omega arith; places = omega arith; rows_kept = refl; metres_kept = refl }

  pick_fits : (b : Bool) (x y : Answer) → AdvanceFits x rows metres → AdvanceFits y rows metres → AdvanceFits (pick_answer b x y) rows metres
  pick_fits true x y X Y = X
  pick_fits false x y X Y = Y

  abbrev given : ℕ → List AdvanceCase → Answer
  given keys out =
      record {
        advanced = record { number = 0; keys = keys; positions = length out };
        rows = over (rows_of case_row out) rows;
        metres = over (rows_of metre_row out) metres;
      }

  answered_fits : (full : Bool) (keys : ℕ) (out : List AdvanceCase) → AdvanceFits (answered_by full keys out rows metres) rows metres
  unfolding answered_by
  answered_fits true keys out = refused_fits 14
  answered_fits false keys out = by (leb (2 * length out) (length rows)) (leb (3 * length out) (length metres)) refl refl
    where
      by : (a b : Bool) → leb (2 * length out) (length rows) ≡ a → leb (3 * length out) (length metres) ≡ b
          → AdvanceFits (pick_answer (a && b) (given keys out) (refused_with 14 rows metres)) rows metres
      by true true e f =
          let h = leb-true (2 * length out) (length rows) e in
          let l = leb-true (3 * length out) (length metres) f in
          let m = rows_length case_row 2 (λ x. refl) out in
          let n = rows_length metre_row 3 (λ x. refl) out in
          record {
            cases = h;
            places = l;
            rows_kept = over_length (rows_of case_row out) rows (omega arith);
            metres_kept = over_length (rows_of metre_row out) metres (omega arith);
          }
      by true false e f = refused_fits 14
      by false b e f = refused_fits 14

  row_fits : (t : Tables) (bounds : List Float) (i : ℕ) (s offset distance : Float)
      → AdvanceFits (advance_row t bounds i s offset distance rows metres) rows metres
  unfolding advance_row
  row_fits t bounds i s offset distance =
      let p = place_of t.fans i in
      let j = placed_section t.places p in
      let arc = along_of (points_of t.lanes t.points i) (stations_of t.sections t.stations j) s in
      let q = explored t i arc offset distance in
      let x = answered q rows metres in
      pick_fits (ltb i t.lane_count && (ltb p t.place_count && in_section bounds j s))
      (pick_answer (finite distance) x (refused_with 13 rows metres)) (refused_with 12 rows metres)
      (pick_fits (finite distance) x (refused_with 13 rows metres)
      (answered_fits q.front.full (length q.front.entered) q.found.out) (refused_fits 13))
      (refused_fits 12)

  pub advance_fits : (d : Decoded) (from : LanePosition) (distance : Float) → AdvanceFits (advance_of d from distance rows metres) rows metres
  unfolding advance_in advance_rows
  advance_fits (refused k) from distance = refused_fits k
  advance_fits (accepted p) from distance = row_fits _ _ _ _ _ _
