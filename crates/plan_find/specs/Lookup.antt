-- A lookup in the rows of an accepted plan finds what the plan has.
use Rattle.std.specs.Prelude.{Bool, List, [], map, ◌∷◌, refl, ◌≡◌, suc, ℕ, ◌*◌, ◌+◌, ◌<◌, eqb, get_or, length}
use Rattle.std.proofs.Common.{arith}
use Rattle.std.proofs.lemmas.List.{length-map}
use Rattle.plan.specs.Accepted.{Accepted}
use Rattle.plan.specs.Rows.{lane_entry}
use Rattle.plan_find.specs.FirstRow.{first_row, is_lane}
use Rattle.plan_format.specs.Laws.{get_or_map_in}
use Rattle.plan_format.specs.Plan.{Plan, index_of, lane_of, number_of}
use Rattle.plan_format.specs.Records.{Lane}
use Rattle.plan_format.specs.Tables.{plan_rows}

-- a search by a test that says of each row whether a list has n there
row_index : (test : ℕ → Bool) (n : ℕ) (xs : List ℕ) (i d : ℕ) → ((j : ℕ) → j < length xs → test (i + j) ≡ eqb (get_or xs j 0) n)
    → first_row test (length xs) i d ≡ index_of n xs i d
unfolding first_row index_of
row_index test n [] i d e = refl
row_index test n (x ∷ xs) i d e =
    let here : test i ≡ eqb x n = (let z : i + 0 ≡ i = omega arith in rw z at (e 0 (omega arith))) in
    let rest = row_index test n xs (i + 1) d (λ j h. let z : i + 1 + j ≡ i + suc j = omega arith in rw z (e (suc j) (omega arith))) in
    rw (here, rest)

module _ (p : Plan) (A : Accepted p) (e : Lane) where
  -- the lane with the number n has the row that the plan gives it
  pub find_lane : (n : ℕ) → first_row (is_lane (plan_rows p).lanes n) (length p.lanes) 0 256 ≡ lane_of p n
  find_lane n =
      rw (← length-map p.lanes number_of)
      (row_index (is_lane (plan_rows p).lanes n) n (map number_of p.lanes) 0 256 number)
    where
      number : (j : ℕ) → j < length (map number_of p.lanes)
          → eqb (get_or (plan_rows p).lanes (6 * (0 + j)) 0) n ≡ eqb (get_or (map number_of p.lanes) j 0) n
      number j h =
          let l : j < length p.lanes = omega (arith, length-map p.lanes number_of) in
          let z : 6 * (0 + j) ≡ 6 * j + 0 = omega arith in
          rw (z, lane_entry p A j 0 e l (omega arith), get_or_map_in number_of p.lanes j e 0 l)
