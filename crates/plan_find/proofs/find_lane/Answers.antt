-- What the search says of each row that it read is what the definition asks of it.
use Rattle.std.specs.Prelude.{Bool, false, true, Option, None, Some, MatchOption, HoldsAt, get_or, length, refl, ◌≡◌, ℕ, ◌<◌}
use Rattle.std.specs.List.{AllWithin, range_with_len}
use Rattle.std.proofs.Common.{arith, rules, subst, ◌∙◌}
use Rattle.std.proofs.lemmas.Iterator.{YieldsList-from_range, IsFirst-from_position}
use Rattle.std.proofs.lemmas.List.FromFn.{length-range_with_len, get_or-range_with_len}
use Rattle.plan_find.specs.FirstRow.{FirstOf, is_lane, row_is}
use Rattle.plan_find.proofs.find_lane.Goals as goal

-- the k-th of the first n rows is row k
taken : (P : ℕ → Type 0) (n k : ℕ) → k < n → HoldsAt P (range_with_len 0 n) k → P k
taken P n k l h =
    let is : get_or (range_with_len 0 n) k 0 ≡ k = get_or-range_with_len 0 n k 0 l ∙ omega arith in
    subst P is (h 0)

first_of : (test : ℕ → Bool) (n : ℕ) (r : Option ℕ)
    → MatchOption r (AllWithin (λ i. test i ≡ false) (range_with_len 0 n) 0 (length (range_with_len 0 n)))
    (λ i. (i < length (range_with_len 0 n)) × HoldsAt (λ k. test k ≡ true) (range_with_len 0 n) i
    × AllWithin (λ k. test k ≡ false) (range_with_len 0 n) 0 i)
    → FirstOf test n r
first_of test n None h =
    λ k l. taken (λ i. test i ≡ false) n k l (λ d. h k d (omega arith) (omega (arith, length-range_with_len 0 n)))
first_of test n (Some i) h =
    let l : i < n = omega (arith, h.0, length-range_with_len 0 n) in
    (l, taken (λ k. test k ≡ true) n i l h.1, λ k m. taken (λ j. test j ≡ false) n k (omega arith) (λ d. h.2 k d (omega arith) m))

pub returns-clause-found : goal.returns-clause-found
returns-clause-found c =
    let test = is_lane c.args.lanes.now c.args.id.0 in
    let n = c.args.count in
    first_of test n c.position.result
    (IsFirst-from_position _ _ c.position.result (λ i. test i ≡ true) (λ i. test i ≡ false) c.position.ensures.ran
    (YieldsList-from_range 0 n n refl (omega arith)) (λ x q k. search rules) (λ x q k. search rules))

pub returns-clause-row : goal.returns-clause-row
returns-clause-row c = row_is (is_lane c.args.lanes.now c.args.id.0) c.args.count 256 c.position.result (returns-clause-found c)
