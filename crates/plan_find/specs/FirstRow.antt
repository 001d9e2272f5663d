-- The first of n rows, from the i-th on, that a test takes; d where it takes none.
use Rattle.std.specs.Prelude.{Bool, cond, false, true, List, refl, ◌≡◌, suc, zero, ℕ, ◌*◌, ◌+◌, ◌-◌, ◌<◌, ◌≤◌, eqb, get_or}
use Rattle.std.specs.Prelude.{Option, None, Some, MatchOption, unwrap_or}
use Rattle.std.proofs.Common.{ap, sym, ◌∙◌, arith}

unfoldable pub first_row : (ℕ → Bool) → ℕ → ℕ → ℕ → ℕ
first_row test zero i d = d
first_row test (suc n) i d = cond (test i) i (first_row test n (i + 1) d)

-- row i of the table of lanes has this number
abbrev pub is_lane : List ℕ → ℕ → ℕ → Bool
is_lane t n i = eqb (get_or t (6 * i) 0) n

first_zero : (test : ℕ → Bool) (i d : ℕ) → first_row test zero i d ≡ d
unfolding first_row
first_zero test i d = refl

pub first_step : (test : ℕ → Bool) (n i d : ℕ) → first_row test (suc n) i d ≡ cond (test i) i (first_row test n (i + 1) d)
unfolding first_row
first_step test n i d = refl

-- one turn of the search
module _ (test : ℕ → Bool) (n i d : ℕ) where
  pub row_here : i < n → test i ≡ true → first_row test (n - i) i d ≡ i
  row_here h e = go (n - i) (omega arith)
    where
      go : (k : ℕ) → 0 < k → first_row test k i d ≡ i
      go zero l = absurd (omega arith)
      go (suc k) l = first_step test k i d ∙ rw e

  pub row_later : i < n → test i ≡ false → first_row test (n - (i + 1)) (i + 1) d ≡ first_row test (n - i) i d
  row_later h e =
      let z : n - i ≡ suc (n - (i + 1)) = omega arith in
      sym (ap (λ (k : ℕ). first_row test k i d) z ∙ first_step test (n - (i + 1)) i d ∙ rw e)

  pub row_none : n ≤ i → first_row test (n - i) i d ≡ d
  row_none h = let z : n - i ≡ 0 = omega arith in ap (λ (k : ℕ). first_row test k i d) z ∙ first_zero test i d

-- rows that the test does not take are passed over
row_past : (test : ℕ → Bool) (n d i : ℕ) → i ≤ n → ((k : ℕ) → k < i → test k ≡ false) → first_row test (n - i) i d ≡ first_row test n 0 d
row_past test n d zero h f = let z : n - 0 ≡ n = omega arith in rw z
row_past test n d (suc i) h f =
    let one : suc i ≡ i + 1 = omega arith in
    rw one (row_later test n i d (omega arith) (f i (omega arith)) ∙ row_past test n d i (omega arith) (λ k l. f k (omega arith)))

-- what a search finds, in words: a row that the test takes, and none before it; or the test takes none
abbrev pub FirstOf : (ℕ → Bool) → ℕ → Option ℕ → Type 0
FirstOf test n r =
    MatchOption r ((k : ℕ) → k < n → test k ≡ false) (λ i. (i < n) × (test i ≡ true) × ((k : ℕ) → k < i → test k ≡ false))

pub row_is : (test : ℕ → Bool) (n d : ℕ) (r : Option ℕ) → FirstOf test n r → unwrap_or r d ≡ first_row test n 0 d
row_is test n d None h = sym (row_none test n n d (omega arith)) ∙ row_past test n d n (omega arith) h
row_is test n d (Some i) h = sym (row_here test n i d h.0 h.1) ∙ row_past test n d i (omega arith) h.2
