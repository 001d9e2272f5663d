-- std's decimal text is that of `Numerals`.
use Rattle.std.specs.Prelude.{List, [], ◌++◌, ◌∷◌, ◌≡◌, suc, zero, ℕ, ◌%◌, ◌+◌, ◌/◌, ◌<◌, ◌^◌, ◌≤◌, ltb, decimal}
use Rattle.std.proofs.Common.{ap, arith, le-ltb, lt-ltb, le_refl}
use Rattle.std.proofs.lemmas.Fmt.{decimal_by_steps}
use Rattle.text.specs.Numerals.{decimal_of, digits_of, digit_count, digit_count_by}

-- the digits of n, counted at most k + 1
spelt : ℕ → ℕ → List ℕ
spelt k n = digits_of (digit_count_by k (ltb n 10) n) n

-- a number of at most k, however it is counted, has the digits ds
abbrev Spells : ℕ → List ℕ → Type 0
Spells n ds = (k : ℕ) → n ≤ k → spelt k n ≡ ds

one : (n : ℕ) → n < 10 → Spells n ((48 + n) ∷ [])
unfolding spelt digits_of digit_count_by
one n h zero l = let e : n % 10 ≡ n = omega arith in rw e
one n h (suc k) l = let e : n % 10 ≡ n = omega arith in rw (lt-ltb n 10 h, e)

one_add : (k : ℕ) → 1 + k ≡ suc k
one_add k = omega arith

more : (n : ℕ) (ds : List ℕ) → 10 ≤ n → Spells (n / 10) ds → Spells n (ds ++ ((48 + n % 10) ∷ []))
unfolding spelt digits_of digit_count_by
more n ds h S zero l = absurd (omega arith)
more n ds h S (suc k) l =
    rw (le-ltb n 10 h, one_add (digit_count_by k (ltb (n / 10) 10) (n / 10))) (ap (λ (t : List ℕ). t ++ ((48 + n % 10) ∷ [])) (S k (omega arith)))

pub decimal_is : (n : ℕ) → n < 2 ^ 64 → decimal_of n ≡ decimal n
unfolding decimal_of digit_count spelt
decimal_is n h = decimal_by_steps Spells one more n h n (le_refl n)
