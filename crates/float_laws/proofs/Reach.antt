-- Where rounding overflows: exactly from the middle of the largest value and the next power of two on.
use mathlib.Core.Path.{◌≡◌, refl, sym, ap, ◌∙◌, subst}
use mathlib.Core.Logic.{◌⊎◌, inl, inr}
use Prim.Native.Nat.{ℕ, ◌+◌, ◌-◌, ◌*◌, ◌%◌, ◌^◌, ◌≤◌, ◌<◌}
use native.Mathlib.Nat.{le_trans, le_of_eq, le_antisymm, lt_of_lt_of_le, lt_of_not-le, not-le_of_lt, mul-le-mul, mul-le-mul_left}
use native.Mathlib.Nat.{mul-le-mul_right, mul-lt-mul_of_pos_right, le_of_mul-le-mul_right, pow-succ'}
use native.Mathlib.Omega.{arith}
use lib.Dec.{lit≤}
use lib.Pow.{pow_pos, pow_mono}
use lib.Ieee.{Format, binary32, binary64, prec, hid, ones}
use lib.Ieee.Scale.{overflow}
use Rattle.exact.specs.Naturals.{lt_or_le}
use Rattle.exact.specs.Patterns.{twice_hid}
use Rattle.float_laws.specs.Nearest.{reach}
use Rattle.exact.specs.Rounding.{Kept}

-- ---- the numbers of a format
overflow_is : (f : Format) → overflow f ≡ 2 ^ prec f * 2 ^ (ones f - 2)
overflow_is binary32 = refl
overflow_is binary64 = refl

large_hid : (f : Format) → 2 ≤ hid f
large_hid binary32 = lit≤ tt
large_hid binary64 = lit≤ tt

module _ (f : Format) (n den q k : ℕ) (D : 0 < den) (K : Kept (prec f) n den q k) where
  abbrev h : ℕ
  h = hid f

  abbrev c : ℕ
  c = ones f - 2

  most : q ≤ 2 * h
  most = le_trans K.most (le_of_eq (twice_hid f))

  -- twice 2 ^ c from c + 1 steps on
  above : c < k → 2 * 2 ^ c ≤ 2 ^ k
  above l = le_trans (le_of_eq (sym (pow-succ' 2 c))) (pow_mono l)

  below : k < c → 2 * 2 ^ k ≤ 2 ^ c
  below l = le_trans (le_of_eq (sym (pow-succ' 2 k))) (pow_mono l)

  positive : c ≤ k → 0 < k
  positive l = lt_of_lt_of_le (some f) l
    where
      some : (f : Format) → 0 < ones f - 2
      some binary32 = lit≤ tt
      some binary64 = lit≤ tt

  three : (k < c) ⊎ ((k ≡ c) ⊎ (c < k))
  three = go (lt_or_le k c) (lt_or_le c k)
    where
      go : (k < c) ⊎ (c ≤ k) → (c < k) ⊎ (k ≤ c) → (k < c) ⊎ ((k ≡ c) ⊎ (c < k))
      go (inl x) y = inl x
      go (inr x) (inl y) = inr (inr y)
      go (inr x) (inr y) = inr (inl (le_antisymm y x))

  -- h or more of more than 2 ^ c
  beyond : c < k → 2 * h * 2 ^ c ≤ q * 2 ^ k
  beyond l = more (2 ^ c) (2 ^ k) (above l) (K.least (positive (le_trans (omega arith) l)))
    where
      more : (x y : ℕ) → 2 * x ≤ y → h ≤ q → 2 * h * x ≤ q * y
      more x y a b = le_trans (let g : 2 * h * x ≤ h * y = omega (arith, mul-le-mul_left h a) in g) (mul-le-mul_right y b)

  -- ---- with 2 * h for 2 ^ prec and o for 4 * h - 1
  abbrev Far : Type 0
  Far = 2 * h * 2 ^ c ≤ q * 2 ^ k

  abbrev Over : Type 0
  Over = (2 * (2 * h) - 1) * 2 ^ c * den ≤ 2 * n

  far_over : Far → Over
  far_over g = go three
    where
      odd : 2 * (2 * h) - 1 + 1 ≡ 4 * h
      odd = let l = large_hid f in omega arith

      none : (x y m : ℕ) → q ≤ m → 2 * x ≤ y → 0 < x → m * y ≤ q * x → 0 < m → ⊥
      none x y m p r X l M = omega (arith, mul-le-mul_right x p, mul-le-mul_left m r, mul-lt-mul_of_pos_right M X)

      exact : (o x : ℕ) → o + 1 ≡ 4 * h → 2 * h ≤ q → q * (den * x) * 2 ≤ n * 2 + den * x → o * x * den ≤ 2 * n
      exact o x e l y = omega (arith, ap (λ (z : ℕ). z * (x * den)) e, mul-le-mul_right (x * den) l)

      more : (o x y : ℕ) → o + 1 ≡ 4 * h → 2 * x ≤ y → h * y * den ≤ n → o * x * den ≤ 2 * n
      more o x y e l m = omega (arith, ap (λ (z : ℕ). z * (x * den)) e, mul-le-mul_left (h * den) l)

      go : (k < c) ⊎ ((k ≡ c) ⊎ (c < k)) → Over
      go (inl l) = absurd (none (2 ^ k) (2 ^ c) (2 * h) most (below l) (pow_pos k) g (let x = large_hid f in omega arith))
      go (inr (inl e)) =
          exact (2 * (2 * h) - 1) (2 ^ c) odd (le_of_mul-le-mul_right (subst (λ (x : ℕ). 2 * h * 2 ^ c ≤ q * 2 ^ x) e g) (pow_pos c))
          (subst (λ (x : ℕ). q * (den * 2 ^ x) * 2 ≤ n * 2 + den * 2 ^ x) e K.near.over)
      go (inr (inr l)) = more (2 * (2 * h) - 1) (2 ^ c) (2 ^ k) odd (above l) (K.large (positive (le_trans (omega arith) l)))

  over_far : Over → Far
  over_far r = go three
    where
      odd : 2 * (2 * h) - 1 + 1 ≡ 4 * h
      odd = let l = large_hid f in omega arith

      -- the fraction is at most q + 1/2 steps
      near_by : (o x p : ℕ) → n * 2 ≤ q * (den * p) * 2 + den * p → o * x * den ≤ 2 * n → o * x ≤ (q * 2 + 1) * p
      near_by o x p a b = le_of_mul-le-mul_right (let g : o * x * den ≤ (q * 2 + 1) * p * den = omega arith in g) D

      none : (o x y : ℕ) → o + 1 ≡ 4 * h → 2 ≤ h → q ≤ 2 * h → 2 * y ≤ x → 0 < y → o * x ≤ (q * 2 + 1) * y → ⊥
      none o x y e H Q l Y s = omega (arith, ap (λ (z : ℕ). z * y) e, mul-le-mul_left o l, mul-le-mul_right y Q, mul-le-mul_right y H)

      -- in the middle the even one is taken, which 2 * h - 1 is not
      tied : (o x : ℕ) → o + 1 ≡ 4 * h → q + 1 ≡ 2 * h → n * 2 ≤ q * (den * x) * 2 + den * x → o * x * den ≤ 2 * n
          → n * 2 ≡ q * (den * x) * 2 + den * x
      tied o x e g a b = le_antisymm a (omega (arith, ap (λ (z : ℕ). z * (x * den)) e, ap (λ (z : ℕ). z * (x * den)) g))

      not_even : q + 1 ≡ 2 * h → q % 2 ≡ 0 → ⊥
      not_even e g = omega arith

      at : k ≡ c → 2 * h ≤ q
      at e = by (lt_or_le q (2 * h))
        where
          o : (2 * (2 * h) - 1) * 2 ^ c ≤ (q * 2 + 1) * 2 ^ k
          o = near_by (2 * (2 * h) - 1) (2 ^ c) (2 ^ k) K.near.under r

          least : 2 * (2 * h) - 1 ≤ q * 2 + 1
          least = le_of_mul-le-mul_right (subst (λ (x : ℕ). (2 * (2 * h) - 1) * 2 ^ c ≤ (q * 2 + 1) * 2 ^ x) e o) (pow_pos c)

          by : (q < 2 * h) ⊎ (2 * h ≤ q) → 2 * h ≤ q
          by (inr l) = l
          by (inl l) =
              let g : q + 1 ≡ 2 * h = let x = least in omega arith in
              absurd (not_even g (K.near.tie_under
              (tied (2 * (2 * h) - 1) (2 ^ k) odd g K.near.under
              (subst (λ (x : ℕ). (2 * (2 * h) - 1) * 2 ^ x * den ≤ 2 * n) (sym e) r))))

      go : (k < c) ⊎ ((k ≡ c) ⊎ (c < k)) → Far
      go (inl l) =
          absurd (none (2 * (2 * h) - 1) (2 ^ c) (2 ^ k) odd (large_hid f) most (below l) (pow_pos k)
          (near_by (2 * (2 * h) - 1) (2 ^ c) (2 ^ k) K.near.under r))
      go (inr (inl e)) = mul-le-mul (at e) (pow_mono (le_of_eq (sym e)))
      go (inr (inr l)) = beyond l

  -- ---- in the format's own numbers
  far_is : 2 * h * 2 ^ c ≡ overflow f
  far_is = sym (overflow_is f ∙ ap (λ (x : ℕ). x * 2 ^ c) (twice_hid f))

  over_is : (2 * (2 * h) - 1) * 2 ^ c * den ≡ reach f * den
  over_is = ap (λ (x : ℕ). (2 * x - 1) * 2 ^ c * den) (sym (twice_hid f))

  pub in_reach : 2 * n < reach f * den → q * 2 ^ k < overflow f
  in_reach r =
      lt_of_not-le (λ (g : overflow f ≤ q * 2 ^ k). not-le_of_lt r
      (le_trans (le_of_eq (sym over_is)) (far_over (le_trans (le_of_eq far_is) g))))

  pub out_of_reach : reach f * den ≤ 2 * n → overflow f ≤ q * 2 ^ k
  out_of_reach r = le_trans (le_of_eq (sym far_is)) (over_far (le_trans (le_of_eq over_is) r))

  -- a value that does not overflow has a field below the infinity's
  pub few_steps : q * 2 ^ k < overflow f → k ≤ c
  few_steps l = go (lt_or_le c k)
    where
      go : (c < k) ⊎ (k ≤ c) → k ≤ c
      go (inr x) = x
      go (inl x) = absurd (not-le_of_lt l (le_trans (le_of_eq (sym far_is)) (beyond x)))
