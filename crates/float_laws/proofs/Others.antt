-- A fraction n / den of units, of which `round` keeps q steps of 2 ^ k units (`Kept`), lies on the side of q steps of its middle with
-- every other value of the format, or in the middle, and then q is even.
use mathlib.Core.Path.{◌≡◌, sym, ap, ◌∙◌, subst}
use mathlib.Core.Logic.{◌⊎◌, inl, inr}
use mathlib.Core.Bool.{false}
use Prim.Native.Nat.{ℕ, ◌+◌, ◌*◌, ◌%◌, ◌^◌, ◌≤◌, ◌<◌}
use native.Mathlib.Nat.{le_trans, le_of_eq, le_antisymm, lt_irrefl, lt_of_lt_of_le, lt_of_le_of_lt, eq-zero-or-pos, mul-one}
use native.Mathlib.Nat.{mul-le-mul_right, mul-lt-mul_of_pos_right, lt_of_mul-lt-mul_right}
use native.Mathlib.Omega.{arith}
use lib.Dec.{T}
use lib.Ieee.{Float, Format, prec, hid, fits}
use Rattle.exact.specs.Naturals.{lt_or_le}
use Rattle.exact.specs.Fits.{representable, whole_steps}
use Rattle.exact.specs.Rounding.{Kept}
use Rattle.float_laws.specs.Nearest.{Units}

-- v is a units
module _ (f : Format) (n den q k : ℕ) (D : 0 < den) (K : Kept (prec f) n den q k) (v : Float) (a : ℕ) (t : T (fits f v)) (h : Units f v a) where
  -- at or above 2 ^ (prec - 1) steps, and where no digit is dropped, v is a whole number of steps
  steps : (hid f * 2 ^ k ≤ a) ⊎ (k ≡ 0) → (c : ℕ) × (a ≡ c * 2 ^ k)
  steps (inl l) = whole_steps f a k (representable f v false a t h) l
  steps (inr z) = (a, sym (ap (λ (x : ℕ). a * 2 ^ x) z ∙ mul-one a))

  -- a value below q steps is a step lower, or q is the least number of prec digits and the fraction is no less
  abbrev Lower : Type 0
  Lower = (a + 2 ^ k ≤ q * 2 ^ k) ⊎ (q * 2 ^ k * den ≤ n)

  next : (c b p : ℕ) → c * p < b * p → c * p + p ≤ b * p
  next c b p l = omega (arith, mul-le-mul_right p (lt_of_mul-lt-mul_right p l))

  lower : a < q * 2 ^ k → Lower
  lower l = go (eq-zero-or-pos k) (lt_or_le a (hid f * 2 ^ k))
    where
      by_steps : (c : ℕ) × (a ≡ c * 2 ^ k) → Lower
      by_steps (c, e) = inl (subst (λ (x : ℕ). x + 2 ^ k ≤ q * 2 ^ k) (sym e) (next c q (2 ^ k) (lt_of_le_of_lt (le_of_eq (sym e)) l)))

      shorter : (m p : ℕ) → a < m * p → m < q → a + p ≤ q * p
      shorter m p x y = omega (arith, mul-le-mul_right p y)

      edge : (hid f < q) ⊎ (q ≤ hid f) → 0 < k → a < hid f * 2 ^ k → Lower
      edge (inl g) p y = inl (shorter (hid f) (2 ^ k) y g)
      edge (inr g) p y = inr (le_trans (le_of_eq (ap (λ (x : ℕ). x * 2 ^ k * den) (le_antisymm g (K.least p)))) (K.large p))

      go : (k ≡ 0) ⊎ (0 < k) → (a < hid f * 2 ^ k) ⊎ (hid f * 2 ^ k ≤ a) → Lower
      go (inl z) y = by_steps (steps (inr z))
      go (inr p) (inl y) = edge (lt_or_le (hid f) q) p y
      go (inr p) (inr y) = by_steps (steps (inl y))

  higher : q * 2 ^ k < a → q * 2 ^ k + 2 ^ k ≤ a
  higher l = go (eq-zero-or-pos k)
    where
      by_steps : (c : ℕ) × (a ≡ c * 2 ^ k) → q * 2 ^ k + 2 ^ k ≤ a
      by_steps (c, e) = subst (λ (x : ℕ). q * 2 ^ k + 2 ^ k ≤ x) (sym e) (next q c (2 ^ k) (lt_of_lt_of_le l (le_of_eq e)))

      go : (k ≡ 0) ⊎ (0 < k) → q * 2 ^ k + 2 ^ k ≤ a
      go (inl z) = by_steps (steps (inr z))
      go (inr p) = by_steps (steps (inl (le_trans (mul-le-mul_right (2 ^ k) (K.least p)) (omega arith))))

  -- the middle of the two, and q steps
  middle : (p q a : ℕ) → a + p ≤ q * p → (a + q * p) * den + den * p ≤ q * (den * p) * 2
  middle p q a l = omega (arith, mul-le-mul_right den l)

  middle' : (p q a : ℕ) → q * p + p ≤ a → q * (den * p) * 2 + den * p ≤ (a + q * p) * den
  middle' p q a l = omega (arith, mul-le-mul_right den l)

  twice : (g : ℕ) → a < g → g * den ≤ n → (a + g) * den < 2 * n
  twice g l e = lt_of_lt_of_le (mul-lt-mul_of_pos_right {m = a + g} {n = 2 * g} (omega arith) D) (omega arith)

  pub past_lower : a < q * 2 ^ k → (a + q * 2 ^ k) * den ≤ 2 * n
  past_lower l = go (lower l)
    where
      go : Lower → (a + q * 2 ^ k) * den ≤ 2 * n
      go (inl m) = let x = middle (2 ^ k) q a m in let y = K.near.over in omega arith
      go (inr e) = let x = twice (q * 2 ^ k) l e in omega arith

  pub before_higher : q * 2 ^ k < a → 2 * n ≤ (a + q * 2 ^ k) * den
  before_higher l = let x = middle' (2 ^ k) q a (higher l) in let y = K.near.under in omega arith

  pub even_lower : a < q * 2 ^ k → (a + q * 2 ^ k) * den ≡ 2 * n → q % 2 ≡ 0
  even_lower l e = go (lower l)
    where
      go : Lower → q % 2 ≡ 0
      go (inl m) = K.near.tie_over (let x = middle (2 ^ k) q a m in let y = K.near.over in omega arith)
      go (inr g) = absurd (lt_irrefl (2 * n) (lt_of_le_of_lt (le_of_eq (sym e)) (twice (q * 2 ^ k) l g)))

  pub even_higher : q * 2 ^ k < a → 2 * n ≡ (a + q * 2 ^ k) * den → q % 2 ≡ 0
  even_higher l e = K.near.tie_under (let x = middle' (2 ^ k) q a (higher l) in let y = K.near.under in omega arith)
