-- The exact value of a finite f32, an integer number of units of 2 ^ -149 (`val`), and that of what `round` makes.
use Rattle.std.specs.Prelude.{◌≡◌, refl, ℕ, suc, ◌+◌, ◌-◌, ◌*◌, ◌^◌, ◌≤◌, ◌<◌, Bool, true, false, cond, ℤ, pos, negsuc, T, ltb, Float}
use Rattle.std.proofs.Common.{sym, ap₂, ◌∙◌, subst, lt_of_not-le, mul-le-mul_right, arith, ltb→lt, lit≤, pow_pos}
use Rattle.std.proofs.Math.Nat.{eq_of_mul-eq-mul_right}
use Rattle.std.specs.Float.{nan, inf, fin, binary32}
use Rattle.std.specs.Float.Ieee.{prec, low, up, down, odd, units, round, neg, fits}
use Rattle.std.specs.Float.Ieee.Fits.{round_is, round-fits, down_pos, neg-fits}
use Rattle.std.specs.Float.Ieee.Order.{drop, kept}
use Rattle.std.specs.Float.Ieee.Scale.{grid, overflow, finite}
use Rattle.std.specs.Float.Ieee.Exact.{HasValue, units_val}
use Rattle.exact.specs.Integers.{Z, ◌⊑◌, ⊖, ι, sgn}
use Rattle.exact.specs.Fits.{count, count_value}

-- ---- the value
-- 2 ^ 149 units are 1. It stays shut: `omega` does not read numerals of 40 digits
unfoldable pub U : ℕ
U = 2 ^ 149

-- m * 2 ^ e in units
unfoldable pub mag : ℕ → ℤ → ℕ
mag m (pos k) = m * 2 ^ k * U
mag m (negsuc k) = m * 2 ^ (149 - suc k)

unfoldable pub val : Float → Z
val nan = ι 0
val (inf s) = ι 0
val (fin s m e) = sgn s (mag m e)

-- the size, without the sign; an infinity counts as 2 ^ 128, where the finite values end
unfoldable pub size_of : Float → ℕ
size_of nan = 0
size_of (inf s) = overflow binary32
size_of (fin s m e) = mag m e

-- x is a finite f32
pub record F32 (x : Float) : Type 0 where
  pub fit : T (fits binary32 x)
  pub real : T (finite x)

-- ---- 2^100 ≤ U, 2^60 ≤ U and 2^60 U ≤ U²: all that an analysis needs of its size
pub U_huge : 1267650600228229401496703205376 ≤ U
unfolding U
U_huge = lit≤ tt

pub U_large : 1152921504606846976 ≤ U
unfolding U
U_large = lit≤ tt

pub UU_large : 1152921504606846976 * U ≤ U * U
UU_large = go U U_large
  where
    go : (u : ℕ) → 1152921504606846976 ≤ u → 1152921504606846976 * u ≤ u * u
    go u h = mul-le-mul_right u h

pub U_one : ι 1 ⊑ ι U
unfolding ι
U_one = omega (arith, U_large)

pub U_pos : 0 < U
unfolding U
U_pos = pow_pos 149

-- ---- m * 2 ^ e is mag m e units, exactly, for what the format holds
pub mag_is : (s : Bool) (m : ℕ) (e : ℤ) → T (fits binary32 (fin s m e)) → mag m e * down e ≡ m * up e * U
unfolding mag count U
mag_is s m (pos k) t = sym (count_value binary32 s m (pos k) t).1
mag_is s m (negsuc k) t = sym (count_value binary32 s m (negsuc k) t).1

-- an f32 is ± w units
pub record Units (x : Float) : Type 0 where
  pub s : Bool
  pub w : ℕ
  pub is : val x ≡ sgn s w
  pub size : size_of x ≡ w
  pub value : HasValue x s w U

pub units_of_law : (x : Float) → F32 x → Units x
unfolding val size_of
units_of_law nan p = absurd p.real
units_of_law (inf s) p = absurd p.real
units_of_law (fin s m e) p = record { s = s; w = mag m e; is = refl; size = refl; value = (refl, sym (mag_is s m e p.fit)) }

-- a relation of signed sizes is one of values
pub at_units : (x y : Float) (p : F32 x) (q : F32 y) (R : Z → Z → Type 0)
    → R (sgn (units_of_law x p).s (units_of_law x p).w) (sgn (units_of_law y q).s (units_of_law y q).w) → R (val x) (val y)
at_units x y p q R h =
    subst (λ (v : Z). R v (val y)) (sym (units_of_law x p).is)
    (subst (λ (v : Z). R (sgn (units_of_law x p).s (units_of_law x p).w) v) (sym (units_of_law y q).is) h)

pub val_of : (x : Float) (s : Bool) (w : ℕ) → T (fits binary32 x) → HasValue x s w U → val x ≡ sgn s w
unfolding val
val_of nan s w t h = absurd h
val_of (inf r) s w t h = absurd h
val_of (fin r m e) s w t h = ap₂ sgn h.0 (eq_of_mul-eq-mul_right (down e) (down_pos e) (mag m e) w (mag_is r m e t ∙ h.1))

pub size_of_value : (x : Float) (s : Bool) (w : ℕ) → T (fits binary32 x) → HasValue x s w U → size_of x ≡ w
unfolding size_of
size_of_value nan s w t h = absurd h
size_of_value (inf r) s w t h = absurd h
size_of_value (fin r m e) s w t h = eq_of_mul-eq-mul_right (down e) (down_pos e) (mag m e) w (mag_is r m e t ∙ h.1)

pub finite_of_value : (x : Float) (s : Bool) (a c : ℕ) → HasValue x s a c → T (finite x)
finite_of_value nan s a c h = absurd h
finite_of_value (inf t) s a c h = absurd h
finite_of_value (fin t m e) s a c h = tt

pub val_neg : (y : Float) → val (neg y) ≡ ⊖ (val y)
unfolding val neg ⊖ ι sgn
val_neg nan = refl
val_neg (inf s) = refl
val_neg (fin true m e) = refl
val_neg (fin false m e) = refl

pub neg_ok : (y : Float) → F32 y → F32 (neg y)
unfolding neg
neg_ok y p = record { fit = neg-fits binary32 y p.fit; real = go y p.real }
  where
    go : (y : Float) → T (finite y) → T (finite (neg y))
    go nan t = t
    go (inf s) t = t
    go (fin s m e) t = tt

-- ---- the value of what `round` makes
units_under : (s : Bool) (q k : ℕ) → T (finite (units binary32 s q k)) → q * 2 ^ k < overflow binary32
unfolding units
units_under s q k = go (ltb (q * 2 ^ k) (overflow binary32)) (ltb→lt (q * 2 ^ k) (overflow binary32))
  where
    go : (b : Bool) → (T b → q * 2 ^ k < overflow binary32) → T (finite (cond b (odd (suc (prec binary32)) s q k (low binary32)) (inf s)))
        → q * 2 ^ k < overflow binary32
    go true h t = h tt
    go false h t = absurd t

pub round_under : (s : Bool) (num den : ℕ) → T (finite (round binary32 s num den)) → grid binary32 num den < overflow binary32
round_under s num den t =
    let n = num * 2 ^ 149 in
    units_under s (kept 24 n den) (drop 24 n den) (subst (λ (z : Float). T (finite z)) (round_is binary32 s num den) t)

pub round_value : (s : Bool) (num den : ℕ) → grid binary32 num den < overflow binary32
    → HasValue (round binary32 s num den) s (grid binary32 num den) U
unfolding U
round_value s num den h =
    let n = num * 2 ^ 149 in
    subst (λ (z : Float). HasValue z s (grid binary32 num den) (2 ^ 149)) (sym (round_is binary32 s num den))
    (units_val binary32 s (kept 24 n den) (drop 24 n den) h)

pub round_val : (s : Bool) (num den : ℕ) → T (finite (round binary32 s num den))
    → val (round binary32 s num den) ≡ sgn s (grid binary32 num den)
round_val s num den t =
    val_of (round binary32 s num den) s (grid binary32 num den) (round-fits binary32 s num den)
    (round_value s num den (round_under s num den t))

-- ---- and its error: x is ± g units, and |g - w / c| ≤ 2^-24 * (w + slack) / c
pub record Rounded (x : Float) (s : Bool) (w c slack : ℕ) : Type 0 where
  pub g : ℕ
  pub is : val x ≡ sgn s g
  pub over : 16777216 * (g * c) ≤ 16777216 * w + w + slack
  pub under : 16777216 * w ≤ 16777216 * (g * c) + w + slack

pub at_U : (num : ℕ) → num * 2 ^ 149 ≡ num * U
unfolding U
at_U num = refl

-- ---- a fraction below 2 ^ 127 does not overflow. Q = 2 ^ 276, which `omega` does not read
pub no_overflow : (g den n Q : ℕ) → 0 < den → 0 < Q → n < Q * den → 16777216 * (g * den) ≤ 16777216 * n + n + 8388608 * den → g < 2 * Q
no_overflow g den n Q D P h k = lt_of_not-le (λ (l : 2 * Q ≤ g). clash l (mul-le-mul_right den l) (mul-le-mul_right den P))
  where
    clash : 2 * Q ≤ g → 2 * Q * den ≤ g * den → 1 * den ≤ Q * den → ⊥
    clash l m o = omega arith
