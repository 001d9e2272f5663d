-- Each operation of binary32 is one rounded fraction of the exact values (`add_frac` and the like). So a bound by an f32 survives it
-- (`add_lo` and the like), and its error is small: |k x - e| ≤ 2^-24 |e| + k / 2 for a result x of the exact e / k units (`frac_err`),
-- without the k / 2 for a sum or a difference (`add_err`, `sub_err`).
use Rattle.std.specs.Prelude.{◌≡◌, refl, ℕ, ◌+◌, ◌-◌, ◌*◌, ◌≤◌, ◌<◌, Bool, false, not, cond, T, ltb, Float}
use Rattle.std.proofs.Common.{sym, ap, ◌∙◌, subst, le_of_lt, le_of_mul-le-mul_right, mul-le-mul_right, mul-one, mul-pos, ltb→lt, nltb→le}
use native.Mathlib.Omega.{arith}
use Rattle.std.proofs.Math.Bool.{true}
use Rattle.std.specs.Float.{binary32}
use Rattle.std.specs.Float.Ieee.{unlike, round, neg, sum, add, sub, mul, div}
use Rattle.std.specs.Float.Ieee.Scale.{finite}
use Rattle.exact.specs.Integers.{Z, ◌≈◌, ◌⊑◌, ◌⊞◌, ◌⊟◌, ◌⊠◌, ◌·◌, ⊖, ι, sgn, ≈_sym, one_times, ι_sgn, sgn_mul}
use Rattle.exact.specs.Inequalities.{⊑_refl, ⊑_≈, ≈_⊑, Within, abs, within_abs}
use Rattle.exact.specs.Fractions.{add_units, mul_values, div_values}
use Rattle.exact.specs.Values.{U, U_pos, val, size_of, F32, units_of_law, at_units, val_neg, neg_ok}
use Rattle.exact.proofs.Values.{rounded, rounded_whole}
use Rattle.exact.specs.Monotone.{Frac}
use Rattle.exact.proofs.Monotone.{upper_bound, lower_bound}

-- ---- add: the signed sizes a and b
like : (s : Bool) (a b : ℕ) → sgn s a ⊞ sgn s b ≈ sgn s (a + b)
unfolding sgn ◌⊞◌
like false a b = omega arith
like true a b = omega arith

larger_first : (s : Bool) (a b : ℕ) → b ≤ a → sgn s a ⊞ sgn (not s) b ≈ sgn s (a - b)
unfolding sgn ◌⊞◌
larger_first false a b h = omega arith
larger_first true a b h = omega arith

larger_second : (s : Bool) (a b : ℕ) → a ≤ b → sgn s a ⊞ sgn (not s) b ≈ sgn (not s) (b - a)
unfolding sgn ◌⊞◌
larger_second false a b h = omega arith
larger_second true a b h = omega arith

tie : (a b : ℕ) → a ≤ b → b ≤ a → sgn true a ⊞ sgn false b ≈ sgn false (a - b)
unfolding sgn ◌⊞◌
tie a b h k = omega arith

whole : (s : Bool) (w : ℕ) (e : Z) → e ≈ sgn s w → Frac (round binary32 s w U) 1 e
whole s w e h = record { s = s; num = w; c = U; w = w; is = refl; cpos = U_pos; kpos = omega arith; units = mul-one (w * U); value = h }

sum_frac : (s : Bool) (a : ℕ) (t : Bool) (b : ℕ) → Frac (sum binary32 s a t b U) 1 (sgn s a ⊞ sgn t b)
unfolding sum
sum_frac false a false b = whole false (a + b) (sgn false a ⊞ sgn false b) (like false a b)
sum_frac true a true b = whole true (a + b) (sgn true a ⊞ sgn true b) (like true a b)
sum_frac false a true b = go (ltb a b) (λ t. le_of_lt (ltb→lt a b t)) (nltb→le a b)
  where
    go : (z : Bool) → (T z → a ≤ b) → (T (not z) → b ≤ a)
        → Frac (cond z (round binary32 true (b - a) U) (round binary32 false (a - b) U)) 1 (sgn false a ⊞ sgn true b)
    go true l m = whole true (b - a) (sgn false a ⊞ sgn true b) (larger_second false a b (l tt))
    go false l m = whole false (a - b) (sgn false a ⊞ sgn true b) (larger_first false a b (m tt))
sum_frac true a false b = go (ltb a b) (ltb b a) (λ t. le_of_lt (ltb→lt a b t)) (nltb→le a b) (nltb→le b a)
  where
    go : (z y : Bool) → (T z → a ≤ b) → (T (not z) → b ≤ a) → (T (not y) → a ≤ b)
        → Frac (cond z (round binary32 false (b - a) U) (round binary32 y (a - b) U)) 1 (sgn true a ⊞ sgn false b)
    go true y l m o = whole false (b - a) (sgn true a ⊞ sgn false b) (larger_second true a b (l tt))
    go false true l m o = whole true (a - b) (sgn true a ⊞ sgn false b) (larger_first true a b (m tt))
    go false false l m o = whole false (a - b) (sgn true a ⊞ sgn false b) (tie a b (o tt) (m tt))

-- ---- each operation as a fraction
pub add_frac : (x y : Float) → F32 x → F32 y → Frac (add binary32 x y) 1 (val x ⊞ val y)
add_frac x y p q =
    let a = units_of_law x p in
    let b = units_of_law y q in
    at_units x y p q (λ u v. Frac (add binary32 x y) 1 (u ⊞ v))
    (subst (λ (z : Float). Frac z 1 (sgn a.s a.w ⊞ sgn b.s b.w))
    (sym (add_units a.s b.s a.w b.w U U_pos binary32 x y a.value b.value)) (sum_frac a.s a.w b.s b.w))

minus_is : (x y : Float) → val x ⊞ val (neg y) ≡ val x ⊟ val y
unfolding ◌⊞◌ ◌⊟◌ ⊖
minus_is x y = ap (λ (z : Z). val x ⊞ z) (val_neg y)

sub_is_add : (x y : Float) → sub binary32 x y ≡ add binary32 x (neg y)
unfolding sub
sub_is_add x y = refl

pub sub_frac : (x y : Float) → F32 x → F32 y → Frac (sub binary32 x y) 1 (val x ⊟ val y)
sub_frac x y p q =
    subst (λ (e : Z). Frac (sub binary32 x y) 1 e) (minus_is x y)
    (subst (λ (z : Float). Frac z 1 (val x ⊞ val (neg y))) (sym (sub_is_add x y)) (add_frac x (neg y) p (neg_ok y q)))

pub mul_frac : (x y : Float) → F32 x → F32 y → Frac (mul binary32 x y) U (val x ⊠ val y)
mul_frac x y p q =
    let a = units_of_law x p in
    let b = units_of_law y q in
    at_units x y p q (λ u v. Frac (mul binary32 x y) U (u ⊠ v)) (record {
      s = unlike a.s b.s;
      num = a.w * b.w;
      c = U * U;
      w = a.w * b.w;
      is = mul_values a.s b.s a.w U b.w U U_pos U_pos binary32 x y a.value b.value;
      cpos = mul-pos U_pos U_pos;
      kpos = U_pos;
      units = twice (a.w * b.w) U;
      value = sgn_mul a.s b.s a.w b.w;
    })
  where
    twice : (w u : ℕ) → w * u * u ≡ w * (u * u)
    twice w u = omega arith

-- by a y above 0
pub size_is : (y : Float) → F32 y → ι 1 ⊑ val y → ι (size_of y) ≈ val y
size_is y q g =
    let b = units_of_law y q in
    subst (λ (n : ℕ). ι n ≈ val y) (sym b.size)
    (subst (λ (v : Z). ι b.w ≈ v) (sym b.is) (go b.s b.w (subst (λ (v : Z). ι 1 ⊑ v) b.is g)))
  where
    go : (s : Bool) (w : ℕ) → ι 1 ⊑ sgn s w → ι w ≈ sgn s w
    go false w h = unfold ι sgn in omega arith
    go true w h = unfold ι sgn in omega arith

negative : (w : ℕ) → ι 1 ⊑ sgn true w → ⊥
unfolding ι sgn
negative w h = omega arith

pub div_frac : (x y : Float) → F32 x → F32 y → ι 1 ⊑ val y → Frac (div binary32 x y) (size_of y) (ι U ⊠ val x)
div_frac x y p q g =
    let a = units_of_law x p in
    let b = units_of_law y q in
    let B : 0 < b.w = above b.s b.w (subst (λ (v : Z). ι 1 ⊑ v) b.is g) in
    subst (λ (n : ℕ). Frac (div binary32 x y) n (ι U ⊠ val x)) (sym b.size)
    (record {
      s = unlike a.s b.s;
      num = a.w * U;
      c = b.w * U;
      w = U * a.w;
      is = div_values a.s b.s a.w U b.w U U_pos U_pos binary32 x y a.value b.value B;
      cpos = mul-pos B U_pos;
      kpos = B;
      units = turn a.w b.w U;
      value = subst (λ (v : Z). ι U ⊠ v ≈ sgn (unlike a.s b.s) (U * a.w)) (sym a.is)
          (signed a.s b.s a.w b.w (subst (λ (v : Z). ι 1 ⊑ v) b.is g));
    })
  where
    above : (s : Bool) (w : ℕ) → ι 1 ⊑ sgn s w → 0 < w
    above false w h = unfold ι sgn in omega arith
    above true w h = unfold ι sgn in omega arith

    turn : (a b u : ℕ) → a * u * u * b ≡ u * a * (b * u)
    turn a b u = omega arith

    signed : (s t : Bool) (a b : ℕ) → ι 1 ⊑ sgn t b → ι U ⊠ sgn s a ≈ sgn (unlike s t) (U * a)
    signed false false a b h = ι_sgn U false a
    signed true false a b h = ι_sgn U true a
    signed s true a b h = absurd (negative b h)

-- ---- errors: from sizes to signed values. L = ± G and e = ± W with |G - W| ≤ 2^-24 (W + S)
from_sizes : (s : Bool) (G W S : ℕ) (L e β σ : Z) → L ≈ sgn s G → e ≈ sgn s W → 16777216 * G ≤ 16777216 * W + W + S
    → 16777216 * W ≤ 16777216 * G + W + S
    → Within e β → ι S ⊑ σ → Within (16777216 · (L ⊟ e)) (β ⊞ σ)
unfolding sgn ◌·◌ ◌⊟◌ ◌⊞◌ ⊖ ι
from_sizes false G W S L e β σ j i h k c d = omega arith
from_sizes true G W S L e β σ j i h k c d = omega arith

-- any operation: 2^24 |k x - e| ≤ |e| + 2^23 k
pub frac_err : (x : Float) (k : ℕ) (e : Z) → Frac x k e → T (finite x) → Within (16777216 · (ι k ⊠ val x ⊟ e)) (abs e ⊞ ι (8388608 * k))
frac_err x k e a t =
    let r = rounded a.s a.num a.c a.cpos (subst (λ (z : Float). T (finite z)) a.is t) in
    subst (λ (v : Z). Within (16777216 · (ι k ⊠ v ⊟ e)) (abs e ⊞ ι (8388608 * k))) (sym (ap val a.is ∙ r.is))
    (from_sizes a.s (k * r.g) a.w (8388608 * k) (ι k ⊠ sgn a.s r.g) e (abs e) (ι (8388608 * k)) (ι_sgn k a.s r.g)
    a.value
    (over r.g a.c (a.num * U) a.w a.cpos a.units r.over)
    (under r.g a.c (a.num * U) a.w a.cpos a.units r.under) (within_abs e) (⊑_refl (ι (8388608 * k))))
  where
    over : (g c N w : ℕ) → 0 < c → N * k ≡ w * c → 16777216 * (g * c) ≤ 16777216 * N + N + 8388608 * c
        → 16777216 * (k * g) ≤ 16777216 * w + w + 8388608 * k
    over g c N w C e h = le_of_mul-le-mul_right {k = c} (omega (arith, mul-le-mul_right k h)) C

    under : (g c N w : ℕ) → 0 < c → N * k ≡ w * c → 16777216 * N ≤ 16777216 * (g * c) + N + 8388608 * c
        → 16777216 * w ≤ 16777216 * (k * g) + w + 8388608 * k
    under g c N w C e h = le_of_mul-le-mul_right {k = c} (omega (arith, mul-le-mul_right k h)) C

-- a whole number e of units: 2^24 |x - e| ≤ |e|
whole_err : (x : Float) (e : Z) → Frac x 1 e → T (finite x) → Within (16777216 · (val x ⊟ e)) (abs e)
whole_err x e a t =
    let r = rounded_whole a.s a.num a.c a.w a.cpos (sym (mul-one (a.num * U)) ∙ a.units)
    (subst (λ (z : Float). T (finite z)) a.is t) in
    subst (λ (v : Z). Within (16777216 · (v ⊟ e)) (abs e)) (sym (ap val a.is ∙ r.is))
    (no_slack (16777216 · (sgn a.s r.g ⊟ e)) (abs e)
    (from_sizes a.s (r.g * 1) a.w 0 (sgn a.s r.g) e (abs e) (ι 0) (once a.s r.g) a.value r.over r.under
    (within_abs e) (⊑_refl (ι 0))))
  where
    no_slack : (a β : Z) → Within a (β ⊞ ι 0) → Within a β
    no_slack a β h = unfold ◌⊞◌ ι ⊖ in omega arith

    once : (s : Bool) (g : ℕ) → sgn s g ≈ sgn s (g * 1)
    once false g = unfold sgn in omega arith
    once true g = unfold sgn in omega arith

pub add_err : (x y : Float) → F32 x → F32 y → T (finite (add binary32 x y))
    → Within (16777216 · (val (add binary32 x y) ⊟ (val x ⊞ val y))) (abs (val x ⊞ val y))
add_err x y p q t = whole_err (add binary32 x y) (val x ⊞ val y) (add_frac x y p q) t

pub sub_err : (x y : Float) → F32 x → F32 y → T (finite (sub binary32 x y))
    → Within (16777216 · (val (sub binary32 x y) ⊟ (val x ⊟ val y))) (abs (val x ⊟ val y))
sub_err x y p q t = whole_err (sub binary32 x y) (val x ⊟ val y) (sub_frac x y p q) t

-- |U * mul x y - x * y| ≤ 2^-24 |x * y| + U / 2
pub mul_err : (x y : Float) → F32 x → F32 y → T (finite (mul binary32 x y))
    → Within (16777216 · (ι U ⊠ val (mul binary32 x y) ⊟ val x ⊠ val y)) (abs (val x ⊠ val y) ⊞ ι (8388608 * U))
mul_err x y p q t = frac_err (mul binary32 x y) U (val x ⊠ val y) (mul_frac x y p q) t

-- |y * div x y - U * x| ≤ 2^-24 |U * x| + y / 2, for a y above 0
pub div_err : (x y : Float) → F32 x → F32 y → ι 1 ⊑ val y → T (finite (div binary32 x y))
    → Within (16777216 · (ι (size_of y) ⊠ val (div binary32 x y) ⊟ ι U ⊠ val x)) (abs (ι U ⊠ val x) ⊞ ι (8388608 * size_of y))
div_err x y p q g t = frac_err (div binary32 x y) (size_of y) (ι U ⊠ val x) (div_frac x y p q g) t

-- ---- bounds by an f32 z
module _ (x y z : Float) (p : F32 x) (q : F32 y) (r : F32 z) where
  pub add_lo : T (finite (add binary32 x y)) → val z ⊑ val x ⊞ val y → val z ⊑ val (add binary32 x y)
  add_lo t h = lower_bound (add binary32 x y) z 1 (val x ⊞ val y) (add_frac x y p q) r t (≈_⊑ (one_times (val z)) h)

  pub sub_hi : T (finite (sub binary32 x y)) → val x ⊟ val y ⊑ val z → val (sub binary32 x y) ⊑ val z
  sub_hi t h = upper_bound (sub binary32 x y) z 1 (val x ⊟ val y) (sub_frac x y p q) r t (⊑_≈ h (≈_sym (one_times (val z))))

  pub div_hi : ι 1 ⊑ val y → T (finite (div binary32 x y)) → ι U ⊠ val x ⊑ ι (size_of y) ⊠ val z → val (div binary32 x y) ⊑ val z
  div_hi g t h = upper_bound (div binary32 x y) z (size_of y) (ι U ⊠ val x) (div_frac x y p q g) r t h

  pub div_lo : ι 1 ⊑ val y → T (finite (div binary32 x y)) → ι (size_of y) ⊠ val z ⊑ ι U ⊠ val x → val z ⊑ val (div binary32 x y)
  div_lo g t h = lower_bound (div binary32 x y) z (size_of y) (ι U ⊠ val x) (div_frac x y p q g) r t h
