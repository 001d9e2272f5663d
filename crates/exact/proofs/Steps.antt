-- One rounded operation, all that an error analysis needs of it, in one record: the result is a finite f32 (`good`), it stays within
-- the power of two that bounds the exact value (`size`), it is not negative where the exact value is not (`keeps`), and its error is
-- small (`near`).
use Rattle.std.specs.Prelude.{◌≡◌, ℕ, ◌*◌, ◌^◌, ◌≤◌, ◌<◌, Bool, true, false, pos, T, Float}
use Rattle.std.proofs.Common.{sym, subst, le_of_eq, lt_of_le_of_lt, lt_of_lt_of_le, mul-one, one-mul, mul-pos, mul-le-mul_right, mul-lt-mul_of_pos_right, le_of_mul-le-mul_right, arith, lt→ltb}
use Rattle.std.proofs.Math.Pow.{pow-lt}
use Rattle.std.specs.Float.{fin, binary32}
use Rattle.std.specs.Float.Ieee.{add, sub, mul, div, fits}
use Rattle.std.specs.Float.Ieee.Fits.{round-fits}
use Rattle.std.specs.Float.Ieee.Scale.{finite}
use Rattle.exact.specs.Integers.{Z, ◌≈◌, ◌⊑◌, ◌⊞◌, ◌⊟◌, ◌⊠◌, ⊖, ι, sgn, ≈_refl, ≈_sym, ≈_trans, ⊠_cong, times_zero}
use Rattle.exact.specs.Inequalities.{⊑_≈, ≈_⊑, Within}
use Rattle.exact.specs.Values.{U, U_pos, mag, val, size_of, F32}
use Rattle.exact.proofs.Values.{round_finite}
use Rattle.exact.specs.Monotone.{Frac}
use Rattle.exact.proofs.Monotone.{upper_bound, lower_bound}
use Rattle.exact.proofs.Arithmetic.{add_frac, sub_frac, mul_frac, div_frac, add_err, sub_err, mul_err, div_err}
use Rattle.exact.specs.Steps.{Step, SumStep}

-- ---- the powers of two and zero, as f32
two_ok : (s : Bool) (j : ℕ) → j < 128 → F32 (fin s 1 (pos j))
unfolding fits
two_ok s j h =
    record {
      fit = lt→ltb (1 * 2 ^ j) (2 ^ 128 * 1)
          (lt_of_le_of_lt (le_of_eq (one-mul (2 ^ j))) (lt_of_lt_of_le (pow-lt h) (le_of_eq (sym (mul-one (2 ^ 128))))));
      real = tt;
    }

zero_ok : F32 (fin false 0 (pos 0))
unfolding fits
zero_ok = record { fit = tt; real = tt }

two_val : (j : ℕ) → val (fin false 1 (pos j)) ≈ ι (2 ^ j * U)
unfolding val sgn mag ι
two_val j = omega arith

minus_two_val : (j : ℕ) → val (fin true 1 (pos j)) ≈ ⊖ (ι (2 ^ j * U))
unfolding val sgn mag ι ⊖
minus_two_val j = omega arith

zero_val : val (fin false 0 (pos 0)) ≈ ι 0
unfolding val sgn mag ι
zero_val = omega arith

-- ---- bounds survive
ι_times : (k n : ℕ) → ι k ⊠ ι n ≈ ι (k * n)
unfolding ι ◌⊠◌
ι_times k n = omega arith

ι_times_minus : (k n : ℕ) → ι k ⊠ ⊖ (ι n) ≈ ⊖ (ι (k * n))
unfolding ι ◌⊠◌ ⊖
ι_times_minus k n = omega arith

pub within_both : (a b c : Z) (n : ℕ) → a ⊑ b → c ⊑ a → b ≈ ι n → c ≈ ⊖ (ι n) → Within a (ι n)
unfolding ι ⊖
within_both a b c n h k e f = omega arith

lower_side : (e : Z) (n : ℕ) → Within e (ι n) → ⊖ (ι n) ⊑ e
unfolding ι ⊖
lower_side e n h = omega arith

pub size_kept : (x : Float) (k j : ℕ) (e : Z) → Frac x k e → T (finite x) → j < 128 → Within e (ι (k * (2 ^ j * U)))
    → Within (val x) (ι (2 ^ j * U))
size_kept x k j e a t l h =
    let P = fin false 1 (pos j) in
    let N = fin true 1 (pos j) in
    within_both (val x) (val P) (val N) (2 ^ j * U)
    (upper_bound x P k e a (two_ok false j l) t (⊑_≈ h.hi (≈_sym (≈_trans (⊠_cong (≈_refl (ι k)) (two_val j)) (ι_times k (2 ^ j * U))))))
    (lower_bound x N k e a (two_ok true j l) t
    (≈_⊑ (≈_trans (⊠_cong (≈_refl (ι k)) (minus_two_val j)) (ι_times_minus k (2 ^ j * U))) (lower_side e (k * (2 ^ j * U)) h)))
    (two_val j) (minus_two_val j)

pub sign_kept : (x : Float) (k : ℕ) (e : Z) → Frac x k e → T (finite x) → ι 0 ⊑ e → ι 0 ⊑ val x
sign_kept x k e a t h =
    ≈_⊑ (≈_sym zero_val) (lower_bound x (fin false 0 (pos 0)) k e a zero_ok t
    (≈_⊑ (≈_trans (⊠_cong (≈_refl (ι k)) zero_val) (times_zero (ι k))) h))

-- ---- nothing overflows
size_of_exact : (s : Bool) (w n : ℕ) (e : Z) → e ≈ sgn s w → Within e (ι n) → w ≤ n
unfolding sgn ι ⊖
size_of_exact false w n e h k = omega arith
size_of_exact true w n e h k = omega arith

under_127 : (num w c k j : ℕ) → 0 < k → 0 < c → num * U * k ≡ w * c → w ≤ k * (2 ^ j * U) → j < 127 → num < 2 ^ 127 * c
under_127 num w c k j K C e h l =
    lt_of_le_of_lt (le_of_mul-le-mul_right {m = num} {n = 2 ^ j * c} {k = U * k} (arrange (2 ^ j) (mul-le-mul_right c h)) (mul-pos U_pos K))
    (mul-lt-mul_of_pos_right (pow-lt l) C)
  where
    arrange : (p : ℕ) → w * c ≤ k * (p * U) * c → num * (U * k) ≤ p * c * (U * k)
    arrange p m = omega arith

pub frac_ok : (x : Float) (k j : ℕ) (e : Z) → Frac x k e → j < 127 → Within e (ι (k * (2 ^ j * U))) → F32 x
frac_ok x k j e a l h = subst F32 (sym a.is) (record {
  fit = round-fits binary32 a.s a.num a.c;
  real = round_finite a.s a.num a.c a.cpos
      (under_127 a.num a.w a.c k j a.kpos a.cpos a.units
      (size_of_exact a.s a.w (k * (2 ^ j * U)) e a.value h) l);
})

-- the first three, for any operation
three : (x : Float) (k j : ℕ) (e : Z) → Frac x k e → j < 127 → Within e (ι (k * (2 ^ j * U)))
    → F32 x × Within (val x) (ι (2 ^ j * U)) × (ι 0 ⊑ e → ι 0 ⊑ val x)
three x k j e a l h = let g = frac_ok x k j e a l h in (g, size_kept x k j e a g.real (more j l) h, sign_kept x k e a g.real)
  where
    more : (j : ℕ) → j < 127 → j < 128
    more j l = omega arith

once : (e : Z) (n : ℕ) → Within e (ι n) → Within e (ι (1 * n))
unfolding ι ⊖
once e n h = omega arith

pub add_step : (x y : Float) (j : ℕ) → F32 x → F32 y → j < 127 → Within (val x ⊞ val y) (ι (2 ^ j * U))
    → SumStep (add binary32 x y) j (val x ⊞ val y)
add_step x y j p q l h =
    let s = three (add binary32 x y) 1 j (val x ⊞ val y) (add_frac x y p q) l (once (val x ⊞ val y) (2 ^ j * U) h) in
    record { good = s.0; size = s.1; keeps = s.2; near = add_err x y p q s.0.real }

pub sub_step : (x y : Float) (j : ℕ) → F32 x → F32 y → j < 127 → Within (val x ⊟ val y) (ι (2 ^ j * U))
    → SumStep (sub binary32 x y) j (val x ⊟ val y)
sub_step x y j p q l h =
    let s = three (sub binary32 x y) 1 j (val x ⊟ val y) (sub_frac x y p q) l (once (val x ⊟ val y) (2 ^ j * U) h) in
    record { good = s.0; size = s.1; keeps = s.2; near = sub_err x y p q s.0.real }

pub mul_step : (x y : Float) (j : ℕ) → F32 x → F32 y → j < 127 → Within (val x ⊠ val y) (ι (U * (2 ^ j * U)))
    → Step (mul binary32 x y) U j (val x ⊠ val y)
mul_step x y j p q l h =
    let s = three (mul binary32 x y) U j (val x ⊠ val y) (mul_frac x y p q) l h in
    record { good = s.0; size = s.1; keeps = s.2; near = mul_err x y p q s.0.real }

-- by a y above 0
pub div_step : (x y : Float) (j : ℕ) → F32 x → F32 y → ι 1 ⊑ val y → j < 127 → Within (ι U ⊠ val x) (ι (size_of y * (2 ^ j * U)))
    → Step (div binary32 x y) (size_of y) j (ι U ⊠ val x)
div_step x y j p q g l h =
    let s = three (div binary32 x y) (size_of y) j (ι U ⊠ val x) (div_frac x y p q g) l h in
    record { good = s.0; size = s.1; keeps = s.2; near = div_err x y p q g s.0.real }
