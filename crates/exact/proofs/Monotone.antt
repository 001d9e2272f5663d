-- Rounding keeps the order of signed fractions, and an f32 is what its own value rounds to. So a bound by an f32 is not lost by
-- rounding. The result of an operation is one rounded fraction (`Frac`): Arithmetic shows it of each.
use Rattle.std.specs.Prelude.{◌≡◌, refl, ℕ, zero, suc, ◌+◌, ◌*◌, ◌^◌, ◌≤◌, ◌<◌, Bool, true, false, T, Float}
use Rattle.std.proofs.Common.{sym, ap, ◌∙◌, subst, zero-mul, le_trans, le_of_eq, mul-le-mul_right, mul-pos, le_of_mul-le-mul_right, arith}
use Rattle.std.specs.Float.{binary32}
use Rattle.std.specs.Float.Ieee.{round}
use Rattle.std.specs.Float.Ieee.Fits.{round-fits}
use Rattle.std.specs.Float.Ieee.Order.{drop, kept, round_mono}
use Rattle.std.specs.Float.Ieee.Scale.{grid, finite}
use Rattle.exact.specs.Integers.{Z, ◌≈◌, ◌⊑◌, ◌⊠◌, ι, sgn, sgn_le, ≈_refl, ≈_sym, ≈_trans, ⊠_cong, one_times, ι_sgn}
use Rattle.exact.specs.Inequalities.{≈_⊑, ⊑_≈, scale_mono}
use Rattle.exact.specs.Patterns.{round_self}
use Rattle.exact.specs.Rounding.{Err}
use Rattle.exact.proofs.Rounding.{round_err_whole}
use Rattle.exact.specs.Values.{U, U_pos, val, F32, units_of_law, finite_of_value, round_under, round_value, round_val}
use Rattle.exact.proofs.Order.{le_yes}
use Rattle.exact.specs.Monotone.{Frac}

-- ---- sizes, by the kit's `round_mono`, where nothing overflows
finite_with : (s t : Bool) (num den : ℕ) → T (finite (round binary32 s num den)) → T (finite (round binary32 t num den))
finite_with s t num den h =
    finite_of_value (round binary32 t num den) t (grid binary32 num den) U (round_value t num den (round_under s num den h))

pub grid_mono : (s t : Bool) (a b c d : ℕ) → 0 < b → 0 < d → T (finite (round binary32 s a b)) → T (finite (round binary32 t c d))
    → a * d ≤ c * b → grid binary32 a b ≤ grid binary32 c d
grid_mono s t a b c d B D p q h =
    let p' = finite_with s false a b p in
    let q' = finite_with t false c d q in
    let x = round binary32 false a b in
    let y = round binary32 false c d in
    let f : F32 x = record { fit = round-fits binary32 false a b; real = p' } in
    let g : F32 y = record { fit = round-fits binary32 false c d; real = q' } in
    let l : val x ⊑ val y = le_yes x y f g (round_mono binary32 a b c d B D h) in
    sgn_le (grid binary32 a b) (grid binary32 c d)
    (subst (λ (z : Z). z ⊑ sgn false (grid binary32 c d)) (round_val false a b p')
    (subst (λ (z : Z). val x ⊑ z) (round_val false c d q') l))

-- zero rounds to zero
grid_zero : (num den : ℕ) → 0 < den → num ≡ 0 → grid binary32 num den ≡ 0
grid_zero num den D e =
    ap (λ (z : ℕ). grid binary32 z den) e
    ∙ none (grid binary32 0 den)
    (subst (λ (n : ℕ). Err (kept 24 n den * 2 ^ drop 24 n den) den n 0) (zero-mul den) (round_err_whole 0 den D))
  where
    none : (g : ℕ) → Err g den 0 0 → g ≡ 0
    none zero h = refl
    none (suc g) h = omega arith

-- ---- signed: ± a / b ≤ ± c / d
signed : (s t : Bool) (a b c d : ℕ) → 0 < b → 0 < d → T (finite (round binary32 s a b)) → T (finite (round binary32 t c d))
    → sgn s (a * d) ⊑ sgn t (c * b)
    → sgn s (grid binary32 a b) ⊑ sgn t (grid binary32 c d)
unfolding sgn
signed false false a b c d B D p q h = let l = grid_mono false false a b c d B D p q (omega arith) in omega arith
signed true true a b c d B D p q h = let l = grid_mono true true c d a b D B q p (omega arith) in omega arith
signed true false a b c d B D p q h = omega arith
signed false true a b c d B D p q h =
    omega (arith, grid_zero a b B (zero_of a d D (omega arith)), grid_zero c d D (zero_of c b B (omega arith)))
  where
    zero_of : (n m : ℕ) → 0 < m → n * m ≤ 0 → n ≡ 0
    zero_of zero m M l = refl
    zero_of (suc n) m M l = omega arith

pub round_mono_signed : (s t : Bool) (a b c d : ℕ) → 0 < b → 0 < d → T (finite (round binary32 s a b)) → T (finite (round binary32 t c d))
    → sgn s (a * d) ⊑ sgn t (c * b)
    → val (round binary32 s a b) ⊑ val (round binary32 t c d)
round_mono_signed s t a b c d B D p q h =
    subst (λ (z : Z). z ⊑ val (round binary32 t c d)) (sym (round_val s a b p))
    (subst (λ (z : Z). sgn s (grid binary32 a b) ⊑ z) (sym (round_val t c d q)) (signed s t a b c d B D p q h))

-- an f32 is the rounding of its own value
own : (z : Float) → F32 z → Frac z 1 (val z)
own z q =
    let u = units_of_law z q in
    record {
      s = u.s;
      num = u.w;
      c = U;
      w = u.w;
      is = sym (round_self binary32 z u.s u.w U U_pos q.fit u.value);
      cpos = U_pos;
      kpos = omega arith;
      units = once u.w;
      value = subst (λ (v : Z). v ≈ sgn u.s u.w) (sym u.is) (≈_refl (sgn u.s u.w));
    }
  where
    once : (w : ℕ) → w * U * 1 ≡ w * U
    once w = omega arith

-- ± a ≤ ± b, times c and over k
rescale : (s t : Bool) (a b a' b' c k : ℕ) → 0 < k → a' * k ≡ a * c → b' * k ≡ b * c → sgn s a ⊑ sgn t b → sgn s a' ⊑ sgn t b'
unfolding sgn
rescale false false a b a' b' c k K e f h =
    let l : a ≤ b = omega arith in
    let m : a' ≤ b' = le_of_mul-le-mul_right {k = k} (le_trans (le_of_eq e) (le_trans (mul-le-mul_right c l) (le_of_eq (sym f)))) K in
    omega arith
rescale true true a b a' b' c k K e f h =
    let l : b ≤ a = omega arith in
    let m : b' ≤ a' = le_of_mul-le-mul_right {k = k} (le_trans (le_of_eq f) (le_trans (mul-le-mul_right c l) (le_of_eq (sym e)))) K in
    omega arith
rescale true false a b a' b' c k K e f h = omega arith
rescale false true a b a' b' c k K e f h =
    let l : a + b ≤ 0 = omega arith in
    let m : a' + b' ≤ 0 = le_of_mul-le-mul_right {k = k} (omega (arith, mul-le-mul_right c l)) K in
    omega arith

-- ---- two results are in the order of the exact values, e / k and f / l
between : (a b c d : Z) → a ⊑ b → a ≈ c → b ≈ d → c ⊑ d
between a b c d h e f = omega arith

first : (num w c d k l : ℕ) → num * U * k ≡ w * c → num * d * (U * (k * l)) ≡ l * w * (c * d)
first num w c d k l e = omega (arith, ap (λ (z : ℕ). z * (d * l)) e)

second : (num w c d k l : ℕ) → num * U * l ≡ w * d → num * c * (U * (k * l)) ≡ k * w * (c * d)
second num w c d k l e = omega (arith, ap (λ (z : ℕ). z * (c * k)) e)

fractions : (x y : Float) (k l : ℕ) (e f : Z) → Frac x k e → Frac y l f → T (finite x) → T (finite y) → ι l ⊠ e ⊑ ι k ⊠ f → val x ⊑ val y
fractions x y k l e f a b t u h =
    let m : sgn a.s (a.num * b.c) ⊑ sgn b.s (b.num * a.c) =
    rescale a.s b.s (l * a.w) (k * b.w) (a.num * b.c) (b.num * a.c) (a.c * b.c) (U * (k * l))
    (mul-pos U_pos (mul-pos a.kpos b.kpos))
    (first a.num a.w a.c b.c k l a.units) (second b.num b.w a.c b.c k l b.units)
    (between (ι l ⊠ e) (ι k ⊠ f) (sgn a.s (l * a.w)) (sgn b.s (k * b.w)) h
    (≈_trans (⊠_cong (≈_refl (ι l)) a.value) (ι_sgn l a.s a.w))
    (≈_trans (⊠_cong (≈_refl (ι k)) b.value) (ι_sgn k b.s b.w))) in
    subst (λ (z : Float). val z ⊑ val y) (sym a.is)
    (subst (λ (z : Float). val (round binary32 a.s a.num a.c) ⊑ val z) (sym b.is)
    (round_mono_signed a.s b.s a.num a.c b.num b.c a.cpos b.cpos (subst (λ (z : Float). T (finite z)) a.is t)
    (subst (λ (z : Float). T (finite z)) b.is u) m))

pub frac_mono : (x y : Float) (k : ℕ) (e f : Z) → Frac x k e → Frac y k f → T (finite x) → T (finite y) → e ⊑ f → val x ⊑ val y
frac_mono x y k e f a b t u h = fractions x y k k e f a b t u (scale_mono k e f h)

-- a bound by an f32 z is not lost
pub upper_bound : (x z : Float) (k : ℕ) (e : Z) → Frac x k e → F32 z → T (finite x) → e ⊑ ι k ⊠ val z → val x ⊑ val z
upper_bound x z k e a q t h = fractions x z k 1 e (val z) a (own z q) t q.real (≈_⊑ (one_times e) h)

pub lower_bound : (x z : Float) (k : ℕ) (e : Z) → Frac x k e → F32 z → T (finite x) → ι k ⊠ val z ⊑ e → val z ⊑ val x
lower_bound x z k e a q t h = fractions z x 1 k (val z) e (own z q) a q.real t (⊑_≈ h (≈_sym (one_times e)))
