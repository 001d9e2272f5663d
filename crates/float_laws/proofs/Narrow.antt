-- `narrow_of` is the nearest f32, with the sign kept, or an infinity; an f32 is its own; the order is kept. A whole number cast to an f32 is
-- the nearest one.
use mathlib.Core.Path.{◌≡◌, refl, sym, ap, ◌∙◌, subst}
use mathlib.Core.Bool.{Bool, true, false, not, ◌||◌, beq, cond}
use Prim.Native.Nat.{ℕ, zero, suc, ◌+◌, ◌-◌, ◌*◌, ◌/◌, ◌%◌, ◌^◌, ◌≤◌, ◌<◌, compare}
use native.Mathlib.Nat.{lt_of_lt_of_le, mul-le-mul_right, mul-lt-mul_of_pos_right, mul-lt-mul_of_pos_left, zero-mul}
use lib.IntN.{ℤ, pos}
use lib.Dec.{T, ltb, lit<, lit≤}
use lib.Pow.{pow_pos}
use lib.Ieee.{Float, nan, inf, fin, Format, binary32, up, down, round, neg, le, fits, is_nan, low, prec, emax, size, nearest, odd, units}
use lib.Ieee.{of_int}
use lib.Ieee.Fits.{down_pos, round_is}
use lib.Ieee.Bits.{is_true}
use lib.Ieee.Order.{round_mono}
use Rattle.exact.specs.Patterns.{round_self}
use Rattle.exact.specs.Fractions.{le_test_true}
use Rattle.float.specs.Sign.{is_negative}
use Rattle.float.specs.Narrow.{narrow_of}
use Rattle.float.proofs.Signs.{neg_round}
use Rattle.float_laws.specs.Nearest.{Nearest, InReach, reach}
use Rattle.float_laws.proofs.Nearest.{round_nearest, round_over}
use Rattle.float_laws.specs.Compare.{neg_le, minus_le_plus, both_zero, minus_infinity, plus_infinity}

-- ---- nearest, by the size; the sign is put back
signed_round : (s : Bool) (a c : ℕ) → round binary32 s a c ≡ cond s (neg (round binary32 false a c)) (round binary32 false a c)
signed_round true a c = sym (neg_round binary32 false a c)
signed_round false a c = refl

pub narrow_nearest : (s : Bool) (m : ℕ) (e : ℤ) → InReach binary32 (m * up e) (down e)
    → (y : Float) × (g : ℕ) × Nearest binary32 (m * up e) (down e) y g × (narrow_of (fin s m e) ≡ cond s (neg y) y)
unfolding narrow_of
narrow_nearest s m e r =
    let p = round_nearest binary32 (m * up e) (down e) (down_pos e) r in
    (round binary32 false (m * up e) (down e), p.0, p.1, signed_round s (m * up e) (down e))

pub narrow_over : (s : Bool) (m : ℕ) (e : ℤ) → reach binary32 * down e ≤ 2 * (m * up e * 2 ^ low binary32) → narrow_of (fin s m e) ≡ inf s
unfolding narrow_of neg
narrow_over s m e r =
    signed_round s (m * up e) (down e) ∙ ap (λ (x : Float). cond s (neg x) x) (round_over binary32 (m * up e) (down e) (down_pos e) r)
    ∙ go s
  where
    go : (s : Bool) → cond s (inf true) (inf false) ≡ inf s
    go true = refl
    go false = refl

-- ---- an f32 is its own narrowing
pub narrow_own : (x : Float) → T (fits binary32 x) → narrow_of x ≡ x
unfolding narrow_of
narrow_own nan t = refl
narrow_own (inf s) t = refl
narrow_own (fin s m e) t = round_self binary32 (fin s m e) s (m * up e) (down e) (down_pos e) t (refl, refl)

-- ---- the sign of what is rounded
units_sign : (f : Format) (s : Bool) (q k : ℕ) → (is_negative (units f s q k) ≡ s) × T (not (is_nan (units f s q k)))
unfolding units is_negative is_nan
units_sign f s q k = go (ltb (q * 2 ^ k) (2 ^ (low f + suc (emax f)))) q
  where
    go : (b : Bool) (q : ℕ)
        → (is_negative (cond b (odd (suc (prec f)) s q k (low f)) (inf s)) ≡ s)
        × T (not (is_nan (cond b (odd (suc (prec f)) s q k (low f)) (inf s))))
    go false q = (refl, tt)
    go true zero = unfold odd in (refl, tt)
    go true (suc q) = unfold odd in (refl, tt)

pub round_sign : (f : Format) (s : Bool) (a c : ℕ) → (is_negative (round f s a c) ≡ s) × T (not (is_nan (round f s a c)))
round_sign f s a c =
    let n = a * 2 ^ low f in
    let k = size (n / c) - prec f in
    let q = nearest (n / (c * 2 ^ k)) (compare (n % (c * 2 ^ k) * 2) (c * 2 ^ k)) in
    subst (λ (x : Float). (is_negative x ≡ s) × T (not (is_nan x))) (sym (round_is f s a c)) (units_sign f s q k)

-- ---- the order is kept
round_zero : (s : Bool) (a c : ℕ) → 0 < c → a ≡ 0 → round binary32 s a c ≡ fin s 0 (pos 0)
round_zero s a c C e =
    ap (λ (x : ℕ). round binary32 s x c) e
    ∙ round_self binary32 (fin s 0 (pos 0)) s 0 c C (unfold fits in tt) (refl, zero-mul c ∙ sym (zero-mul 1))

-- between two finite values
plus_mono : (m n : ℕ) (e d : ℤ) → T (le (fin false m e) (fin false n d))
    → T (le (round binary32 false (m * up e) (down e)) (round binary32 false (n * up d) (down d)))
plus_mono m n e d h =
    round_mono binary32 (m * up e) (down e) (n * up d) (down d) (down_pos e) (down_pos d)
    (le_test_true (m * up e * down d) (n * up d * down e) true (unfold le in is_true (le (fin false m e) (fin false n d)) h))

finite_mono : (s t : Bool) (m n : ℕ) (e d : ℤ) → T (le (fin s m e) (fin t n d))
    → T (le (round binary32 s (m * up e) (down e)) (round binary32 t (n * up d) (down d)))
finite_mono false false m n e d h = plus_mono m n e d h
finite_mono true true m n e d h =
    subst (λ (x : Float). T (le x (round binary32 true (n * up d) (down d)))) (neg_round binary32 false (m * up e) (down e))
    (subst (λ (x : Float). T (le (neg (round binary32 false (m * up e) (down e))) x)) (neg_round binary32 false (n * up d) (down d))
    (neg_le (round binary32 false (n * up d) (down d)) (round binary32 false (m * up e) (down e))
    (plus_mono n m d e (unfold neg in neg_le (fin true m e) (fin true n d) h))))
finite_mono true false m n e d h =
    let x = round_sign binary32 true (m * up e) (down e) in
    let y = round_sign binary32 false (n * up d) (down d) in
    minus_le_plus (round binary32 true (m * up e) (down e)) (round binary32 false (n * up d) (down d)) x.1 y.1 x.0 y.0
finite_mono false true m n e d h =
    let z = both_zero m n e d h in
    subst (λ (x : Float). T (le x (round binary32 true (n * up d) (down d))))
    (sym (round_zero false (m * up e) (down e) (down_pos e) z.0))
    (subst (λ (x : Float). T (le (fin false 0 (pos 0)) x)) (sym (round_zero true (n * up d) (down d) (down_pos d) z.1))
    (unfold le in tt))

pub narrow_mono : (x y : Float) → T (le x y) → T (le (narrow_of x) (narrow_of y))
unfolding narrow_of
narrow_mono nan y h = absurd (unfold le in h)
narrow_mono (inf s) nan h = absurd (unfold le in h)
narrow_mono (fin s m e) nan h = absurd (unfold le in h)
narrow_mono (inf true) (inf t) h = unfold le in minus_first t
  where
    minus_first : (t : Bool) → T (not t || beq true t)
    minus_first true = tt
    minus_first false = tt
narrow_mono (inf false) (inf true) h = absurd (unfold le in h)
narrow_mono (inf false) (inf false) h = unfold le in tt
narrow_mono (inf true) (fin t n d) h = minus_infinity (round binary32 t (n * up d) (down d)) (round_sign binary32 t (n * up d) (down d)).1
narrow_mono (inf false) (fin t n d) h = absurd (unfold le in h)
narrow_mono (fin s m e) (inf true) h = absurd (unfold le in h)
narrow_mono (fin s m e) (inf false) h = plus_infinity (round binary32 s (m * up e) (down e)) (round_sign binary32 s (m * up e) (down e)).1
narrow_mono (fin s m e) (fin t n d) h = finite_mono s t m n e d h

-- ---- whole numbers
pub whole_nearest : (n : ℕ) → n < 18446744073709551616 → (g : ℕ) × Nearest binary32 n 1 (of_int binary32 (pos n)) g
unfolding of_int
whole_nearest n h =
    round_nearest binary32 n 1 (lit< tt)
    (lt_of_lt_of_le (mul-lt-mul_of_pos_left {k = 2} (mul-lt-mul_of_pos_right h (pow_pos 149)) (lit< tt)) (lit≤ tt))

pub whole_mono : (m n : ℕ) → m ≤ n → T (le (of_int binary32 (pos m)) (of_int binary32 (pos n)))
unfolding of_int
whole_mono m n h = round_mono binary32 m 1 n 1 (lit< tt) (lit< tt) (mul-le-mul_right 1 h)
