-- The saturating casts are what specs/Casts says, and nothing else is; they keep the order; and the floor of a number that is not negative
-- casts as the number does.
use mathlib.Core.Path.{◌≡◌, refl, sym, ap, ◌∙◌, subst}
use mathlib.Core.Bool.{Bool, true, false, ◌&&◌, ◌||◌, cond, true≢false, false≢true}
use Prim.Native.Nat.{ℕ, ◌+◌, ◌-◌, ◌*◌, ◌/◌, ◌^◌, ◌≤◌, ◌<◌, min, zero-le}
use native.Mathlib.Nat.{le_refl, le_trans, le_of_eq, le_antisymm, lt_of_le_of_lt, lt_of_mul-lt-mul_right, mul-one, mul-le-mul_right}
use native.Mathlib.Nat.{zero-mul, zero-div, mul-div_cancel, div-mul-le_self, eq_of_mul-eq-mul_right}
use native.Mathlib.Omega.{arith}
use lib.IntN.{ℤ, pos, neg_ℤ}
use lib.Dec.{T, eqb}
use lib.Ieee.{Float, nan, inf, fin, binary32, up, down, le, fits, to_unsigned, to_signed}
use lib.Ieee.Scale.{finite}
use lib.Ieee.Fits.{down_pos}
use lib.Ieee.Exact.{HasValue}
use lib.Ieee.Nearest.{div_mono}
use borrow.Author.Tests.{eqb-true}
use Rattle.exact.specs.Fractions.{le_test_true}
use Rattle.float.specs.Sign.{is_negative}
use Rattle.float.specs.Whole.{floor_of}
use Rattle.float.proofs.Quotients.{part_lt}
use Rattle.exact.specs.Naturals.{le_of_not_lt}
use Rattle.float_laws.specs.Casts.{Saturated}
use Rattle.float_laws.proofs.Whole.{floor_is}

-- ---- one number each
saturates : (a c most : ℕ) → 0 < c → Saturated most a c (min (a / c) most)
saturates a c most C = record {
  within = omega arith;
  low = le_trans (mul-le-mul_right c (let g : min (a / c) most ≤ a / c = omega arith in g)) (div-mul-le_self a c);
  high = λ h. subst (λ (x : ℕ). a < (x + 1) * c) (let g : a / c ≡ min (a / c) most = omega arith in g) (part_lt a c C);
}

pub saturated_unique : (most a c n n' : ℕ) → Saturated most a c n → Saturated most a c n' → n ≡ n'
saturated_unique most a c n n' S S' = le_antisymm (not_above n n' S S') (not_above n' n S' S)
  where
    not_above : (n n' : ℕ) → Saturated most a c n → Saturated most a c n' → n ≤ n'
    not_above n n' S S' = le_of_not_lt (λ (l : n' < n). clash n n' S S' l)
      where
        clash : (n n' : ℕ) → Saturated most a c n → Saturated most a c n' → n' < n → ⊥
        clash n n' S S' l =
            let w = S.within in
            let h = lt_of_mul-lt-mul_right c (lt_of_le_of_lt S.low (S'.high (omega arith))) in
            omega arith

-- ---- to an unsigned integer of w bits: a NaN and a minus give 0, the infinity the largest
pub unsigned_is : (w m : ℕ) (e : ℤ) → Saturated (2 ^ w - 1) (m * up e) (down e) (to_unsigned w (fin false m e))
unfolding to_unsigned
unsigned_is w m e = saturates (m * up e) (down e) (2 ^ w - 1) (down_pos e)

pub unsigned_edges : (w m : ℕ) (e : ℤ)
    → (to_unsigned w nan ≡ 0) × (to_unsigned w (inf true) ≡ 0) × (to_unsigned w (fin true m e) ≡ 0) × (to_unsigned w (inf false) ≡ 2 ^ w - 1)
unfolding to_unsigned
unsigned_edges w m e = (refl, refl, refl, refl)

-- ---- to a signed one of h bits and a sign: the size goes up to 2 ^ h - 1, or 2 ^ h with a minus
abbrev pub largest : ℕ → Bool → ℕ
largest h s = cond s (2 ^ h) (2 ^ h - 1)

abbrev pub signed : Bool → ℕ → ℤ
signed s n = cond s (neg_ℤ (pos n)) (pos n)

pub signed_is : (h : ℕ) (s : Bool) (m : ℕ) (e : ℤ)
    → (n : ℕ) × Saturated (largest h s) (m * up e) (down e) n × (to_signed h (fin s m e) ≡ signed s n)
unfolding to_signed
signed_is h true m e = (min (m * up e / down e) (2 ^ h), saturates (m * up e) (down e) (2 ^ h) (down_pos e), refl)
signed_is h false m e = (min (m * up e / down e) (2 ^ h - 1), saturates (m * up e) (down e) (2 ^ h - 1) (down_pos e), refl)

pub signed_edges : (h : ℕ) (s : Bool) → (to_signed h nan ≡ pos 0) × (to_signed h (inf s) ≡ signed s (largest h s))
unfolding to_signed
signed_edges h true = (refl, refl)
signed_edges h false = (refl, refl)

-- ---- the cast keeps the order
pub unsigned_mono : (w : ℕ) (x y : Float) → le x y ≡ true → to_unsigned w x ≤ to_unsigned w y
unfolding le to_unsigned
unsigned_mono w nan y h = zero-le
unsigned_mono w (inf true) y h = zero-le
unsigned_mono w (inf false) nan h = absurd (false≢true h)
unsigned_mono w (inf false) (inf true) h = absurd (false≢true h)
unsigned_mono w (inf false) (inf false) h = le_refl (2 ^ w - 1)
unsigned_mono w (inf false) (fin t n d) h = absurd (false≢true h)
unsigned_mono w (fin true m e) y h = zero-le
unsigned_mono w (fin false m e) nan h = absurd (false≢true h)
unsigned_mono w (fin false m e) (inf true) h = absurd (false≢true h)
unsigned_mono w (fin false m e) (inf false) h = cap (m * up e / down e) (2 ^ w - 1)
  where
    cap : (a c : ℕ) → min a c ≤ c
    cap a c = omega arith
unsigned_mono w (fin false m e) (fin true n d) h =
    le_trans (le_of_eq (ap (λ (x : ℕ). min (x / down e) (2 ^ w - 1)) (nothing (m * up e) (down d) (n * up d * down e) (down_pos d) h)
    ∙ ap (λ (x : ℕ). min x (2 ^ w - 1)) (zero-div (down e)) ∙ none (2 ^ w - 1))) zero-le
  where
    second : (a b : Bool) → (a && b) ≡ true → b ≡ true
    second true b h = h
    second false b h = absurd (false≢true h)

    nothing : (a d b : ℕ) → 0 < d → (false || (eqb (a * d) b && (false || eqb (a * d) 0))) ≡ true → a ≡ 0
    nothing a d b D h = eq_of_mul-eq-mul_right d D a 0 (eqb-true (a * d) 0 (second (eqb (a * d) b) (eqb (a * d) 0) h) ∙ sym (zero-mul d))

    none : (w : ℕ) → min 0 w ≡ 0
    none w = omega arith
unsigned_mono w (fin false m e) (fin false n d) h =
    lower (m * up e / down e) (n * up d / down d) (2 ^ w - 1)
    (div_mono (m * up e) (down e) (n * up d) (down d) (down_pos e) (down_pos d)
    (le_test_true (m * up e * down d) (n * up d * down e) true h))
  where
    lower : (a b c : ℕ) → a ≤ b → min a c ≤ min b c
    lower a b c h = omega arith

-- ---- a whole number, and so a floor
pub unsigned_value : (w : ℕ) (v : Float) (n : ℕ) → HasValue v false n 1 → to_unsigned w v ≡ min n (2 ^ w - 1)
unfolding to_unsigned
unsigned_value w nan n h = absurd h
unsigned_value w (inf s) n h = absurd h
unsigned_value w (fin true m e) n h = absurd (true≢false h.0)
unsigned_value w (fin false m e) n h =
    ap (λ (x : ℕ). min (x / down e) (2 ^ w - 1)) (sym (mul-one (m * up e)) ∙ h.1)
    ∙ ap (λ (x : ℕ). min x (2 ^ w - 1)) (mul-div_cancel n (down_pos e))

pub unsigned_floor : (w : ℕ) (x : Float) → T (finite x) → T (fits binary32 x) → is_negative x ≡ false
    → to_unsigned w (floor_of x) ≡ to_unsigned w x
unfolding is_negative
unsigned_floor w nan r t p = absurd r
unsigned_floor w (inf s) r t p = absurd r
unsigned_floor w (fin true m e) r t p = absurd (true≢false p)
unsigned_floor w (fin false m e) r t p =
    let F = floor_is (fin false m e) r t in
    unsigned_value w (floor_of (fin false m e)) F.n F.is
    ∙ saturated_unique (2 ^ w - 1) (m * up e) (down e) (min F.n (2 ^ w - 1)) (to_unsigned w (fin false m e))
    (capped F.n (F.plus refl).low (F.plus refl).high) (unsigned_is w m e)
  where
    capped : (n : ℕ) → n * down e ≤ m * up e → m * up e < (n + 1) * down e → Saturated (2 ^ w - 1) (m * up e) (down e) (min n (2 ^ w - 1))
    capped n l h = record {
      within = omega arith;
      low = le_trans (mul-le-mul_right (down e) (let g : min n (2 ^ w - 1) ≤ n = omega arith in g)) l;
      high = λ s. subst (λ (x : ℕ). m * up e < (x + 1) * down e) (let g : n ≡ min n (2 ^ w - 1) = omega arith in g) h;
    }
