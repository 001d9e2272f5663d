-- Bit patterns and values, in either format, subnormals included: the value of a pattern (`bits_value`), the pattern of a value
-- (`to_bits_units`), the order of patterns (`units_lt`). The sign apart, a pattern's value is `units_of f` units, 2 ^ -low f.
-- Two values of a format that equal one fraction are one (`one_value`), and a value of the format rounds to itself (`round_self`).
use Rattle.std.specs.Prelude.{◌≡◌, refl, ◌⊎◌, ℕ, zero, suc, ◌+◌, ◌-◌, ◌*◌, ◌/◌, ◌%◌, ◌^◌, ◌≤◌, ◌<◌, Bool, true, false, cond, ℤ, T, leb, ltb, eqb, Float}
use Rattle.std.proofs.Common.{sym, ap, ◌∙◌, subst, inl, inr, le_trans, le_of_eq, le_of_lt, le_antisymm, lt_of_lt_of_le, lt_of_le_of_lt, lt_irrefl, lt-suc_self, mod-eq_of_lt, mod-lt, div-one, div-lt_iff_lt-mul, le-div_iff_mul-le, div-add-mod', mul-one, one-mul, mul_comm, mul-div_cancel, mul-le-mul_right, mul-lt-mul_of_pos_right, zero-add, suc-mul, le-add_right, sub-add_cancel, arith, true≢false, le→leb, lt→ltb, eqb→eq, pow-add, pow_pos, pow_mono}
use Rattle.std.proofs.Math.Nat.{div-eq_of_lt, eq_of_mul-eq-mul_right, add-mod_left, mul-add-mod_self_left, pow-succ'}
use Rattle.std.proofs.Math.Dec.{not_T}
use Rattle.std.proofs.Math.Arith.{le→nltb, lt→nleb, digits_div, digits_mod}
use Rattle.std.proofs.Math.Pow.{pow-lt}
use Rattle.std.specs.Float.{nan, inf, fin, Format, binary32, binary64}
use Rattle.std.specs.Float.Ieee.{prec, emax, low, hid, ones, top, up, down, size, odd, units, round, fits, of_fields, of_bits, to_bits}
use Rattle.std.specs.Float.Ieee.Digits.{size-le, size_reaches}
use Rattle.std.specs.Float.Ieee.Fits.{down_pos, odd-fits, kept-lt, round-fits, two, two-le_pos}
use Rattle.std.specs.Float.Ieee.Bits.{is_true, is_false, cond_no, of_bits-to_bits, of_bits-fits}
use Rattle.std.specs.Float.Ieee.Exact.{HasValue, odd_sign, units_val, round_exact}
use Rattle.std.specs.Float.Ieee.Nearest.{div_same}
use Rattle.std.specs.Float.Ieee.Scale.{overflow, round_same}
use Rattle.exact.specs.Naturals.{lt_or_le}
use Rattle.exact.specs.Fits.{Representable, representable, whole_steps, count, count_value}

-- ---- the number of units of the pattern of a finite value that is not negative
unfoldable pub units_of : Format → ℕ → ℕ
units_of f b = cond (ltb b (hid f)) b ((hid f + b % hid f) * 2 ^ (b / hid f - 1))

hid_pos : (f : Format) → 0 < hid f
hid_pos f = pow_pos (prec f - 1)

pub twice_hid : (f : Format) → 2 ^ prec f ≡ 2 * hid f
twice_hid binary32 = refl
twice_hid binary64 = refl

-- a subnormal's pattern, and the others
pub units_small : (f : Format) (b : ℕ) → b < hid f → units_of f b ≡ b
unfolding units_of
units_small f b h = ap (λ (t : Bool). cond t b ((hid f + b % hid f) * 2 ^ (b / hid f - 1))) (is_true (ltb b (hid f)) (lt→ltb b (hid f) h))

pub units_large : (f : Format) (b : ℕ) → hid f ≤ b → units_of f b ≡ (hid f + b % hid f) * 2 ^ (b / hid f - 1)
unfolding units_of
units_large f b h = ap (λ (t : Bool). cond t b ((hid f + b % hid f) * 2 ^ (b / hid f - 1))) (is_false (ltb b (hid f)) (le→nltb b (hid f) h))

-- ---- from a pattern to its value
of_bits_is : (f : Format) (b : ℕ) → of_bits f b ≡ of_fields f (leb (top f) b) (b % top f / hid f) (b % hid f)
unfolding of_bits
of_bits_is f b = refl

fields_normal : (f : Format) (s : Bool) (x t : ℕ) → suc x < ones f → of_fields f s (suc x) t ≡ odd (prec f) s (hid f + t) x (low f)
unfolding of_fields
fields_normal f s x t h =
    cond_no (eqb (suc x) (ones f)) (cond (eqb t 0) (inf s) nan) (odd (prec f) s (hid f + t) x (low f))
    (not_T (eqb (suc x) (ones f))
    (λ (u : T (eqb (suc x) (ones f))). lt_irrefl (suc x) (lt_of_lt_of_le h (le_of_eq (sym (eqb→eq (suc x) (ones f) u))))))

fields_subnormal : (f : Format) (s : Bool) (t : ℕ) → of_fields f s 0 t ≡ odd (prec f) s t 0 (low f)
unfolding of_fields
fields_subnormal f s t = refl

-- the sign apart, a pattern below that of the infinity
fields_value : (f : Format) (s : Bool) (b : ℕ) → b < ones f * hid f
    → HasValue (of_fields f s (b / hid f) (b % hid f)) s (units_of f b) (2 ^ low f)
fields_value f s b h = go (lt_or_le b (hid f))
  where
    pred : (q : ℕ) → 1 ≤ q → q ≡ suc (q - 1)
    pred q g = omega arith

    go : (b < hid f) ⊎ (hid f ≤ b) → HasValue (of_fields f s (b / hid f) (b % hid f)) s (units_of f b) (2 ^ low f)
    go (inl g) =
        let e : of_fields f s (b / hid f) (b % hid f) ≡ odd (prec f) s b 0 (low f) =
        ap (λ (x : ℕ). of_fields f s x (b % hid f)) (div-eq_of_lt g) ∙ ap (λ (x : ℕ). of_fields f s 0 x) (mod-eq_of_lt g)
        ∙ fields_subnormal f s b in
        subst (λ (x : Float). HasValue x s (units_of f b) (2 ^ low f)) (sym e)
        (subst (λ (x : ℕ). HasValue (odd (prec f) s b 0 (low f)) s x (2 ^ low f)) (mul-one b ∙ sym (units_small f b g))
        (odd_sign (prec f) s b 0 (low f)))
    go (inr g) =
        let x = b / hid f - 1 in
        let q : b / hid f ≡ suc x = pred (b / hid f) ((le-div_iff_mul-le (hid_pos f)).1 (le_trans (le_of_eq (one-mul (hid f))) g)) in
        let l : suc x < ones f = subst (λ (y : ℕ). y < ones f) q ((div-lt_iff_lt-mul (hid_pos f)).1 h) in
        let e : of_fields f s (b / hid f) (b % hid f) ≡ odd (prec f) s (hid f + b % hid f) x (low f) =
        ap (λ (y : ℕ). of_fields f s y (b % hid f)) q ∙ fields_normal f s x (b % hid f) l in
        subst (λ (y : Float). HasValue y s (units_of f b) (2 ^ low f)) (sym e)
        (subst (λ (y : ℕ). HasValue (odd (prec f) s (hid f + b % hid f) x (low f)) s y (2 ^ low f)) (sym (units_large f b g))
        (odd_sign (prec f) s (hid f + b % hid f) x (low f)))

under_top : (f : Format) (b : ℕ) → b < ones f * hid f → b < top f
under_top f b h = lt_of_lt_of_le h (le_trans (mul-le-mul_right (hid f) (more (ones f))) (le_of_eq (mul_comm (suc (ones f)) (hid f))))
  where
    more : (n : ℕ) → n ≤ suc n
    more n = omega arith

pub bits_value : (f : Format) (b : ℕ) → b < ones f * hid f → HasValue (of_bits f b) false (units_of f b) (2 ^ low f)
bits_value f b h =
    let l = under_top f b h in
    subst (λ (x : Float). HasValue x false (units_of f b) (2 ^ low f))
    (sym (of_bits_is f b
    ∙ ap (λ (s : Bool). of_fields f s (b % top f / hid f) (b % hid f)) (is_false (leb (top f) b) (lt→nleb (top f) b l))
    ∙ ap (λ (x : ℕ). of_fields f false (x / hid f) (b % hid f)) (mod-eq_of_lt l)))
    (fields_value f false b h)

-- the pattern of its negative
pub negative_bits_value : (f : Format) (b : ℕ) → b < ones f * hid f → HasValue (of_bits f (top f + b)) true (units_of f b) (2 ^ low f)
negative_bits_value f b h =
    subst (λ (x : Float). HasValue x true (units_of f b) (2 ^ low f))
    (sym (of_bits_is f (top f + b)
    ∙ ap (λ (s : Bool). of_fields f s ((top f + b) % top f / hid f) ((top f + b) % hid f))
    (is_true (leb (top f) (top f + b)) (le→leb (top f) (top f + b) (le-add_right (top f) b)))
    ∙ ap (λ (x : ℕ). of_fields f true (x / hid f) ((top f + b) % hid f)) (add-mod_left (top f) b ∙ mod-eq_of_lt (under_top f b h))
    ∙ ap (λ (x : ℕ). of_fields f true (b / hid f) x) (mul-add-mod_self_left (hid f) (suc (ones f)) b)))
    (fields_value f true b h)

-- ---- two values of the format that equal one fraction are one
to_bits_is : (f : Format) (s : Bool) (m : ℕ) (e : ℤ) (n : ℕ) → m * up e * 2 ^ low f / down e ≡ n
    → to_bits f (fin s m e) ≡ cond s (top f) 0 + (size n - prec f) * hid f + n / 2 ^ (size n - prec f)
unfolding to_bits
to_bits_is f s m e n p = ap (λ (x : ℕ). cond s (top f) 0 + (size x - prec f) * hid f + x / 2 ^ (size x - prec f)) p

pub one_value : (f : Format) (v w : Float) (s : Bool) (a c : ℕ) → 0 < c → T (fits f v) → T (fits f w) → HasValue v s a c → HasValue w s a c
    → v ≡ w
one_value f v w s a c C p q h k = sym (of_bits-to_bits f v p) ∙ ap (of_bits f) (same v w h k) ∙ of_bits-to_bits f w q
  where
    cross : (x y de dd l : ℕ) → x * c ≡ a * de → y * c ≡ a * dd → x * l * dd ≡ y * l * de
    cross x y de dd l u v =
        eq_of_mul-eq-mul_right c C (x * l * dd) (y * l * de) (omega (arith, ap (λ (z : ℕ). z * (l * dd)) u, ap (λ (z : ℕ). z * (l * de)) v))

    same : (v w : Float) → HasValue v s a c → HasValue w s a c → to_bits f v ≡ to_bits f w
    same nan w h k = absurd h
    same (inf r) w h k = absurd h
    same (fin r m e) nan h k = absurd k
    same (fin r m e) (inf t) h k = absurd k
    same (fin r m e) (fin t n d) h k =
        let x = n * up d * 2 ^ low f / down d in
        to_bits_is f r m e x (div_same (m * up e * 2 ^ low f) (down e) (n * up d * 2 ^ low f) (down d) (down_pos e) (down_pos d)
        (cross (m * up e) (n * up d) (down e) (down d) (2 ^ low f) h.1 k.1))
        ∙ ap (λ (z : Bool). cond z (top f) 0 + (size x - prec f) * hid f + x / 2 ^ (size x - prec f)) (h.0 ∙ sym k.0)
        ∙ sym (to_bits_is f t n d x refl)

-- so a value of the format rounds to itself
pub round_self : (f : Format) (v : Float) (s : Bool) (a c : ℕ) → 0 < c → T (fits f v) → HasValue v s a c → round f s a c ≡ v
round_self f nan s a c C t h = absurd h
round_self f (inf r) s a c C t h = absurd h
round_self f (fin r m e) s a c C t h =
    let n = m * up e in
    let v : HasValue (fin r m e) s (count f m e) (2 ^ low f) = (h.0, (count_value f r m e t).1) in
    let p = representable f (fin r m e) s (count f m e) t v in
    let x : HasValue (round f s n (down e)) s n (down e) =
    round_exact f s n (down e) p.m p.j (down_pos e) p.digits (subst (λ (z : ℕ). z < overflow f) p.is p.below)
    (v.1 ∙ ap (λ (z : ℕ). z * down e) p.is) in
    round_same f s a c n (down e) C (down_pos e) (sym h.1)
    ∙ one_value f (round f s n (down e)) (fin r m e) s n (down e) (down_pos e) (round-fits f s n (down e)) t x (h.0, refl)

-- ---- r steps of 2 ^ k units have the pattern k * hid + r: `pattern_of`. At r = 2 ^ prec that carries into the field, and is right too,
-- at an infinity also
normal_units : (f : Format) (x t : ℕ) → t < hid f → units_of f (suc x * hid f + t) ≡ (hid f + t) * 2 ^ x
normal_units f x t h =
    units_large f (suc x * hid f + t) (large (x * hid f) (hid f) (suc x * hid f) (suc-mul x (hid f)))
    ∙ ap (λ (y : ℕ). (hid f + y) * 2 ^ ((suc x * hid f + t) / hid f - 1)) (digits_mod (suc x) h)
    ∙ ap (λ (y : ℕ). (hid f + t) * 2 ^ (y - 1)) (digits_div (suc x) h)
    ∙ ap (λ (y : ℕ). (hid f + t) * 2 ^ y) (pred x)
  where
    large : (a h b : ℕ) → b ≡ a + h → h ≤ b + t
    large a h b e = omega arith

    pred : (x : ℕ) → suc x - 1 ≡ x
    pred x = omega arith

full_units : (f : Format) (k r : ℕ) → hid f ≤ r → r ≤ 2 ^ prec f → units_of f (k * hid f + r) ≡ r * 2 ^ k
full_units f k r lo hi = go (lt_or_le r (2 ^ prec f))
  where
    split : (h : ℕ) → h ≤ r → k * h + r ≡ suc k * h + (r - h)
    split h l = omega arith

    less : (p h : ℕ) → p ≡ 2 * h → h ≤ r → r < p → r - h < h
    less p h e l g = omega arith

    all : (h : ℕ) → h ≤ r → h + (r - h) ≡ r
    all h l = omega arith

    next : (p h : ℕ) → p ≡ 2 * h → r ≡ p → k * h + r ≡ suc (suc k) * h + 0
    next p h e g = omega arith

    carry : (p h q : ℕ) → p ≡ 2 * h → r ≡ p → (h + 0) * (2 * q) ≡ r * q
    carry p h q e g = omega (arith, ap (λ (z : ℕ). z * q) (g ∙ e))

    go : (r < 2 ^ prec f) ⊎ (2 ^ prec f ≤ r) → units_of f (k * hid f + r) ≡ r * 2 ^ k
    go (inl g) =
        ap (units_of f) (split (hid f) lo)
        ∙ normal_units f k (r - hid f) (less (2 ^ prec f) (hid f) (twice_hid f) lo g)
        ∙ ap (λ (z : ℕ). z * 2 ^ k) (all (hid f) lo)
    go (inr g) =
        let e : r ≡ 2 ^ prec f = le_antisymm hi g in
        ap (units_of f) (next (2 ^ prec f) (hid f) (twice_hid f) e)
        ∙ normal_units f (suc k) 0 (hid_pos f)
        ∙ ap (λ (z : ℕ). (hid f + 0) * z) (pow-succ' 2 k)
        ∙ carry (2 ^ prec f) (hid f) (2 ^ k) (twice_hid f) e

step_units : (f : Format) (k r : ℕ) → (0 < k → hid f ≤ r) → r ≤ 2 ^ prec f → units_of f (k * hid f + r) ≡ r * 2 ^ k
step_units f k r lo hi = go (lt_or_le r (hid f))
  where
    none : (k : ℕ) → (0 < k → hid f ≤ r) → r < hid f → k ≡ 0
    none zero l g = refl
    none (suc k) l g = absurd (lt_irrefl r (lt_of_lt_of_le g (l (omega arith))))

    at_zero : (h : ℕ) → 0 * h + r ≡ r
    at_zero h = omega arith

    go : (r < hid f) ⊎ (hid f ≤ r) → units_of f (k * hid f + r) ≡ r * 2 ^ k
    go (inl g) =
        subst (λ (x : ℕ). units_of f (x * hid f + r) ≡ r * 2 ^ x) (sym (none k lo g))
        (ap (units_of f) (at_zero (hid f)) ∙ units_small f r g ∙ sym (mul-one r))
    go (inr g) = full_units f k r g hi

-- such a pattern is below that of the infinity, but for the one of 2 ^ (emax + 1)
in_field : (f : Format) (k r : ℕ) → k + 2 ≤ ones f → r < 2 ^ prec f → k * hid f + r < ones f * hid f
in_field f k r g l = lt_of_lt_of_le (short (2 ^ prec f) (hid f) (twice_hid f) l) (mul-le-mul_right (hid f) g)
  where
    short : (p h : ℕ) → p ≡ 2 * h → r < p → k * h + r < (k + 2) * h
    short p h e l = omega arith

in_next_field : (f : Format) (k r : ℕ) → k + 2 < ones f → r ≤ 2 ^ prec f → k * hid f + r < ones f * hid f
in_next_field f k r g l = lt_of_lt_of_le (short (2 ^ prec f) (hid f) (hid_pos f) (twice_hid f) l) (mul-le-mul_right (hid f) g)
  where
    short : (p h : ℕ) → 0 < h → p ≡ 2 * h → r ≤ p → k * h + r < suc (k + 2) * h
    short p h H e l = omega arith

exponents : (f : Format) → prec f + ones f ≡ low f + suc (emax f) + 2
exponents binary32 = refl
exponents binary64 = refl

pub units_over : (f : Format) (s : Bool) (r k : ℕ) → overflow f ≤ r * 2 ^ k → units f s r k ≡ inf s
unfolding units
units_over f s r k h =
    ap (λ (t : Bool). cond t (odd (suc (prec f)) s r k (low f)) (inf s))
    (is_false (ltb (r * 2 ^ k) (overflow f)) (le→nltb (r * 2 ^ k) (overflow f) h))

units_fits : (f : Format) (r k : ℕ) → r ≤ 2 ^ prec f → r * 2 ^ k < overflow f → T (fits f (units f false r k))
unfolding units
units_fits f r k hi h =
    subst (λ (t : Bool). T (fits f (cond t (odd (suc (prec f)) false r k (low f)) (inf false))))
    (sym (is_true (ltb (r * 2 ^ k) (overflow f)) (lt→ltb (r * 2 ^ k) (overflow f) h)))
    (odd-fits f (suc (prec f)) false r k (lt_of_le_of_lt hi (pow-lt (lt-suc_self (prec f)))) hi h)

infinite : (f : Format) → of_bits f ((ones f - 2) * hid f + 2 ^ prec f) ≡ units f false (2 ^ prec f) (ones f - 2)
unfolding of_bits units
infinite binary32 = refl
infinite binary64 = refl

pub pattern_of : (f : Format) (k r : ℕ) → (0 < k → hid f ≤ r) → r ≤ 2 ^ prec f → k ≤ ones f - 2
    → of_bits f (k * hid f + r) ≡ units f false r k
pattern_of f k r lo hi few = go (lt_or_le r (2 ^ prec f)) (lt_or_le k (ones f - 2))
  where
    two_less : (f : Format) (k : ℕ) → k ≤ ones f - 2 → k + 2 ≤ ones f
    two_less binary32 k h = omega arith
    two_less binary64 k h = omega arith

    two_less' : (n k : ℕ) → k < n - 2 → k + 2 < n
    two_less' n k h = omega arith

    reach : (p k n x : ℕ) → p + n ≡ x + 2 → k + 2 ≤ n → p + k ≤ x
    reach p k n x e l = omega arith

    reach' : (p k n x : ℕ) → p + n ≡ x + 2 → k + 2 < n → p + k < x
    reach' p k n x e l = omega arith

    finite_case : k * hid f + r < ones f * hid f → r * 2 ^ k < overflow f → of_bits f (k * hid f + r) ≡ units f false r k
    finite_case b u =
        one_value f (of_bits f (k * hid f + r)) (units f false r k) false (r * 2 ^ k) (2 ^ low f) (pow_pos (low f))
        (of_bits-fits f (k * hid f + r)) (units_fits f r k hi u)
        (subst (λ (x : ℕ). HasValue (of_bits f (k * hid f + r)) false x (2 ^ low f)) (step_units f k r lo hi)
        (bits_value f (k * hid f + r) b))
        (units_val f false r k u)

    go : (r < 2 ^ prec f) ⊎ (2 ^ prec f ≤ r) → (k < ones f - 2) ⊎ (ones f - 2 ≤ k) → of_bits f (k * hid f + r) ≡ units f false r k
    go (inl g) y =
        let l : k + 2 ≤ ones f = two_less f k few in
        finite_case (in_field f k r l g)
        (lt_of_lt_of_le (mul-lt-mul_of_pos_right g (pow_pos k))
        (le_trans (le_of_eq (sym (pow-add 2 (prec f) k))) (pow_mono (reach (prec f) k (ones f) (low f + suc (emax f)) (exponents f) l))))
    go (inr g) (inl y) =
        let l : k + 2 < ones f = two_less' (ones f) k y in
        finite_case (in_next_field f k r l hi)
        (lt_of_le_of_lt (mul-le-mul_right (2 ^ k) hi)
        (lt_of_le_of_lt (le_of_eq (sym (pow-add 2 (prec f) k)))
        (pow-lt (reach' (prec f) k (ones f) (low f + suc (emax f)) (exponents f) l))))
    go (inr g) (inr y) =
        subst (λ (x : ℕ). of_bits f (x * hid f + r) ≡ units f false r x) (sym (le_antisymm few y))
        (subst (λ (x : ℕ). of_bits f ((ones f - 2) * hid f + x) ≡ units f false x (ones f - 2)) (sym (le_antisymm hi g)) (infinite f))

-- ---- from a value to its pattern: it is below that of the infinity, and has the value's number of units
leading : (f : Format) (a : ℕ) → 0 < size a - prec f → hid f * 2 ^ (size a - prec f) ≤ a
leading f a K =
    let k = size a - prec f in
    le_trans (le_of_eq (sym (pow-add 2 (prec f - 1) k)))
    (size_reaches a (prec f - 1 + k) (in_use (size a) (prec f) (two-le_pos (prec f) (two f)) K))
  where
    in_use : (z p : ℕ) → 0 < p → 0 < z - p → p - 1 + (z - p) < z
    in_use z p P h = omega arith

-- the digits that the pattern drops are zeros
whole_digits : (f : Format) (a : ℕ) → Representable f a → a / 2 ^ (size a - prec f) * 2 ^ (size a - prec f) ≡ a
whole_digits f a r = go (size a - prec f) (λ K. whole_steps f a (size a - prec f) r (leading f a K))
  where
    go : (k : ℕ) → (0 < k → (c : ℕ) × (a ≡ c * 2 ^ k)) → a / 2 ^ k * 2 ^ k ≡ a
    go zero h = mul-one (a / 1) ∙ div-one a
    go (suc k) h =
        let c = h (omega arith) in
        ap (λ (x : ℕ). x / 2 ^ suc k * 2 ^ suc k) c.1 ∙ ap (λ (x : ℕ). x * 2 ^ suc k) (mul-div_cancel c.0 (pow_pos (suc k))) ∙ sym c.1

pub to_bits_units : (f : Format) (v : Float) (a : ℕ) → T (fits f v) → HasValue v false a (2 ^ low f)
    → (to_bits f v < ones f * hid f) × (units_of f (to_bits f v) ≡ a)
to_bits_units f v a t h =
    let k = size a - prec f in
    let q = a / 2 ^ k in
    let r = representable f v false a t h in
    let e : to_bits f v ≡ k * hid f + q = pattern v h in
    let most : q < 2 ^ prec f = kept-lt (prec f) a in
    let least : 0 < k → hid f ≤ q = λ K. (le-div_iff_mul-le (pow_pos k)).1 (leading f a K) in (
      subst (λ (x : ℕ). x < ones f * hid f) (sym e)
          (in_field f k q (field f (size a) (size-le a (low f + suc (emax f)) r.below)) most),
      ap (units_of f) e ∙ step_units f k q least (le_of_lt most) ∙ whole_digits f a r,
    )
  where
    pattern : (v : Float) → HasValue v false a (2 ^ low f) → to_bits f v ≡ (size a - prec f) * hid f + a / 2 ^ (size a - prec f)
    pattern nan h = absurd h
    pattern (inf s) h = absurd h
    pattern (fin true m e) h = absurd (true≢false h.0)
    pattern (fin false m e) h =
        to_bits_is f false m e a (ap (λ (x : ℕ). x / down e) h.1 ∙ mul-div_cancel a (down_pos e))
        ∙ ap (λ (x : ℕ). x + a / 2 ^ (size a - prec f)) (zero-add ((size a - prec f) * hid f))

    field : (f : Format) (z : ℕ) → z ≤ low f + suc (emax f) → z - prec f + 2 ≤ ones f
    field binary32 z h = omega arith
    field binary64 z h = omega arith

-- ---- a larger pattern has more units
next_units : (f : Format) (b : ℕ) → units_of f b < units_of f (suc b)
next_units f b = go (lt_or_le b (hid f))
  where
    fewer : (b : ℕ) → b < suc b
    fewer b = omega arith

    at_zero : (b h : ℕ) → b ≡ 0 * h + b
    at_zero b h = omega arith

    move : (a r : ℕ) → suc (a + r) ≡ a + suc r
    move a r = omega arith

    split : (b h q t : ℕ) → q * h + t ≡ b → 1 ≤ q → b ≡ (q - 1) * h + (h + t)
    split b h q t e l = sym e ∙ ap (λ (x : ℕ). x * h + t) (sym (sub-add_cancel l)) ∙ last (q - 1) h
      where
        last : (q h : ℕ) → (q + 1) * h + t ≡ q * h + (h + t)
        last q h = omega arith

    doubled : (h : ℕ) → h ≤ 2 * h
    doubled h = omega arith

    above : (h t : ℕ) → h ≤ h + t
    above h t = omega arith

    above' : (h t : ℕ) → h ≤ suc (h + t)
    above' h t = omega arith

    full : (p h t : ℕ) → p ≡ 2 * h → t < h → suc (h + t) ≤ p
    full p h t e l = omega arith

    -- b is the pattern of r steps of 2 ^ k units, and the next one that of r + 1
    by : (k r : ℕ) → b ≡ k * hid f + r → (0 < k → hid f ≤ r) → (0 < k → hid f ≤ suc r) → suc r ≤ 2 ^ prec f
        → units_of f b < units_of f (suc b)
    by k r e lo lo' hi =
        lt_of_le_of_lt (le_of_eq (ap (units_of f) e ∙ step_units f k r lo (le_trans (le_of_lt (fewer r)) hi)))
        (lt_of_lt_of_le (mul-lt-mul_of_pos_right (fewer r) (pow_pos k))
        (le_of_eq (sym (ap (λ (x : ℕ). units_of f (suc x)) e ∙ ap (units_of f) (move (k * hid f) r) ∙ step_units f k (suc r) lo' hi))))

    go : (b < hid f) ⊎ (hid f ≤ b) → units_of f b < units_of f (suc b)
    go (inl h) =
        by 0 b (at_zero b (hid f)) (λ K. absurd (lt_irrefl 0 K)) (λ K. absurd (lt_irrefl 0 K))
        (le_trans h (le_trans (doubled (hid f)) (le_of_eq (sym (twice_hid f)))))
    go (inr h) =
        by (b / hid f - 1) (hid f + b % hid f)
        (split b (hid f) (b / hid f) (b % hid f) (div-add-mod' b (hid f))
        ((le-div_iff_mul-le (hid_pos f)).1 (le_trans (le_of_eq (one-mul (hid f))) h)))
        (λ K. above (hid f) (b % hid f)) (λ K. above' (hid f) (b % hid f))
        (full (2 ^ prec f) (hid f) (b % hid f) (twice_hid f) (mod-lt b (hid_pos f)))

pub units_lt : (f : Format) (b c : ℕ) → b < c → units_of f b < units_of f c
units_lt f b zero h = absurd (none b h)
  where
    none : (b : ℕ) → b < 0 → ⊥
    none b h = omega arith
units_lt f b (suc c) h = go (lt_or_le b c) (units_lt f b c)
  where
    same : (b c : ℕ) → b < suc c → c ≤ b → b ≡ c
    same b c h g = omega arith

    go : (b < c) ⊎ (c ≤ b) → (b < c → units_of f b < units_of f c) → units_of f b < units_of f (suc c)
    go (inl g) ih = lt_of_lt_of_le (ih g) (le_of_lt (next_units f c))
    go (inr g) ih = subst (λ (x : ℕ). units_of f x < units_of f (suc c)) (sym (same b c h g)) (next_units f c)
