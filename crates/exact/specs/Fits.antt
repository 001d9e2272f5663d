-- What `fits f` says of a finite value: it is a whole number of units, 2 ^ -low f, of the form m * 2 ^ j with an m of at most prec f
-- digits, and below 2 ^ (emax f + 1).
use Rattle.std.specs.Prelude.{◌≡◌, refl, ℕ, zero, suc, ◌+◌, ◌-◌, ◌*◌, ◌%◌, ◌^◌, ◌≤◌, ◌<◌, Bool, ◌&&◌, ℤ, pos, negsuc, T, leb, ltb, eqb, Float}
use Rattle.std.proofs.Common.{sym, ap, ◌∙◌, subst, le_trans, le_of_eq, lt_of_lt_of_le, lt_of_le_of_lt, lt_of_not-le, not-le_of_lt, mul-one, mul_assoc, mul_right_comm, mul-lt-mul_of_pos_right, lt_of_mul-lt-mul_right, sub-add_cancel, mul_comm, arith, leb→le, ltb→lt, pow-add, pow_pos, pow_mono}
use Rattle.std.proofs.Math.Nat.{eq_of_mul-eq-mul_right}
use Rattle.std.specs.Float.{nan, inf, fin, Format}
use Rattle.std.specs.Float.Ieee.{prec, emax, low, hid, up, down, fits}
use Rattle.std.specs.Float.Ieee.Fits.{and_l, and_r, down_pos, two, two-le_pos}
use Rattle.std.specs.Float.Ieee.Scale.{overflow}
use Rattle.std.specs.Float.Ieee.Exact.{HasValue}
use Rattle.exact.specs.Naturals.{pow_le_back}

-- ---- the tests that `fits` is made of, for a value that is not zero
pub record Fitting (f : Format) (m : ℕ) (e : ℤ) : Type 0 where
  pub digits : m < 2 ^ prec f
  pub exponent : down e ≤ 2 ^ low f
  pub below : m * up e < 2 ^ suc (emax f) * down e

pub fitting : (f : Format) (s : Bool) (m : ℕ) (e : ℤ) → T (fits f (fin s (suc m) e)) → Fitting f (suc m) e
unfolding fits
fitting f s m e t =
    let a : Bool = eqb (suc m % 2) 1 in
    let b : Bool = ltb (suc m) (2 ^ prec f) in
    let c : Bool = leb (down e) (2 ^ low f) in
    let d : Bool = ltb (suc m * up e) (2 ^ suc (emax f) * down e) in
    record {
      digits = ltb→lt (suc m) (2 ^ prec f) (and_r a b (and_l (a && b) c (and_l (a && b && c) d t)));
      exponent = leb→le (down e) (2 ^ low f) (and_r (a && b) c (and_l (a && b && c) d t));
      below = ltb→lt (suc m * up e) (2 ^ suc (emax f) * down e) (and_r (a && b && c) d t);
    }

-- ---- units
-- m * 2 ^ e as a number of units
unfoldable pub count : Format → ℕ → ℤ → ℕ
count f m (pos k) = m * 2 ^ k * 2 ^ low f
count f m (negsuc k) = m * 2 ^ (low f - suc k)

pub count_value : (f : Format) (s : Bool) (m : ℕ) (e : ℤ) → T (fits f (fin s m e)) → HasValue (fin s m e) s (count f m e) (2 ^ low f)
unfolding count
count_value f s m (pos k) t = (refl, sym (mul-one (m * 2 ^ k * 2 ^ low f)))
count_value f s zero (negsuc k) t = (refl, nothing (2 ^ low f) (2 ^ (low f - suc k)) (2 ^ suc k))
  where
    nothing : (x y z : ℕ) → 0 * 1 * x ≡ 0 * y * z
    nothing x y z = omega arith
count_value f s (suc m) (negsuc k) t =
    let l : suc k ≤ low f = pow_le_back (suc k) (low f) (fitting f s m (negsuc k) t).exponent in (
      refl,
      ap (λ (x : ℕ). x * 2 ^ low f) (mul-one (suc m))
          ∙ ap (λ (x : ℕ). suc m * 2 ^ x) (sym (sub-add_cancel l))
          ∙ ap (λ (x : ℕ). suc m * x) (pow-add 2 (low f - suc k) (suc k))
          ∙ sym (mul_assoc (suc m) (2 ^ (low f - suc k)) (2 ^ suc k)),
    )

-- a finite value has one number of units
one_count : (v : Float) (s : Bool) (a b c : ℕ) → HasValue v s a c → HasValue v s b c → a ≡ b
one_count nan s a b c h k = absurd h
one_count (inf t) s a b c h k = absurd h
one_count (fin t m e) s a b c h k = eq_of_mul-eq-mul_right (down e) (down_pos e) a b (sym h.1 ∙ k.1)

-- ---- the numbers of units that are values of the format
pub record Representable (f : Format) (a : ℕ) : Type 0 where
  pub m : ℕ
  pub j : ℕ
  pub is : a ≡ m * 2 ^ j
  pub digits : m < 2 ^ prec f
  pub below : a < overflow f

count_power : (f : Format) (m : ℕ) (e : ℤ) → (j : ℕ) × (count f m e ≡ m * 2 ^ j)
unfolding count
count_power f m (pos k) = (k + low f, mul_assoc m (2 ^ k) (2 ^ low f) ∙ ap (λ (x : ℕ). m * x) (sym (pow-add 2 k (low f))))
count_power f m (negsuc k) = (low f - suc k, refl)

under : (f : Format) (a x de : ℕ) → 0 < de → x * 2 ^ low f ≡ a * de → x < 2 ^ suc (emax f) * de → a < overflow f
under f a x de D e h =
    lt_of_mul-lt-mul_right de
    (lt_of_le_of_lt (le_of_eq (sym e))
    (lt_of_lt_of_le (mul-lt-mul_of_pos_right h (pow_pos (low f)))
    (le_of_eq
    (mul_right_comm (2 ^ suc (emax f)) de (2 ^ low f)
    ∙ ap (λ (x : ℕ). x * de) (mul_comm (2 ^ suc (emax f)) (2 ^ low f) ∙ sym (pow-add 2 (low f) (suc (emax f))))))))

pub representable : (f : Format) (v : Float) (s : Bool) (a : ℕ) → T (fits f v) → HasValue v s a (2 ^ low f) → Representable f a
representable f nan s a t h = absurd h
representable f (inf r) s a t h = absurd h
representable f (fin r zero e) s a t h =
    let z : a ≡ 0 = one_count (fin s zero e) s a 0 (2 ^ low f) (refl, h.1) (refl, nothing (up e) (2 ^ low f) (down e)) in
    record {
      m = 0;
      j = 0;
      is = z;
      digits = pow_pos (prec f);
      below = subst (λ (x : ℕ). x < overflow f) (sym z) (pow_pos (low f + suc (emax f)));
    }
  where
    nothing : (x y z : ℕ) → 0 * x * y ≡ 0 * z
    nothing x y z = omega arith
representable f (fin r (suc m) e) s a t h =
    let p = fitting f r m e t in
    let q = count_power f (suc m) e in
    record {
      m = suc m;
      j = q.0;
      is = one_count (fin s (suc m) e) s a (count f (suc m) e) (2 ^ low f) (refl, h.1) (refl, (count_value f r (suc m) e t).1) ∙ q.1;
      digits = p.digits;
      below = under f a (suc m * up e) (down e) (down_pos e) h.1 p.below;
    }

-- from 2 ^ (prec - 1) steps of 2 ^ k on, such a number is a whole number of steps
pub whole_steps : (f : Format) (a k : ℕ) → Representable f a → hid f * 2 ^ k ≤ a → (c : ℕ) × (a ≡ c * 2 ^ k)
whole_steps f a k r l =
    let g : k ≤ r.j = enough r.j (lt_of_not-le (λ (g : suc r.j ≤ k). not-le_of_lt (fewer g) l)) in (
      r.m * 2 ^ (r.j - k),
      r.is
          ∙ ap (λ (x : ℕ). r.m * 2 ^ x) (sym (sub-add_cancel g))
          ∙ ap (λ (x : ℕ). r.m * x) (pow-add 2 (r.j - k) k)
          ∙ sym (mul_assoc r.m (2 ^ (r.j - k)) (2 ^ k)),
    )
  where
    more : (p j : ℕ) → 0 < p → suc j ≤ k → p + j ≤ p - 1 + k
    more p j P g = omega arith

    enough : (j : ℕ) → k < suc j → k ≤ j
    enough j g = omega arith

    fewer : suc r.j ≤ k → a < hid f * 2 ^ k
    fewer g =
        lt_of_lt_of_le (subst (λ (x : ℕ). x < 2 ^ prec f * 2 ^ r.j) (sym r.is) (mul-lt-mul_of_pos_right r.digits (pow_pos r.j)))
        (le_trans (le_of_eq (sym (pow-add 2 (prec f) r.j)))
        (le_trans (pow_mono (more (prec f) r.j (two-le_pos (prec f) (two f)) g)) (le_of_eq (pow-add 2 (prec f - 1) k))))
