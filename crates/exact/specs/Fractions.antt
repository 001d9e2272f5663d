-- Floats by the fractions that they equal, in either format: a comparison of floats is one of fractions, and a sum, a product or a
-- quotient is the rounded one of fractions. `HasValue x s a c` says that x is finite, has the sign s, and is a / c in size.
use Rattle.std.specs.Prelude.{◌≡◌, refl, Bool, true, false, ◌&&◌, ◌||◌, eqb, Float}
use Rattle.std.proofs.Common.{sym, ◌∙◌, le_trans, le_of_eq, le_of_lt, lt_of_not-le, not-le_of_lt, mul-one, mul_comm, mul_assoc, mul-pos, mul-le-mul_right, le_of_mul-le-mul_right, zero-mul, true≢false, lt-ltb, le-ltb, ltb-true, ltb-false, eqb-true, eq-eqb, ne_eqb}
use Rattle.std.proofs.Math.Path.{ap, ap₂}
use Prim.Native.Nat.{ℕ, zero, suc, ◌+◌, ◌-◌, ◌*◌, ◌≤◌, ◌<◌}
use Rattle.std.proofs.Math.Nat.{mul-sub, eq_of_mul-eq-mul_right}
use native.Mathlib.Omega.{arith}
use Rattle.std.specs.Bool.{beq}
use Rattle.std.proofs.Math.Bool.{cond}
use Rattle.std.proofs.lemmas.Bool.{false≢true, eqb-false}
use Rattle.std.proofs.Math.Dec.{ltb, eqb-suc-zero}
use Rattle.std.specs.Float.Ieee.{nan, up, down, unlike, round, sum, add, mul, div, below, level, lt, eq, le}
use Rattle.std.specs.Float.{inf, fin, Format}
use Rattle.std.specs.Float.Ieee.Fits.{down_pos, up_pos}
use Rattle.std.specs.Float.Ieee.Exact.{HasValue}
use Rattle.std.specs.Float.Ieee.Scale.{round_same}

-- ---- tests of a and b are those of A and B, where a / A and b / B are one ratio Q / P
le_scale : (a b A B P Q : ℕ) → 0 < Q → a * P ≡ A * Q → b * P ≡ B * Q → a ≤ b → A ≤ B
le_scale a b A B P Q q e g h = le_of_mul-le-mul_right {k = Q} (le_trans (le_of_eq (sym e)) (le_trans (mul-le-mul_right P h) (le_of_eq g))) q

eq_scale : (a b A B P Q : ℕ) → 0 < Q → a * P ≡ A * Q → b * P ≡ B * Q → a ≡ b → A ≡ B
eq_scale a b A B P Q q e g h = eq_of_mul-eq-mul_right Q q A B (sym e ∙ ap (λ (z : ℕ). z * P) h ∙ g)

module _ (P Q : ℕ) (p : 0 < P) (q : 0 < Q) where
  ltb_scale : (a b A B : ℕ) → a * P ≡ A * Q → b * P ≡ B * Q → ltb a b ≡ ltb A B
  ltb_scale a b A B e g = go (ltb a b) refl
    where
      go : (t : Bool) → ltb a b ≡ t → t ≡ ltb A B
      go true h = sym (lt-ltb A B (lt_of_not-le (λ (l : B ≤ A). not-le_of_lt (ltb-true a b h) (le_scale B A b a Q P p (sym g) (sym e) l))))
      go false h = sym (le-ltb A B (le_scale b a B A P Q q g e (ltb-false a b h)))

  eqb_scale : (a b A B : ℕ) → a * P ≡ A * Q → b * P ≡ B * Q → eqb a b ≡ eqb A B
  eqb_scale a b A B e g = go (eqb a b) refl
    where
      go : (t : Bool) → eqb a b ≡ t → t ≡ eqb A B
      go true h = sym (eq-eqb A B (eq_scale a b A B P Q q e g (eqb-true a b h)))
      go false h = sym (ne_eqb A B (λ (l : A ≡ B). eqb-false a b h (eq_scale A B a b Q P p (sym e) (sym g) l)))

  plus : (a b A B : ℕ) → a * P ≡ A * Q → b * P ≡ B * Q → (a + b) * P ≡ (A + B) * Q
  plus a b A B e g = omega arith

  less : (a b A B : ℕ) → a * P ≡ A * Q → b * P ≡ B * Q → (a - b) * P ≡ (A - B) * Q
  less a b A B e g =
      mul_comm (a - b) P ∙ mul-sub P a b ∙ ap₂ (λ (x y : ℕ). x - y) (mul_comm P a ∙ e ∙ mul_comm A Q) (mul_comm P b ∙ g ∙ mul_comm B Q)
      ∙ sym (mul-sub Q A B) ∙ mul_comm Q (A - B)

  below_scale : (s t : Bool) (a b A B : ℕ) → a * P ≡ A * Q → b * P ≡ B * Q → below s a t b ≡ below s A t B
  below_scale false false a b A B e g = ltb_scale a b A B e g
  below_scale false true a b A B e g = refl
  below_scale true false a b A B e g = ltb_scale 0 (a + b) 0 (A + B) (zero-mul P ∙ sym (zero-mul Q)) (plus a b A B e g)
  below_scale true true a b A B e g = ltb_scale b a B A g e

  level_scale : (s t : Bool) (a b A B : ℕ) → a * P ≡ A * Q → b * P ≡ B * Q → level s a t b ≡ level s A t B
  level_scale s t a b A B e g =
      ap₂ (λ (x y : Bool). x && (beq s t || y)) (eqb_scale a b A B e g) (eqb_scale a 0 A 0 e (zero-mul P ∙ sym (zero-mul Q)))

  sum_scale : (f : Format) (s t : Bool) (a b A B : ℕ) → a * P ≡ A * Q → b * P ≡ B * Q → sum f s a t b Q ≡ sum f s A t B P
  unfolding sum
  sum_scale f s t a b A B e g =
      ap₂ (λ (x y : Float). cond (beq s t) x y) (round_same f s (a + b) Q (A + B) P q p (plus a b A B e g))
      (ap₂ (λ (x y : Float). cond (ltb a b) x y) (round_same f t (b - a) Q (B - A) P q p (less b a B A g e))
      (round_same f (s && ltb b a) (a - b) Q (A - B) P q p (less a b A B e g))
      ∙ ap₂ (λ (x y : Bool). cond x (round f t (B - A) P) (round f (s && y) (A - B) P)) (ltb_scale a b A B e g) (ltb_scale b a B A g e))

-- x / de = a / c, times dd on both sides
first : (x a c d de dd : ℕ) → x * c ≡ a * de → x * dd * (c * d) ≡ a * d * (de * dd)
first x a c d de dd e = omega (arith, ap (λ (z : ℕ). z * (dd * d)) e)

second : (y b c d de dd : ℕ) → y * d ≡ b * dd → y * de * (c * d) ≡ b * c * (de * dd)
second y b c d de dd e = omega (arith, ap (λ (z : ℕ). z * (de * c)) e)

product : (x y a b c d de dd : ℕ) → x * c ≡ a * de → y * d ≡ b * dd → x * y * (c * d) ≡ a * b * (de * dd)
product x y a b c d de dd e g = omega (arith, ap₂ (λ (u v : ℕ). u * v) e g)

quotient : (x y a b c d de dd : ℕ) → x * c ≡ a * de → y * d ≡ b * dd → x * dd * (b * c) ≡ a * d * (y * de)
quotient x y a b c d de dd e g = omega (arith, ap (λ (z : ℕ). z * (dd * b)) e, ap (λ (z : ℕ). z * (a * de)) g)

-- ---- x is ± a / c and y is ± b / d
module _ (s t : Bool) (a c b d : ℕ) (C : 0 < c) (D : 0 < d) where
  pub lt_values : (x y : Float) → HasValue x s a c → HasValue y t b d → lt x y ≡ below s (a * d) t (b * c)
  unfolding lt
  lt_values nan y p q = absurd p
  lt_values (inf r) y p q = absurd p
  lt_values (fin r m e) nan p q = absurd q
  lt_values (fin r m e) (inf u) p q = absurd q
  lt_values (fin r m e) (fin u n i) p q =
      ap₂ (λ (v w : Bool). below v (m * up e * down i) w (n * up i * down e)) p.0 q.0
      ∙ below_scale (c * d) (down e * down i) (mul-pos C D) (mul-pos (down_pos e) (down_pos i)) s t (m * up e * down i) (n * up i * down e)
      (a * d) (b * c)
      (first (m * up e) a c d (down e) (down i) p.1) (second (n * up i) b c d (down e) (down i) q.1)

  pub eq_values : (x y : Float) → HasValue x s a c → HasValue y t b d → eq x y ≡ level s (a * d) t (b * c)
  unfolding eq
  eq_values nan y p q = absurd p
  eq_values (inf r) y p q = absurd p
  eq_values (fin r m e) nan p q = absurd q
  eq_values (fin r m e) (inf u) p q = absurd q
  eq_values (fin r m e) (fin u n i) p q =
      ap₂ (λ (v w : Bool). level v (m * up e * down i) w (n * up i * down e)) p.0 q.0
      ∙ level_scale (c * d) (down e * down i) (mul-pos C D) (mul-pos (down_pos e) (down_pos i)) s t (m * up e * down i) (n * up i * down e)
      (a * d) (b * c)
      (first (m * up e) a c d (down e) (down i) p.1) (second (n * up i) b c d (down e) (down i) q.1)

  pub le_values : (x y : Float) → HasValue x s a c → HasValue y t b d → le x y ≡ (below s (a * d) t (b * c) || level s (a * d) t (b * c))
  unfolding le
  le_values x y p q = ap₂ (λ (u v : Bool). u || v) (lt_values x y p q) (eq_values x y p q)

  pub add_values : (f : Format) (x y : Float) → HasValue x s a c → HasValue y t b d → add f x y ≡ sum f s (a * d) t (b * c) (c * d)
  unfolding add
  add_values f nan y p q = absurd p
  add_values f (inf r) y p q = absurd p
  add_values f (fin r m e) nan p q = absurd q
  add_values f (fin r m e) (inf u) p q = absurd q
  add_values f (fin r m e) (fin u n i) p q =
      ap₂ (λ (v w : Bool). sum f v (m * up e * down i) w (n * up i * down e) (down e * down i)) p.0 q.0
      ∙ sum_scale (c * d) (down e * down i) (mul-pos C D) (mul-pos (down_pos e) (down_pos i)) f s t (m * up e * down i) (n * up i * down e)
      (a * d) (b * c)
      (first (m * up e) a c d (down e) (down i) p.1) (second (n * up i) b c d (down e) (down i) q.1)

  pub mul_values : (f : Format) (x y : Float) → HasValue x s a c → HasValue y t b d → mul f x y ≡ round f (unlike s t) (a * b) (c * d)
  unfolding mul
  mul_values f nan y p q = absurd p
  mul_values f (inf r) y p q = absurd p
  mul_values f (fin r m e) nan p q = absurd q
  mul_values f (fin r m e) (inf u) p q = absurd q
  mul_values f (fin r m e) (fin u n i) p q =
      ap₂ (λ (v w : Bool). round f (unlike v w) (m * up e * (n * up i)) (down e * down i)) p.0 q.0
      ∙ round_same f (unlike s t) (m * up e * (n * up i)) (down e * down i) (a * b) (c * d) (mul-pos (down_pos e) (down_pos i))
      (mul-pos C D)
      (product (m * up e) (n * up i) a b c d (down e) (down i) p.1 q.1)

  -- by a y that is not zero
  pub div_values : (f : Format) (x y : Float) → HasValue x s a c → HasValue y t b d → 0 < b
      → div f x y ≡ round f (unlike s t) (a * d) (b * c)
  unfolding div
  div_values f nan y p q B = absurd p
  div_values f (inf r) y p q B = absurd p
  div_values f (fin r m e) nan p q B = absurd q
  div_values f (fin r m e) (inf u) p q B = absurd q
  div_values f (fin r m e) (fin u zero i) p q B = absurd (none (up i) b (down i) (mul-pos B (down_pos i)) q.1)
    where
      none : (x b z : ℕ) → 0 < b * z → 0 * x * d ≡ b * z → ⊥
      none x b z h e = omega arith
  div_values f (fin r m e) (fin u (suc n) i) p q B =
      ap (λ (z : Bool). cond z (cond (eqb m 0) nan (inf (unlike r u))) (round f (unlike r u) (m * up e * down i) (suc n * up i * down e)))
      (eqb-suc-zero n)
      ∙ ap₂ (λ (v w : Bool). round f (unlike v w) (m * up e * down i) (suc n * up i * down e)) p.0 q.0
      ∙ round_same f (unlike s t) (m * up e * down i) (suc n * up i * down e) (a * d) (b * c)
      (mul-pos (mul-pos (omega arith) (up_pos i)) (down_pos e)) (mul-pos B C)
      (quotient (m * up e) (suc n * up i) a b c d (down e) (down i) p.1 q.1)

-- ---- with one denominator: x is ± a / c and y is ± b / c
module _ (s t : Bool) (a b c : ℕ) (C : 0 < c) where
  one : 0 < 1
  one = omega arith

  pub lt_units : (x y : Float) → HasValue x s a c → HasValue y t b c → lt x y ≡ below s a t b
  lt_units x y p q = lt_values s t a c b c C C x y p q ∙ below_scale 1 c one C s t (a * c) (b * c) a b (mul-one (a * c)) (mul-one (b * c))

  pub eq_units : (x y : Float) → HasValue x s a c → HasValue y t b c → eq x y ≡ level s a t b
  eq_units x y p q = eq_values s t a c b c C C x y p q ∙ level_scale 1 c one C s t (a * c) (b * c) a b (mul-one (a * c)) (mul-one (b * c))

  pub add_units : (f : Format) (x y : Float) → HasValue x s a c → HasValue y t b c → add f x y ≡ sum f s a t b c
  add_units f x y p q =
      add_values s t a c b c C C f x y p q
      ∙ sum_scale c (c * c) C (mul-pos C C) f s t (a * c) (b * c) a b (mul_assoc a c c) (mul_assoc b c c)

pub sum_like : (f : Format) (s : Bool) (a b c : ℕ) → sum f s a s b c ≡ round f s (a + b) c
unfolding sum
sum_like f false a b c = refl
sum_like f true a b c = refl

-- ---- the tests that `le` of two values that are not negative is made of
pub le_test_true : (a b : ℕ) (t : Bool) → (ltb a b || (eqb a b && t)) ≡ true → a ≤ b
le_test_true a b t e = go (ltb a b) (eqb a b) (ltb-true a b) (eqb-true a b) e
  where
    go : (x y : Bool) → (x ≡ true → a < b) → (y ≡ true → a ≡ b) → (x || (y && t)) ≡ true → a ≤ b
    go true y f g h = le_of_lt (f refl)
    go false true f g h = le_of_eq (g refl)
    go false false f g h = absurd (false≢true h)

pub le_test_false : (a b : ℕ) → (ltb a b || (eqb a b && true)) ≡ false → b < a
le_test_false a b e = go (ltb a b) (eqb a b) (ltb-false a b) (eqb-false a b) e
  where
    more : b ≤ a → (a ≡ b → ⊥) → b < a
    more h n = omega arith

    go : (x y : Bool) → (x ≡ false → b ≤ a) → (y ≡ false → a ≡ b → ⊥) → (x || (y && true)) ≡ false → b < a
    go true y f g h = absurd (true≢false h)
    go false true f g h = absurd (true≢false h)
    go false false f g h = more (f refl) (g refl)

-- ---- x is a / c and y is b / d, neither negative
module _ (a c b d : ℕ) (C : 0 < c) (D : 0 < d) (x y : Float) (p : HasValue x false a c) (q : HasValue y false b d) where
  pub lt_true : lt x y ≡ true → a * d < b * c
  lt_true t = ltb-true (a * d) (b * c) (sym (lt_values false false a c b d C D x y p q) ∙ t)

  pub lt_false : lt x y ≡ false → b * c ≤ a * d
  lt_false t = ltb-false (a * d) (b * c) (sym (lt_values false false a c b d C D x y p q) ∙ t)

  pub le_true : le x y ≡ true → a * d ≤ b * c
  le_true t = le_test_true (a * d) (b * c) true (sym (le_values false false a c b d C D x y p q) ∙ t)

  pub le_false : le x y ≡ false → b * c < a * d
  le_false t = le_test_false (a * d) (b * c) (sym (le_values false false a c b d C D x y p q) ∙ t)
