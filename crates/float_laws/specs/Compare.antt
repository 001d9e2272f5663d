-- Comparisons of numbers: one of less, equal, greater holds; equality is the same value; a minus turns the order.
use Rattle.std.specs.Prelude.{◌≡◌, ◌⊎◌, Bool, ◌&&◌, ◌||◌, ℕ, ◌+◌, ◌*◌, ◌<◌, ℤ, T, ltb, eqb, Float}
use Rattle.std.proofs.Math.Path.{refl, sym, ap}
use Rattle.std.proofs.Common.{◌∙◌, subst, true≢false, add_comm, mul-one, arith, le-ltb, ltb-true, ltb-false, eqb-true, eq-eqb}
use Rattle.std.proofs.Math.Logic.{inl, inr}
use Rattle.std.proofs.Math.Bool.{true, false, not, false≢true}
use Rattle.std.specs.Bool.{beq}
use Rattle.std.proofs.Math.Nat.{zero-mul, eq_of_mul-eq-mul_right}
use Rattle.std.specs.Float.Ieee.{nan, fin, up, down, neg, lt, le, eq, fits, is_nan, below, level}
use Rattle.std.specs.Float.{inf, Format}
use Rattle.std.specs.Float.Ieee.Fits.{down_pos}
use Rattle.exact.specs.Patterns.{one_value}
use Rattle.float.specs.Sign.{is_negative}
use Rattle.float.specs.Choose as choose

-- ---- `le` is less or equal
or_left : (a b : Bool) → a ≡ true → T (a || b)
or_left true b e = tt
or_left false b e = absurd (false≢true e)

or_right : (a b : Bool) → b ≡ true → T (a || b)
or_right true b e = tt
or_right false b e = subst T (sym e) tt

pub less_le : (x y : Float) → lt x y ≡ true → T (le x y)
unfolding le
less_le x y h = or_left (lt x y) (eq x y) h

pub equal_le : (x y : Float) → eq x y ≡ true → T (le x y)
unfolding le
equal_le x y h = or_right (lt x y) (eq x y) h

pub le_cases : (x y : Float) → T (le x y) → (lt x y ≡ true) ⊎ (eq x y ≡ true)
unfolding le
le_cases x y h = go (lt x y) (eq x y) h
  where
    go : (a b : Bool) → T (a || b) → (a ≡ true) ⊎ (b ≡ true)
    go true b t = inl refl
    go false true t = inr refl
    go false false t = absurd t

-- ---- equal numbers
pub eq_self : (x : Float) → T (not (is_nan x)) → eq x x ≡ true
unfolding is_nan eq
eq_self nan t = absurd t
eq_self (inf true) t = refl
eq_self (inf false) t = refl
eq_self (fin true m e) t = ap (λ (z : Bool). z && true) (eq-eqb (m * up e * down e) (m * up e * down e) refl)
eq_self (fin false m e) t = ap (λ (z : Bool). z && true) (eq-eqb (m * up e * down e) (m * up e * down e) refl)

-- what `level` says
level_is : (s t : Bool) (a b : ℕ) → level s a t b ≡ true → (a ≡ b) × ((s ≡ t) ⊎ (a ≡ 0))
level_is s t a b h = go (eqb a b) (eqb-true a b) h
  where
    sign : (s t : Bool) → (beq s t || eqb a 0) ≡ true → (s ≡ t) ⊎ (a ≡ 0)
    sign true true g = inl refl
    sign false false g = inl refl
    sign true false g = inr (eqb-true a 0 g)
    sign false true g = inr (eqb-true a 0 g)

    go : (x : Bool) → (x ≡ true → a ≡ b) → (x && (beq s t || eqb a 0)) ≡ true → (a ≡ b) × ((s ≡ t) ⊎ (a ≡ 0))
    go true f g = (f refl, sign s t g)
    go false f g = absurd (false≢true g)

level_of_law : (s t : Bool) (a b : ℕ) → a ≡ b → (s ≡ t) ⊎ (a ≡ 0) → level s a t b ≡ true
level_of_law s t a b e h = ap (λ (z : Bool). z && (beq s t || eqb a 0)) (eq-eqb a b e) ∙ go s t h
  where
    go : (s t : Bool) → (s ≡ t) ⊎ (a ≡ 0) → (beq s t || eqb a 0) ≡ true
    go true true g = refl
    go false false g = refl
    go true false (inl g) = absurd (true≢false g)
    go false true (inl g) = absurd (false≢true g)
    go true false (inr g) = eq-eqb a 0 g
    go false true (inr g) = eq-eqb a 0 g

level_turn : (s t u v : Bool) (a b : ℕ) → (s ≡ t → v ≡ u) → level s a t b ≡ true → level v b u a ≡ true
level_turn s t u v a b g h = go (level_is s t a b h)
  where
    go : (a ≡ b) × ((s ≡ t) ⊎ (a ≡ 0)) → level v b u a ≡ true
    go (e, inl i) = level_of_law v u b a (sym e) (inl (g i))
    go (e, inr z) = level_of_law v u b a (sym e) (inr (sym e ∙ z))

pub eq_turn : (x y : Float) → eq x y ≡ true → eq y x ≡ true
unfolding eq
eq_turn nan y h = absurd (false≢true h)
eq_turn (inf s) nan h = absurd (false≢true h)
eq_turn (inf true) (inf true) h = refl
eq_turn (inf true) (inf false) h = absurd (false≢true h)
eq_turn (inf false) (inf true) h = absurd (false≢true h)
eq_turn (inf false) (inf false) h = refl
eq_turn (inf s) (fin t n d) h = absurd (false≢true h)
eq_turn (fin s m e) nan h = absurd (false≢true h)
eq_turn (fin s m e) (inf t) h = absurd (false≢true h)
eq_turn (fin s m e) (fin t n d) h = level_turn s t s t (m * up e * down d) (n * up d * down e) sym h

-- ---- numbers of which neither is less are equal
level_by : (s t : Bool) (a b : ℕ) → below s a t b ≡ false → below t b s a ≡ false → level s a t b ≡ true
level_by false false a b h k = level_of_law false false a b (let x = ltb-false a b h in let y = ltb-false b a k in omega arith) (inl refl)
level_by true true a b h k = level_of_law true true a b (let x = ltb-false b a h in let y = ltb-false a b k in omega arith) (inl refl)
level_by false true a b h k = let l = ltb-false 0 (b + a) k in level_of_law false true a b (omega arith) (inr (omega arith))
level_by true false a b h k = let l = ltb-false 0 (a + b) h in level_of_law true false a b (omega arith) (inr (omega arith))

pub neither_less : (x y : Float) → T (not (is_nan x)) → T (not (is_nan y)) → lt x y ≡ false → lt y x ≡ false → eq x y ≡ true
unfolding is_nan lt eq
neither_less nan y p q h k = absurd p
neither_less (inf s) nan p q h k = absurd q
neither_less (fin s m e) nan p q h k = absurd q
neither_less (inf true) (inf true) p q h k = refl
neither_less (inf true) (inf false) p q h k = absurd (true≢false h)
neither_less (inf false) (inf true) p q h k = absurd (true≢false k)
neither_less (inf false) (inf false) p q h k = refl
neither_less (inf true) (fin t n d) p q h k = absurd (true≢false h)
neither_less (inf false) (fin t n d) p q h k = absurd (true≢false k)
neither_less (fin s m e) (inf true) p q h k = absurd (true≢false k)
neither_less (fin s m e) (inf false) p q h k = absurd (true≢false h)
neither_less (fin s m e) (fin t n d) p q h k = level_by s t (m * up e * down d) (n * up d * down e) h k

pub not_less : (x y : Float) → T (not (is_nan x)) → T (not (is_nan y)) → lt x y ≡ false → T (le y x)
not_less x y X Y h = go (lt y x) refl
  where
    go : (b : Bool) → lt y x ≡ b → T (le y x)
    go true p = less_le y x p
    go false p = equal_le y x (neither_less y x Y X p h)

-- what is less is not more, and not equal
less_not : (s t : Bool) (a b : ℕ) → below s a t b ≡ true → below t b s a ≡ false
less_not false false a b h = le-ltb b a (let x = ltb-true a b h in omega arith)
less_not true true a b h = le-ltb a b (let x = ltb-true b a h in omega arith)
less_not false true a b h = absurd (false≢true h)
less_not true false a b h = refl

pub less_not_more : (x y : Float) → lt x y ≡ true → lt y x ≡ false
unfolding lt
less_not_more nan y h = absurd (false≢true h)
less_not_more (inf s) nan h = absurd (false≢true h)
less_not_more (inf true) (inf true) h = absurd (false≢true h)
less_not_more (inf true) (inf false) h = refl
less_not_more (inf false) (inf t) h = absurd (false≢true h)
less_not_more (inf true) (fin t n d) h = refl
less_not_more (inf false) (fin t n d) h = absurd (false≢true h)
less_not_more (fin s m e) nan h = absurd (false≢true h)
less_not_more (fin s m e) (inf true) h = absurd (false≢true h)
less_not_more (fin s m e) (inf false) h = refl
less_not_more (fin s m e) (fin t n d) h = less_not s t (m * up e * down d) (n * up d * down e) h

less_not_equal : (s t : Bool) (a b : ℕ) → below s a t b ≡ true → level t b s a ≡ true → ⊥
less_not_equal s t a b h k = go s t (level_is t s b a k) h
  where
    go : (s t : Bool) → (b ≡ a) × ((t ≡ s) ⊎ (b ≡ 0)) → below s a t b ≡ true → ⊥
    go false false (e, z) h = let x = ltb-true a b h in omega arith
    go true true (e, z) h = let x = ltb-true b a h in omega arith
    go false true z h = false≢true h
    go true false (e, inl z) h = false≢true z
    go true false (e, inr z) h = let x = ltb-true 0 (a + b) h in omega arith

pub less_no_le : (x y : Float) → lt x y ≡ true → T (le y x) → ⊥
less_no_le x y h l = go (le_cases y x l)
  where
    equal : (x y : Float) → lt x y ≡ true → eq y x ≡ true → ⊥
    equal nan y h k = false≢true (unfold lt in h)
    equal (inf s) nan h k = false≢true (unfold lt in h)
    equal (inf true) (inf true) h k = false≢true (unfold lt in h)
    equal (inf true) (inf false) h k = false≢true (unfold eq in k)
    equal (inf false) (inf t) h k = false≢true (unfold lt in h)
    equal (inf s) (fin t n d) h k = false≢true (unfold eq in k)
    equal (fin s m e) nan h k = false≢true (unfold lt in h)
    equal (fin s m e) (inf t) h k = false≢true (unfold eq in k)
    equal (fin s m e) (fin t n d) h k = less_not_equal s t (m * up e * down d) (n * up d * down e) (unfold lt in h) (unfold eq in k)

    go : (lt y x ≡ true) ⊎ (eq y x ≡ true) → ⊥
    go (inl k) = true≢false (sym k ∙ less_not_more x y h)
    go (inr k) = equal x y h k

-- ---- zeros
-- a finite value of size zero
size_zero : (x d : ℕ) → 0 < d → x * d ≡ 0 → x ≡ 0
size_zero x d D h = eq_of_mul-eq-mul_right d D x 0 (h ∙ sym (zero-mul d))

is_zero : (s : Bool) (m : ℕ) (e : ℤ) → m * up e ≡ 0 → eq (fin s m e) choose.zero ≡ true
unfolding eq
is_zero s m e h =
    level_of_law s false (m * up e * 1) (0 * 1 * down e) (mul-one (m * up e) ∙ h ∙ sym (zero-mul (down e))) (inr (mul-one (m * up e) ∙ h))

zero_is : (s : Bool) (m : ℕ) (e : ℤ) → eq (fin s m e) choose.zero ≡ true → m * up e ≡ 0
unfolding eq
zero_is s m e h = sym (mul-one (m * up e)) ∙ (level_is s false (m * up e * 1) (0 * 1 * down e) h).0 ∙ zero-mul (down e)

-- ---- two equal numbers of a format are both zeros, or one
pub equal_same : (f : Format) (x y : Float) → T (fits f x) → T (fits f y) → eq x y ≡ true
    → ((eq x choose.zero && eq y choose.zero) ≡ true) ⊎ (x ≡ y)
equal_same f nan y p q h = absurd (false≢true (unfold eq in h))
equal_same f (inf s) nan p q h = absurd (false≢true (unfold eq in h))
equal_same f (inf true) (inf true) p q h = inr refl
equal_same f (inf true) (inf false) p q h = absurd (false≢true (unfold eq in h))
equal_same f (inf false) (inf true) p q h = absurd (false≢true (unfold eq in h))
equal_same f (inf false) (inf false) p q h = inr refl
equal_same f (inf s) (fin t n d) p q h = absurd (false≢true (unfold eq in h))
equal_same f (fin s m e) nan p q h = absurd (false≢true (unfold eq in h))
equal_same f (fin s m e) (inf t) p q h = absurd (false≢true (unfold eq in h))
equal_same f (fin s m e) (fin t n d) p q h = go (level_is s t (m * up e * down d) (n * up d * down e) (unfold eq in h))
  where
    go : (m * up e * down d ≡ n * up d * down e) × ((s ≡ t) ⊎ (m * up e * down d ≡ 0))
        → ((eq (fin s m e) choose.zero && eq (fin t n d) choose.zero) ≡ true) ⊎ (fin s m e ≡ fin t n d)
    go (i, inl j) = inr (one_value f (fin s m e) (fin t n d) s (m * up e) (down e) (down_pos e) p q (refl, refl) (sym j, sym i))
    go (i, inr z) =
        inl (ap (λ (b : Bool). b && eq (fin t n d) choose.zero) (is_zero s m e (size_zero (m * up e) (down d) (down_pos d) z))
        ∙ is_zero t n d (size_zero (n * up d) (down e) (down_pos e) (sym i ∙ z)))

-- ---- plus zero is equal to both zeros
pub zero_equal : (x y : Float) → eq x choose.zero ≡ true → eq x y ≡ true → eq y choose.zero ≡ true
zero_equal nan y h k = absurd (false≢true (unfold eq in h))
zero_equal (inf s) y h k = absurd (false≢true (unfold eq in h))
zero_equal (fin s m e) nan h k = absurd (false≢true (unfold eq in k))
zero_equal (fin s m e) (inf t) h k = absurd (false≢true (unfold eq in k))
zero_equal (fin s m e) (fin t n d) h k =
    let i = (level_is s t (m * up e * down d) (n * up d * down e) (unfold eq in k)).0 in
    is_zero t n d (size_zero (n * up d) (down e) (down_pos e) (sym i ∙ ap (λ (x : ℕ). x * down d) (zero_is s m e h) ∙ zero-mul (down d)))

pub zeros_equal : (x y : Float) → eq x choose.zero ≡ true → eq y choose.zero ≡ true → eq x y ≡ true
unfolding eq
zeros_equal nan y h k = absurd (false≢true h)
zeros_equal (inf s) y h k = absurd (false≢true h)
zeros_equal (fin s m e) nan h k = absurd (false≢true k)
zeros_equal (fin s m e) (inf t) h k = absurd (false≢true k)
zeros_equal (fin s m e) (fin t n d) h k =
    let i : m * up e * down d ≡ 0 = ap (λ (x : ℕ). x * down d) (zero_is s m e h) ∙ zero-mul (down d) in
    let j : n * up d * down e ≡ 0 = ap (λ (x : ℕ). x * down e) (zero_is t n d k) ∙ zero-mul (down e) in
    level_of_law s t (m * up e * down d) (n * up d * down e) (i ∙ sym j) (inr i)

-- ---- a minus turns the order
below_turn : (s t : Bool) (a b : ℕ) → below s a t b ≡ true → below (not t) b (not s) a ≡ true
below_turn false false a b h = h
below_turn true true a b h = h
below_turn false true a b h = absurd (false≢true h)
below_turn true false a b h = ap (ltb 0) (add_comm b a) ∙ h

pub neg_le : (x y : Float) → T (le x y) → T (le (neg y) (neg x))
neg_le x y h = go (le_cases x y h)
  where
    less : (x y : Float) → lt x y ≡ true → lt (neg y) (neg x) ≡ true
    less nan y h = absurd (false≢true (unfold lt in h))
    less (inf s) nan h = absurd (false≢true (unfold lt in h))
    less (inf true) (inf true) h = absurd (false≢true (unfold lt in h))
    less (inf true) (inf false) h = unfold lt neg in refl
    less (inf false) (inf t) h = absurd (false≢true (unfold lt in h))
    less (inf true) (fin t n d) h = unfold lt neg in refl
    less (inf false) (fin t n d) h = absurd (false≢true (unfold lt in h))
    less (fin s m e) nan h = absurd (false≢true (unfold lt in h))
    less (fin s m e) (inf true) h = absurd (false≢true (unfold lt in h))
    less (fin s m e) (inf false) h = unfold lt neg in refl
    less (fin s m e) (fin t n d) h = unfold lt neg in below_turn s t (m * up e * down d) (n * up d * down e) (unfold lt in h)

    equal : (x y : Float) → eq x y ≡ true → eq (neg y) (neg x) ≡ true
    equal nan y h = absurd (false≢true (unfold eq in h))
    equal (inf s) nan h = absurd (false≢true (unfold eq in h))
    equal (inf true) (inf true) h = unfold eq neg in refl
    equal (inf true) (inf false) h = absurd (false≢true (unfold eq in h))
    equal (inf false) (inf true) h = absurd (false≢true (unfold eq in h))
    equal (inf false) (inf false) h = unfold eq neg in refl
    equal (inf s) (fin t n d) h = absurd (false≢true (unfold eq in h))
    equal (fin s m e) nan h = absurd (false≢true (unfold eq in h))
    equal (fin s m e) (inf t) h = absurd (false≢true (unfold eq in h))
    equal (fin s m e) (fin t n d) h =
        unfold eq neg in level_turn s t (not s) (not t) (m * up e * down d) (n * up d * down e) (λ i. ap not (sym i)) (unfold eq in h)

    go : (lt x y ≡ true) ⊎ (eq x y ≡ true) → T (le (neg y) (neg x))
    go (inl k) = less_le (neg y) (neg x) (less x y k)
    go (inr k) = equal_le (neg y) (neg x) (equal x y k)

-- ---- what has a minus is at most what has none
pub minus_le_plus : (x y : Float) → T (not (is_nan x)) → T (not (is_nan y)) → is_negative x ≡ true → is_negative y ≡ false → T (le x y)
unfolding is_negative lt
minus_le_plus x y X Y p q = not_less y x Y X (not_below y x q p)
  where
    not_below : (y x : Float) → is_negative y ≡ false → is_negative x ≡ true → lt y x ≡ false
    not_below nan x q p = refl
    not_below (inf true) x q p = absurd (true≢false q)
    not_below (fin true n d) x q p = absurd (true≢false q)
    not_below (inf false) nan q p = refl
    not_below (inf false) (inf s) q p = refl
    not_below (inf false) (fin s m e) q p = refl
    not_below (fin false n d) nan q p = refl
    not_below (fin false n d) (inf true) q p = refl
    not_below (fin false n d) (inf false) q p = absurd (false≢true p)
    not_below (fin false n d) (fin true m e) q p = refl
    not_below (fin false n d) (fin false m e) q p = absurd (false≢true p)

-- and the other way only where both are zeros
pub both_zero : (m n : ℕ) (e d : ℤ) → T (le (fin false m e) (fin true n d)) → (m * up e ≡ 0) × (n * up d ≡ 0)
both_zero m n e d h = go (le_cases (fin false m e) (fin true n d) h)
  where
    sizes : (m * up e * down d ≡ n * up d * down e) × ((false ≡ true) ⊎ (m * up e * down d ≡ 0)) → (m * up e ≡ 0) × (n * up d ≡ 0)
    sizes (i, inl j) = absurd (false≢true j)
    sizes (i, inr z) = (size_zero (m * up e) (down d) (down_pos d) z, size_zero (n * up d) (down e) (down_pos e) (sym i ∙ z))

    go : (lt (fin false m e) (fin true n d) ≡ true) ⊎ (eq (fin false m e) (fin true n d) ≡ true) → (m * up e ≡ 0) × (n * up d ≡ 0)
    go (inl k) = absurd (false≢true (unfold lt in k))
    go (inr k) = sizes (level_is false true (m * up e * down d) (n * up d * down e) (unfold eq in k))

-- ---- the infinities
pub minus_infinity : (x : Float) → T (not (is_nan x)) → T (le (inf true) x)
unfolding le is_nan
minus_infinity nan X = absurd X
minus_infinity (inf true) X = tt
minus_infinity (inf false) X = tt
minus_infinity (fin s m e) X = tt

pub plus_infinity : (x : Float) → T (not (is_nan x)) → T (le x (inf false))
unfolding le is_nan
plus_infinity nan X = absurd X
plus_infinity (inf true) X = tt
plus_infinity (inf false) X = tt
plus_infinity (fin s m e) X = tt
