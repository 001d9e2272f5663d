-- Order of integers: products, squares, absolute values, vectors of three.
-- What is linear is `omega`'s, with each product an atom (`◌⊠◌` stays shut).
use Rattle.std.proofs.Common.{subst, inl, inr, add-sub_of_le}
use Rattle.std.specs.Prelude.{◌⊎◌, ℕ, ◌+◌, ◌*◌, ◌-◌, ◌≤◌}
use native.Mathlib.Omega.{arith}
use Rattle.exact.specs.Naturals.{lt_or_le}
use Rattle.exact.specs.Integers.{Z, ◌≈◌, ◌⊑◌, ◌⊞◌, ◌⊟◌, ◌⊠◌, ◌·◌, ⊖, ι, ≈_refl, ≈_trans, ⊠_cong}
use Rattle.exact.specs.Ring.{E, lit, ◌:+◌, ◌:-◌, ◌:*◌, ◌:·◌, neg, ◌:=◌, ring}

pub ⊑_refl : (a : Z) → a ⊑ a
⊑_refl a = omega arith

pub ⊑_trans : {a b c : Z} → a ⊑ b → b ⊑ c → a ⊑ c
⊑_trans h k = omega arith

pub ≈→⊑ : {a b : Z} → a ≈ b → a ⊑ b
≈→⊑ h = omega arith

pub ⊑_≈ : {a b c : Z} → a ⊑ b → b ≈ c → a ⊑ c
⊑_≈ h k = omega arith

pub ≈_⊑ : {a b c : Z} → a ≈ b → b ⊑ c → a ⊑ c
≈_⊑ h k = omega arith

pub lt→⊑ : (a b : Z) → a ⊞ ι 1 ⊑ b → a ⊑ b
unfolding ι ◌⊞◌
lt→⊑ a b h = omega arith

pub pos→nonneg : (a : Z) → ι 1 ⊑ a → ι 0 ⊑ a
unfolding ι
pos→nonneg a h = omega arith

pub ι_nonneg : (k : ℕ) → ι 0 ⊑ ι k
unfolding ι
ι_nonneg k = omega arith

pub ⊑_or_lt : (a b : Z) → (a ⊑ b) ⊎ (b ⊞ ι 1 ⊑ a)
unfolding ◌⊞◌ ι
⊑_or_lt a b = elim (lt_or_le (b.p + a.n) (a.p + b.n)) [ inl h ↦ inr (omega arith) | inr h ↦ inl (omega arith) ]

-- ---- products
-- of two differences that are not negative
expanded : (x y s t : ℕ) → (x + s) * y + x * (y + t) ≤ (x + s) * (y + t) + x * y
expanded x y s t = omega arith

differences : (p n q m : ℕ) → n ≤ p → m ≤ q → p * m + n * q ≤ p * q + n * m
differences p n q m h k =
    subst (λ (u : ℕ). u * m + n * q ≤ u * q + n * m) (add-sub_of_le h)
    (subst (λ (v : ℕ). (n + (p - n)) * m + n * v ≤ (n + (p - n)) * v + n * m) (add-sub_of_le k) (expanded n m (p - n) (q - m)))

pub mul_nonneg : {a b : Z} → ι 0 ⊑ a → ι 0 ⊑ b → ι 0 ⊑ a ⊠ b
unfolding ι ◌⊠◌
mul_nonneg {a} {b} h k = omega (arith, differences a.p a.n b.p b.n (omega arith) (omega arith))

pub sq_nonneg : (a : Z) → ι 0 ⊑ a ⊠ a
unfolding ι ◌⊠◌
sq_nonneg a = elim (lt_or_le a.p a.n) [
  | inl h ↦ (let k : a.p ≤ a.n = omega arith in omega (arith, differences a.n a.p a.n a.p k k))
  | inr h ↦ omega (arith, differences a.p a.n a.p a.n h h)
]

sub_nonneg : {a b : Z} → a ⊑ b → ι 0 ⊑ b ⊟ a
unfolding ι ◌⊟◌
sub_nonneg h = omega arith

pub mul_mono : {a b : Z} (c : Z) → ι 0 ⊑ c → a ⊑ b → a ⊠ c ⊑ b ⊠ c
unfolding ι ◌⊟◌
mul_mono {a} {b} c h k =
    let e : (b ⊟ a) ⊠ c ≈ (b ⊠ c) ⊟ (a ⊠ c) = ring 3 (λ a b c. (b :- a) :* c := b :* c :- a :* c) tt a b c in
    let f : ι 0 ⊑ (b ⊟ a) ⊠ c = mul_nonneg (sub_nonneg k) h in
    omega arith

-- ---- absolute values: |a| ≤ b
pub record Within (a b : Z) : Type 0 where
  pub hi : a ⊑ b
  pub lo : ⊖ a ⊑ b

pub within_nonneg : {a b : Z} → Within a b → ι 0 ⊑ b
unfolding ι ⊖
within_nonneg h = omega arith

pub within_add : {a b c d : Z} → Within a b → Within c d → Within (a ⊞ c) (b ⊞ d)
unfolding ⊖ ◌⊞◌
within_add h k = omega arith

-- (A - a)(B + b) + (A + a)(B - b) = 2(AB - ab), and (A - a)(B - b) + (A + a)(B + b) = 2(AB + ab)
pub within_mul : {a b A B : Z} → Within a A → Within b B → Within (a ⊠ b) (A ⊠ B)
unfolding ι ⊖ ◌⊞◌ ◌⊟◌
within_mul {a} {b} {A} {B} h k =
    let h₁ : ι 0 ⊑ A ⊟ a = omega arith in
    let h₂ : ι 0 ⊑ A ⊞ a = omega arith in
    let k₁ : ι 0 ⊑ B ⊟ b = omega arith in
    let k₂ : ι 0 ⊑ B ⊞ b = omega arith in
    let e : (A ⊟ a) ⊠ (B ⊞ b) ⊞ (A ⊞ a) ⊠ (B ⊟ b) ≈ A ⊠ B ⊞ A ⊠ B ⊟ (a ⊠ b ⊞ a ⊠ b) =
    ring 4 (λ a b A B. (A :- a) :* (B :+ b) :+ (A :+ a) :* (B :- b) := A :* B :+ A :* B :- (a :* b :+ a :* b)) tt a b A B in
    let f : (A ⊟ a) ⊠ (B ⊟ b) ⊞ (A ⊞ a) ⊠ (B ⊞ b) ≈ A ⊠ B ⊞ A ⊠ B ⊞ (a ⊠ b ⊞ a ⊠ b) =
    ring 4 (λ a b A B. (A :- a) :* (B :- b) :+ (A :+ a) :* (B :+ b) := A :* B :+ A :* B :+ (a :* b :+ a :* b)) tt a b A B in
    let m₁ : ι 0 ⊑ (A ⊟ a) ⊠ (B ⊞ b) = mul_nonneg h₁ k₂ in
    let m₂ : ι 0 ⊑ (A ⊞ a) ⊠ (B ⊟ b) = mul_nonneg h₂ k₁ in
    let m₃ : ι 0 ⊑ (A ⊟ a) ⊠ (B ⊟ b) = mul_nonneg h₁ k₁ in
    let m₄ : ι 0 ⊑ (A ⊞ a) ⊠ (B ⊞ b) = mul_nonneg h₂ k₂ in
    omega arith

-- ---- squares and roots
abbrev pub sq : Z → Z
sq a = a ⊠ a

pub sq_mono : {a b : Z} → Within a b → a ⊠ a ⊑ b ⊠ b
sq_mono h = (within_mul h h).hi

-- a² ≤ b² and 0 ≤ b give a ≤ b: otherwise (a - b - 1)(a + b) ≥ 0 and a + b > 0
pub root_mono : {a b : Z} → ι 0 ⊑ b → a ⊠ a ⊑ b ⊠ b → a ⊑ b
unfolding ι ◌⊞◌ ◌⊟◌
root_mono {a} {b} h k = elim (⊑_or_lt a b) [
  | inl g ↦ g
  | inr g ↦
      (let u : ι 0 ⊑ a ⊟ b ⊟ ι 1 = omega arith in
      let v : ι 0 ⊑ a ⊞ b = omega arith in
      let m : ι 0 ⊑ (a ⊟ b ⊟ ι 1) ⊠ (a ⊞ b) = mul_nonneg u v in
      let e : (a ⊟ b ⊟ ι 1) ⊠ (a ⊞ b) ≈ a ⊠ a ⊟ b ⊠ b ⊟ a ⊟ b = ring 2
      (λ a b. (a :- b :- lit 1) :* (a :+ b) := a :* a :- b :* b :- a :- b) tt a b in
      omega arith)
]

-- ---- vectors of three
abbrev pub dot : Z → Z → Z → Z → Z → Z → Z
dot a b c x y z = a ⊠ x ⊞ b ⊠ y ⊞ c ⊠ z

abbrev pub dot_e : E → E → E → E → E → E → E
dot_e a b c x y z = a :* x :+ b :* y :+ c :* z

lagrange3 : (a b c x y z : Z)
    → sq (dot a b c x y z) ⊞ (sq (a ⊠ y ⊟ b ⊠ x) ⊞ sq (a ⊠ z ⊟ c ⊠ x) ⊞ sq (b ⊠ z ⊟ c ⊠ y)) ≈ dot a b c a b c ⊠ dot x y z x y z
lagrange3 = ring 6 (λ a b c x y z.
    let d = a :* x :+ b :* y :+ c :* z in
    let p = a :* y :- b :* x in
    let q = a :* z :- c :* x in
    let r = b :* z :- c :* y in
    d :* d :+ (p :* p :+ q :* q :+ r :* r) := (a :* a :+ b :* b :+ c :* c) :* (x :* x :+ y :* y :+ z :* z)) tt

cauchy_schwarz : (a b c x y z : Z) → dot a b c x y z ⊠ dot a b c x y z ⊑ dot a b c a b c ⊠ dot x y z x y z
unfolding ι ◌⊞◌
cauchy_schwarz a b c x y z =
    omega (arith, lagrange3 a b c x y z, sq_nonneg (a ⊠ y ⊟ b ⊠ x), sq_nonneg (a ⊠ z ⊟ c ⊠ x), sq_nonneg (b ⊠ z ⊟ c ⊠ y))

pub dot_nonneg : (a b c : Z) → ι 0 ⊑ dot a b c a b c
unfolding ι ◌⊞◌
dot_nonneg a b c = omega (arith, sq_nonneg a, sq_nonneg b, sq_nonneg c)

triangle_by : (U W D pp qq pq L R : Z) → U ⊑ pp → W ⊑ qq → D ⊑ pq → L ≈ U ⊞ W ⊞ (D ⊞ D) → R ≈ pp ⊞ qq ⊞ (pq ⊞ pq) → L ⊑ R
unfolding ◌⊞◌
triangle_by U W D pp qq pq L R a b c d e = omega arith

-- if |u|² ≤ p² and |v|² ≤ q² then |u + v|² ≤ (p + q)²
pub triangle : (a b c x y z p q : Z) → ι 0 ⊑ p → ι 0 ⊑ q → dot a b c a b c ⊑ p ⊠ p → dot x y z x y z ⊑ q ⊠ q
    → dot (a ⊞ x) (b ⊞ y) (c ⊞ z) (a ⊞ x) (b ⊞ y) (c ⊞ z) ⊑ (p ⊞ q) ⊠ (p ⊞ q)
triangle a b c x y z p q P Q h k =
    let U = dot a b c a b c in
    let W = dot x y z x y z in
    let D = dot a b c x y z in
    let s₁ : U ⊠ W ⊑ (p ⊠ p) ⊠ W = mul_mono W (dot_nonneg x y z) h in
    let s₂ : W ⊠ (p ⊠ p) ⊑ (q ⊠ q) ⊠ (p ⊠ p) = mul_mono (p ⊠ p) (sq_nonneg p) k in
    let e₁ : (p ⊠ p) ⊠ W ≈ W ⊠ (p ⊠ p) = ring 2 (λ p W. (p :* p) :* W := W :* (p :* p)) tt p W in
    let e₂ : (q ⊠ q) ⊠ (p ⊠ p) ≈ (p ⊠ q) ⊠ (p ⊠ q) = ring 2 (λ p q. (q :* q) :* (p :* p) := (p :* q) :* (p :* q)) tt p q in
    let r : D ⊑ p ⊠ q = root_mono (mul_nonneg P Q) (⊑_trans (cauchy_schwarz a b c x y z) (⊑_trans s₁ (⊑_trans (≈_⊑ e₁ s₂) (≈→⊑ e₂)))) in
    triangle_by U W D (p ⊠ p) (q ⊠ q) (p ⊠ q) (dot (a ⊞ x) (b ⊞ y) (c ⊞ z) (a ⊞ x) (b ⊞ y) (c ⊞ z)) ((p ⊞ q) ⊠ (p ⊞ q)) h k r
    (ring 6 (λ a b c x y z. dot_e (a :+ x) (b :+ y) (c :+ z) (a :+ x) (b :+ y) (c :+ z) := dot_e a b c a b c :+ dot_e x y z x y z :+
    (dot_e a b c x y z :+ dot_e a b c x y z)) tt a b c x y z)
    (ring 2 (λ p q. (p :+ q) :* (p :+ q) := p :* p :+ q :* q :+ (p :* q :+ p :* q)) tt p q)

-- ---- |a|
unfoldable pub abs : Z → Z
abs a = record { p = (a.p - a.n) + (a.n - a.p); n = 0 }

pub within_abs : (a : Z) → Within a (abs a)
unfolding abs ⊖
within_abs a = omega arith

pub abs_least : {a b : Z} → Within a b → abs a ⊑ b
unfolding abs ⊖
abs_least {a} {b} h = omega arith

pub within_of_nonneg : (a b : Z) → ι 0 ⊑ a → a ⊑ b → Within a b
unfolding ι ⊖
within_of_nonneg a b h k = omega arith

pub within_self : {a : Z} → ι 0 ⊑ a → Within a a
unfolding ι ⊖
within_self h = omega arith

pub within_up : {a b c : Z} → Within a b → b ⊑ c → Within a c
unfolding ⊖
within_up h k = omega arith

pub within_≈ : {a b c : Z} → a ≈ b → Within a c → Within b c
unfolding ⊖
within_≈ h k = omega arith

-- |a|² = a²
abs_cases : (a : Z) → (abs a ≈ a) ⊎ (abs a ≈ ⊖ a)
unfolding abs ⊖
abs_cases a = elim (lt_or_le a.p a.n) [ inl h ↦ inr (omega arith) | inr h ↦ inl (omega arith) ]

pub abs_sq : (a : Z) → abs a ⊠ abs a ≈ a ⊠ a
abs_sq a = elim (abs_cases a) [
  | inl h ↦ ⊠_cong h h
  | inr h ↦ ≈_trans (⊠_cong h h) (ring 2 (λ a b. neg a :* neg a := a :* a) tt a a)
]

within_sq : {a : Z} (b : Z) → Within a (abs b) → a ⊠ a ⊑ b ⊠ b
within_sq b h = ⊑_≈ (sq_mono h) (abs_sq b)

within_cross : {a : Z} (b : Z) → Within a (abs b) → Within (b ⊠ a) (b ⊠ b)
within_cross b h = within_up (within_mul (within_abs b) h) (≈→⊑ (abs_sq b))

pub within_scale : {a b : Z} (k : ℕ) → Within a b → Within (ι k ⊠ a) (ι k ⊠ b)
within_scale k h = within_mul (within_self (ι_nonneg k)) h

rel_sq_by : (vv ee ed dd : Z) → 281474976710656 · vv ≈ 281474976710656 · ee ⊞ 33554432 · ed ⊞ dd → Within ed ee → dd ⊑ ee → ι 0 ⊑ dd
    → Within (4194304 · (vv ⊟ ee)) ee
unfolding ι ◌⊞◌ ◌⊟◌ ⊖ ◌·◌
rel_sq_by vv ee ed dd i a b c = omega arith

-- 2^24 |v - e| ≤ |e| gives 2^22 |v² - e²| ≤ e²
pub rel_sq : (v e : Z) → Within (16777216 · (v ⊟ e)) (abs e) → Within (4194304 · (v ⊠ v ⊟ e ⊠ e)) (e ⊠ e)
rel_sq v e h =
    let d : Z = 16777216 · (v ⊟ e) in
    let i : 281474976710656 · (v ⊠ v) ≈ 281474976710656 · (e ⊠ e) ⊞ 33554432 · (e ⊠ d) ⊞ d ⊠ d =
    ring 2 (λ v e. let d = 16777216 :· (v :- e) in 281474976710656 :· (v :* v) := 281474976710656 :· (e :* e) :+ 33554432 :·
    (e :* d) :+ d :* d) tt v e in
    rel_sq_by (v ⊠ v) (e ⊠ e) (e ⊠ d) (d ⊠ d) i (within_cross e h) (within_sq e h) (sq_nonneg d)

pub scale_abs : (k : ℕ) (x : Z) {β : Z} → Within (ι k ⊠ x) β → ι k ⊠ abs x ⊑ β
scale_abs k x {β} h = elim (abs_cases x) [
  | inl e ↦ ≈_⊑ (⊠_cong (≈_refl (ι k)) e) h.hi
  | inr e ↦ ≈_⊑ (≈_trans (⊠_cong (≈_refl (ι k)) e) (ring 2 (λ k x. k :* neg x := neg (k :* x)) tt (ι k) x)) h.lo
]

-- ---- a positive factor cancels
-- 0 ≤ L X and 1 ≤ L give 0 ≤ X
pub cancel_nonneg : {L X : Z} → ι 1 ⊑ L → ι 0 ⊑ L ⊠ X → ι 0 ⊑ X
unfolding ι ◌⊞◌ ◌⊟◌
cancel_nonneg {L} {X} l h = elim (⊑_or_lt (ι 0) X) [
  | inl g ↦ g
  | inr g ↦
      (let u : ι 0 ⊑ ι 0 ⊟ X ⊟ ι 1 = omega arith in
      let v : ι 0 ⊑ L = omega arith in
      let m : ι 0 ⊑ L ⊠ (ι 0 ⊟ X ⊟ ι 1) = mul_nonneg v u in
      let e : L ⊠ (ι 0 ⊟ X ⊟ ι 1) ≈ ι 0 ⊟ L ⊠ X ⊟ L = ring 2 (λ L X. L :* (lit 0 :- X :- lit 1) := lit 0 :- L :* X :- L) tt L X in
      omega arith)
]

pub cancel_le : {L A B : Z} → ι 1 ⊑ L → L ⊠ A ⊑ L ⊠ B → A ⊑ B
cancel_le {L} {A} {B} l h =
    last A B (cancel_nonneg l (first (L ⊠ A) (L ⊠ B) (L ⊠ (B ⊟ A)) h (ring 3 (λ L A B. L :* (B :- A) := L :* B :- L :* A) tt L A B)))
  where
    first : (a b c : Z) → a ⊑ b → c ≈ b ⊟ a → ι 0 ⊑ c
    first a b c h e = unfold ι ◌⊟◌ in omega arith

    last : (a b : Z) → ι 0 ⊑ b ⊟ a → a ⊑ b
    last a b h = unfold ι ◌⊟◌ in omega arith

pub scale_mono : (k : ℕ) (a b : Z) → a ⊑ b → ι k ⊠ a ⊑ ι k ⊠ b
scale_mono k a b h =
    ≈_⊑ (ring 2 (λ u v. u :* v := v :* u) tt (ι k) a) (⊑_≈ (mul_mono (ι k) (ι_nonneg k) h) (ring 2 (λ u v. v :* u := u :* v) tt (ι k) b))

pub sq_pos : (a : Z) → ι 1 ⊑ a → ι 1 ⊑ sq a
sq_pos a h = ⊑_trans h (≈_⊑ (is a) (mul_mono a (pos→nonneg a h) h))
  where
    is : (a : Z) → a ≈ ι 1 ⊠ a
    is a = unfold ι ◌⊠◌ in omega arith
