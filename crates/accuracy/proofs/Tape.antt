-- From the bound in thousandths to the tape. The distance d is replaced by the last j with (j / 1000)² ≤ d² (`far_root`); a point within
-- j + 52 thousandths then meets document 01's inequality, since 52 ≤ 100 (`taped_by`). And the reader's form of the squared distance is
-- `far` (`fraction_is`).
use mathlib.Core.Path.{◌≡◌, subst}
use mathlib.Core.Logic.{inl, inr}
use Prim.Native.Nat.{ℕ, zero, suc, ◌+◌, ◌-◌, ◌*◌, ◌^◌, ◌≤◌, ◌<◌}
use native.Mathlib.Omega.{arith}
use lib.Ieee.{Float}
use Rattle.exact.specs.Integers.{Z, ◌≈◌, ◌⊑◌, ◌⊞◌, ◌⊟◌, ◌⊠◌, ◌·◌, ⊖, ι, ≈_refl, ≈_trans, ⊠_cong, ⊞_cong, ⊟_cong}
use Rattle.exact.specs.Ring.{◌:+◌, ◌:-◌, ◌:*◌, ◌:·◌, ◌:=◌, ring}
use Rattle.exact.specs.Inequalities.{Within, mul_nonneg, mul_mono, sq_nonneg, sq_mono, within_mul, within_add, within_self, ι_nonneg}
use Rattle.exact.specs.Inequalities.{⊑_or_lt, lt→⊑, ≈_⊑, ⊑_≈, dot_nonneg, sq}
use Rattle.exact.specs.Values.{U, val}
use Rattle.coords.specs.declared.Point.{Point}
use Rattle.accuracy.specs.Taped.{between, to_fraction, Taped, inverse}
use Rattle.accuracy.proofs.Vectors.{from, beyond, far}
use Rattle.accuracy.proofs.Coordinates.{Coord, Coords, diff_size}

-- ---- the reader's form: k v - ((k - s) a + s b) is k (v - a) - s (b - a)
pub fraction_is : (k s : ℕ) (a b p : Point) → s ≤ k → to_fraction k s a b p ≈ far (ι k) (ι s) (from a p) (from a b)
fraction_is k s a b p h = ⊞_cong (⊞_cong (squared a.x b.x p.x) (squared a.y b.y p.y)) (squared a.z b.z p.z)
  where
    rest : ι (k - s) ≈ ι k ⊟ ι s
    rest = unfold ι ◌⊟◌ in omega arith

    axis : (a b v : Z) → ι k ⊠ v ⊟ (ι (k - s) ⊠ a ⊞ ι s ⊠ b) ≈ ι k ⊠ (v ⊟ a) ⊟ ι s ⊠ (b ⊟ a)
    axis a b v =
        ≈_trans (⊟_cong (≈_refl (ι k ⊠ v)) (⊞_cong (⊠_cong rest (≈_refl a)) (≈_refl (ι s ⊠ b))))
        (ring 5 (λ k s a b v. k :* v :- ((k :- s) :* a :+ s :* b) := k :* (v :- a) :- s :* (b :- a)) tt (ι k) (ι s) a b v)

    squared : (x y v : Float) → sq (ι k ⊠ val v ⊟ between k s x y) ≈ sq (ι k ⊠ (val v ⊟ val x) ⊟ ι s ⊠ (val y ⊟ val x))
    squared x y v = ⊠_cong (axis (val x) (val y) (val v)) (axis (val x) (val y) (val v))

-- ---- the root in whole thousandths of a metre: Y is 10^6 k² d²
pub record Root (Y K : Z) : Type 0 where
  pub j : ℕ
  pub small : j < 14190000
  pub low : sq (K ⊠ ι (j * U)) ⊑ Y
  pub high : Y ⊑ sq (K ⊠ ι ((j + 1) * U))

root_by : (Y K : Z) → ι 0 ⊑ Y → (n : ℕ) → n < 14190000 → Y ⊑ sq (K ⊠ ι ((n + 1) * U)) → Root Y K
root_by Y K y zero h i = record { j = 0; small = h; low = ≈_⊑ (nil K) y; high = i }
  where
    nil : (K : Z) → sq (K ⊠ ι (0 * U)) ≈ ι 0
    nil K = unfold ι ◌⊠◌ in omega arith
root_by Y K y (suc n) h i = elim (⊑_or_lt Y (sq (K ⊠ ι ((n + 1) * U)))) [
  | inl g ↦ root_by Y K y n (omega arith) g
  | inr g ↦ record {
    j = suc n;
    small = h;
    low = subst (λ (m : ℕ). sq (K ⊠ ι (m * U)) ⊑ Y) (one n)
        (lt→⊑ (sq (K ⊠ ι ((n + 1) * U))) Y g);
    high = i;
  }
]
  where
    one : (n : ℕ) → n + 1 ≡ suc n
    one n = omega arith

-- no coordinate of K (p - place) passes 8192 K, so the distance is below 14,190 m
axis_size : (K S a b v : Z) → ι 0 ⊑ S → S ⊑ K → Within (v ⊟ a) (ι (2 ^ 13 * U)) → Within (v ⊟ b) (ι (2 ^ 13 * U))
    → sq (K ⊠ (v ⊟ a) ⊟ S ⊠ (b ⊟ a)) ⊑ sq (K ⊠ ι (8192 * U))
axis_size K S a b v s₀ s₁ h i =
    ≈_⊑ (⊠_cong e e) (⊑_≈ (sq_mono (within_add (within_mul (within_self (rest K S s₁)) h) (within_mul (within_self s₀) i))) (⊠_cong f f))
  where
    rest : (K S : Z) → S ⊑ K → ι 0 ⊑ K ⊟ S
    rest K S h = unfold ι ◌⊟◌ in omega arith

    e : K ⊠ (v ⊟ a) ⊟ S ⊠ (b ⊟ a) ≈ (K ⊟ S) ⊠ (v ⊟ a) ⊞ S ⊠ (v ⊟ b)
    e = ring 5 (λ K S a b v. K :* (v :- a) :- S :* (b :- a) := (K :- S) :* (v :- a) :+ S :* (v :- b)) tt K S a b v

    f : (K ⊟ S) ⊠ ι (2 ^ 13 * U) ⊞ S ⊠ ι (2 ^ 13 * U) ≈ K ⊠ ι (8192 * U)
    f = ring 3 (λ K S u. (K :- S) :* u :+ S :* u := K :* u) tt K S (ι (8192 * U))

far_size : (K x y z : Z) → x ⊑ sq (K ⊠ ι (8192 * U)) → y ⊑ sq (K ⊠ ι (8192 * U)) → z ⊑ sq (K ⊠ ι (8192 * U))
    → 1000000 · (x ⊞ y ⊞ z) ⊑ sq (K ⊠ ι (14190000 * U))
far_size K x y z h i j =
    sum x y z (sq (K ⊠ ι (8192 * U))) (sq (K ⊠ ι (14190000 * U))) (sq K ⊠ sq (ι U)) h i j
    (≈_trans (pull 8192) (small (sq K ⊠ sq (ι U)))) (≈_trans (pull 14190000) (large (sq K ⊠ sq (ι U))))
    (mul_nonneg (sq_nonneg K) (sq_nonneg (ι U)))
  where
    split : (n : ℕ) → ι (n * U) ≈ ι n ⊠ ι U
    split n = unfold ι ◌⊠◌ in omega arith

    both : (n : ℕ) → sq (ι n) ≈ ι (n * n)
    both n = unfold ι ◌⊠◌ in omega arith

    pull : (n : ℕ) → sq (K ⊠ ι (n * U)) ≈ ι (n * n) ⊠ (sq K ⊠ sq (ι U))
    pull n =
        ≈_trans (⊠_cong (⊠_cong (≈_refl K) (split n)) (⊠_cong (≈_refl K) (split n)))
        (≈_trans (ring 3 (λ K n u. (K :* (n :* u)) :* (K :* (n :* u)) := (n :* n) :* ((K :* K) :* (u :* u))) tt K (ι n) (ι U))
        (⊠_cong (both n) (≈_refl (sq K ⊠ sq (ι U)))))

    small : (w : Z) → ι (8192 * 8192) ⊠ w ≈ 67108864 · w
    small w = unfold ι ◌⊠◌ ◌·◌ in omega arith

    large : (w : Z) → ι (14190000 * 14190000) ⊠ w ≈ 201356100000000 · w
    large w = unfold ι ◌⊠◌ ◌·◌ in omega arith

    sum : (x y z q r w : Z) → x ⊑ q → y ⊑ q → z ⊑ q → q ≈ 67108864 · w → r ≈ 201356100000000 · w → ι 0 ⊑ w → 1000000 · (x ⊞ y ⊞ z) ⊑ r
    sum x y z q r w h i j e f p = unfold ι ◌⊞◌ ◌·◌ in omega arith

pub far_root : (K S : Z) (a b p : Point) → ι 0 ⊑ S → S ⊑ K → Coords a → Coords b → Coords p
    → Root (1000000 · far K S (from a p) (from a b)) K
far_root K S a b p s₀ s₁ A B P =
    let v = beyond K S (from a p) (from a b) in
    root_by (1000000 · far K S (from a p) (from a b)) K (million (far K S (from a p) (from a b)) (dot_nonneg v.x v.y v.z)) 14189999
    (omega arith)
    (far_size K (sq v.x) (sq v.y) (sq v.z) (one a.x b.x p.x A.x B.x P.x)
    (one a.y b.y p.y A.y B.y P.y)
    (one a.z b.z p.z A.z B.z P.z))
  where
    one : (a b v : Float) → Coord a → Coord b → Coord v → sq (K ⊠ (val v ⊟ val a) ⊟ S ⊠ (val b ⊟ val a)) ⊑ sq (K ⊠ ι (8192 * U))
    one a b v A B W =
        axis_size K S (val a) (val b) (val v) s₀ s₁ (diff_size (val v) (val a) W.size A.size)
        (diff_size (val v) (val b) W.size B.size)

    million : (x : Z) → ι 0 ⊑ x → ι 0 ⊑ 1000000 · x
    million x h = unfold ι ◌·◌ in omega arith

-- ---- the tape: (k j U)² ≤ 10^6 Y and 10^6 E ≤ ((j + 52) U)². With a = k j U, b = k U and G = D² - d² - e², scaled: 50 G ≤ a b
module _ (k j : ℕ) (E Y : Z) (low : sq (ι k ⊠ ι (j * U)) ⊑ 1000000 · Y) (near : 1000000 · E ⊑ sq (ι ((j + 1) * U) ⊞ ι (51 * U))) where
  abbrev a : Z
  a = ι k ⊠ ι (j * U)

  abbrev b : Z
  b = ι k ⊠ ι U

  abbrev e² : Z
  e² = sq (ι (k * U))

  abbrev G : Z
  G = inverse · (sq (ι k) ⊠ E) ⊟ inverse · Y ⊟ e²

  e²_is : e² ≈ sq b
  e²_is = ⊠_cong one one
    where
      one : ι (k * U) ≈ ι k ⊠ ι U
      one = unfold ι ◌⊠◌ in omega arith

  opened : sq (ι k) ⊠ sq (ι ((j + 1) * U) ⊞ ι (51 * U)) ≈ sq a ⊞ 104 · (a ⊠ b) ⊞ 2704 · sq b
  opened =
      ≈_trans (⊠_cong (≈_refl (sq (ι k))) (⊠_cong sum sum))
      (ring 3 (λ k x u. (k :* k) :* ((x :+ 52 :· u) :* (x :+ 52 :· u))
      := (k :* x) :* (k :* x) :+ 104 :· ((k :* x) :* (k :* u)) :+ 2704 :· ((k :* u) :* (k :* u))) tt (ι k) (ι (j * U)) (ι U))
    where
      sum : ι ((j + 1) * U) ⊞ ι (51 * U) ≈ ι (j * U) ⊞ 52 · ι U
      sum = unfold ι ◌⊞◌ ◌·◌ in omega arith

  fifty : 50 · G ⊑ a ⊠ b
  fifty =
      let kk = sq (ι k) in
      let R = sq (ι ((j + 1) * U) ⊞ ι (51 * U)) in
      let scaled : kk ⊠ (1000000 · E) ⊑ kk ⊠ R =
      ≈_⊑ (ring 2 (λ k e. k :* e := e :* k) tt kk (1000000 · E))
      (⊑_≈ (mul_mono kk (sq_nonneg (ι k)) near) (ring 2 (λ k e. e :* k := k :* e) tt kk R)) in
      go (kk ⊠ E) Y e² (kk ⊠ (1000000 · E)) (kk ⊠ R) (sq a) (a ⊠ b) (sq b) scaled opened
      (ring 2 (λ k e. k :* (1000000 :· e) := 1000000 :· (k :* e)) tt kk E) low e²_is
      (mul_nonneg (mul_nonneg (ι_nonneg k) (ι_nonneg (j * U))) (mul_nonneg (ι_nonneg k) (ι_nonneg U))) (sq_nonneg b)
    where
      go : (x y e l r aa ab bb : Z) → l ⊑ r → r ≈ aa ⊞ 104 · ab ⊞ 2704 · bb → l ≈ 1000000 · x → aa ⊑ 1000000 · y → e ≈ bb → ι 0 ⊑ ab
          → ι 0 ⊑ bb
          → 50 · (inverse · x ⊟ inverse · y ⊟ e) ⊑ ab
      go x y e l r aa ab bb h f g m n p q = unfold ι ◌⊞◌ ◌⊟◌ ◌·◌ in omega arith

  -- 2500 G² ≤ a² b² ≤ 10^6 Y b²
  squared : ι 0 ⊞ ι 1 ⊑ G → 2500 · sq G ⊑ 1000000 · (Y ⊠ sq b)
  squared g =
      go (sq G) (sq (50 · G)) (sq (a ⊠ b)) (sq a ⊠ sq b) ((1000000 · Y) ⊠ sq b) (Y ⊠ sq b)
      (sq_mono (within G (a ⊠ b) g fifty)) (ring 1 (λ g. (50 :· g) :* (50 :· g) := 2500 :· (g :* g)) tt G)
      (ring 2 (λ a b. (a :* b) :* (a :* b) := (a :* a) :* (b :* b)) tt a b) (mul_mono (sq b) (sq_nonneg b) low)
      (ring 2 (λ y b. (1000000 :· y) :* b := 1000000 :· (y :* b)) tt Y (sq b))
    where
      within : (G r : Z) → ι 0 ⊞ ι 1 ⊑ G → 50 · G ⊑ r → Within (50 · G) r
      within G r h i = unfold ι ⊖ ◌⊟◌ ◌⊞◌ ◌·◌ in omega arith

      go : (gg g₅ abab ab y₆ w : Z) → g₅ ⊑ abab → g₅ ≈ 2500 · gg → abab ≈ ab → ab ⊑ y₆ → y₆ ≈ 1000000 · w → 2500 · gg ⊑ 1000000 · w
      go gg g₅ abab ab y₆ w h e f i m = unfold ◌·◌ in omega arith

  pub taped_by : Taped (inverse · (sq (ι k) ⊠ E)) (inverse · Y) (sq (ι (k * U)))
  taped_by = elim (⊑_or_lt G (ι 0)) [
    | inl g ↦ inl g
    | inr g ↦ second (inverse · (sq (ι k) ⊠ E)) (inverse · Y) e² (Y ⊠ sq b) (squared g) scaled
  ]
    where
      scaled : (inverse · Y) ⊠ e² ≈ inverse · (Y ⊠ sq b)
      scaled = ≈_trans (⊠_cong (≈_refl (inverse · Y)) e²_is) (ring 2 (λ y b. (inverse :· y) :* b := inverse :· (y :* b)) tt Y (sq b))

      second : (D d e w : Z) → 2500 · sq (D ⊟ d ⊟ e) ⊑ 1000000 · w → d ⊠ e ≈ inverse · w → Taped D d e
      second D d e w h i = inr (unfold ◌·◌ in omega arith)
