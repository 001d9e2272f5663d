-- The place that is computed, in f32: q = a + (b - a) t in each coordinate, for 0 ≤ t ≤ 1. It is within 0.00172 m of the exact place at t
-- in each coordinate (`rounded`), so within 0.004 m of the segment (`place_own`); and where some place of the segment is within R of p,
-- q is within R + 0.035 m (`place_near`).
use Prim.Native.Nat.{◌*◌, ◌^◌, ◌≤◌}
use mathlib.Core.List.{[], ◌∷◌}
use native.Mathlib.Omega.{arith}
use lib.Dec.{lit<}
use lib.Ieee.{Float, binary32, add, sub, mul}
use Rattle.exact.specs.Integers.{Z, ◌≈◌, ◌⊑◌, ◌⊞◌, ◌⊟◌, ◌⊠◌, ◌·◌, ⊖, ι, ≈_refl, ≈_sym, ≈_trans, ⊞_cong, ⊠_cong}
use Rattle.exact.specs.Ring.{var, in_first, lit, ◌:+◌, ◌:-◌, ◌:*◌, ◌:·◌, ◌:=◌, ring}
use Rattle.exact.specs.Inequalities.{Within, abs, abs_least, within_mul, within_scale, within_up, within_≈, ι_nonneg, dot_e, dot_nonneg}
use Rattle.exact.specs.Inequalities.{triangle, sq_mono, sq_nonneg, mul_nonneg, mul_mono, ⊑_trans, ≈_⊑, ⊑_≈, ≈→⊑, within_of_nonneg}
use Rattle.exact.specs.Inequalities.{pos→nonneg, sq_pos, cancel_le, sq}
use Rattle.exact.specs.Values.{U, val, F32, UU_large, U_one}
use Rattle.exact.proofs.Steps.{mul_step, add_step}
use Rattle.coords.specs.declared.Point.{Point}
use Rattle.geometry.specs.Project.{place_at}
use Rattle.accuracy.proofs.Vectors.{Vec, from, norm_sq, beyond, far, far_e}
use Rattle.accuracy.proofs.Coordinates.{Coord, Coords, Wides, diff, diff_size}
use Rattle.accuracy.proofs.DotProduct.{sum_err}
use Rattle.accuracy.proofs.Fraction.{NearlyBest}

-- ---- one coordinate
abbrev along : Float → Float → Float → Float
along t a b = add binary32 a (mul binary32 (sub binary32 b a) t)

-- U a + t (b - a), U times the exact coordinate
abbrev exactly : Float → Float → Float → Z
exactly t a b = ι U ⊠ val a ⊞ val t ⊠ (val b ⊟ val a)

record Rounded (q : Float) (e : Z) : Type 0 where
  pub good : F32 q
  pub size : Within (val q) (ι (2 ^ 14 * U))
  pub near : Within (16777216 · (ι U ⊠ val q ⊟ e)) (ι (28800 * U * U))

times_size : (t d : Z) → Within t (ι U) → Within d (ι (2 ^ 13 * U)) → Within (t ⊠ d) (ι (U * (2 ^ 13 * U)))
times_size t d h k = go (within_mul h k)
  where
    go : Within (t ⊠ d) (ι U ⊠ ι (2 ^ 13 * U)) → Within (t ⊠ d) (ι (U * (2 ^ 13 * U)))
    go h = unfold ι ⊖ ◌⊠◌ in omega arith

rounded : (t a b : Float) → F32 t → Within (val t) (ι U) → Coord a → Coord b → Rounded (along t a b) (exactly t a b)
rounded t a b g τ A B =
    let d = diff b a B A in
    let D = val b ⊟ val a in
    let v = val (sub binary32 b a) in
    let size = product_size v (val t) τ d.size in
    let M = mul binary32 (sub binary32 b a) t in
    let m = mul_step (sub binary32 b a) t 13 d.good g (lit< tt) size in
    let q = add_step a M 14 A.good m.good (lit< tt) (sum_size (val a) (val M) A.size m.size) in
    record {
      good = q.good;
      size = q.size;
      near = sum (ι U ⊠ val a) (ι U ⊠ val M) (ι U ⊠ val (along t a b)) (v ⊠ val t) (val t ⊠ D) (abs (v ⊠ val t))
          (product_err (val t) v D τ d.near (diff_size (val b) (val a) B.size A.size)) m.near (abs_least size)
          (sum_err (val (along t a b)) (val a) (val M) (ι (12288 * U * U)) q.near
          (scaled_size (val a) (val M) A.size m.size)) UU_large;
    }
  where
    product_size : (d t : Z) → Within t (ι U) → Within d (ι (2 ^ 13 * U)) → Within (d ⊠ t) (ι (U * (2 ^ 13 * U)))
    product_size d t h k = within_≈ (ring 2 (λ t d. t :* d := d :* t) tt t d) (times_size t d h k)

    -- t (d - D)
    product_err : (t d D : Z) → Within t (ι U) → Within (16777216 · (d ⊟ D)) (abs D) → Within D (ι (2 ^ 13 * U))
        → Within (16777216 · (d ⊠ t ⊟ t ⊠ D)) (ι (U * (2 ^ 13 * U)))
    product_err t d D h k l =
        within_≈ (ring 3 (λ t d D. t :* (16777216 :· (d :- D)) := 16777216 :· (d :* t :- t :* D)) tt t d D)
        (times_size t (16777216 · (d ⊟ D)) h (within_up k (abs_least l)))

    sum_size : (a m : Z) → Within a (ι (4096 * U)) → Within m (ι (2 ^ 13 * U)) → Within (a ⊞ m) (ι (2 ^ 14 * U))
    sum_size a m h k = unfold ι ⊖ ◌⊞◌ in omega arith

    scaled_size : (a m : Z) → Within a (ι (4096 * U)) → Within m (ι (2 ^ 13 * U)) → Within (ι U ⊠ a ⊞ ι U ⊠ m) (ι (12288 * U * U))
    scaled_size a m h k = go (ι U ⊠ a) (ι U ⊠ m) (within_scale U h) (within_scale U k)
      where
        go : (x y : Z) → Within x (ι U ⊠ ι (4096 * U)) → Within y (ι U ⊠ ι (2 ^ 13 * U)) → Within (x ⊞ y) (ι (12288 * U * U))
        go x y h k = unfold ι ⊖ ◌⊞◌ ◌⊠◌ in omega arith

    sum : (ua um uq td tD atd : Z) → Within (16777216 · (td ⊟ tD)) (ι (U * (2 ^ 13 * U)))
        → Within (16777216 · (um ⊟ td)) (atd ⊞ ι (8388608 * U))
        → atd ⊑ ι (U * (2 ^ 13 * U)) → Within (16777216 · (uq ⊟ (ua ⊞ um))) (ι (12288 * U * U)) → 1152921504606846976 * U ≤ U * U
        → Within (16777216 · (uq ⊟ (ua ⊞ tD))) (ι (28800 * U * U))
    sum ua um uq td tD atd h i j k l = unfold ι ⊖ ◌⊞◌ ◌⊟◌ ◌·◌ in omega arith

-- ---- what is asked of t: where the place at S / K of the segment is within R of p, the place at t is within R + 0.031 m; R is in
-- thousandths of a unit
pub record Close (t : Float) (w d : Vec) : Type 0 where
  pub good : F32 t
  pub low : ι 0 ⊑ val t
  pub high : val t ⊑ ι U
  pub within : (K S R : Z) → ι 1 ⊑ K → ι 0 ⊑ S → S ⊑ K → ι 0 ⊑ R → 1000000 · far K S w d ⊑ sq (K ⊠ R)
      → 1000000 · far (ι U) (val t) w d ⊑ sq (ι U ⊠ R ⊞ ι (31 * U * U))

-- 10^6 F ≤ (U R + 31 U²)², where 2^18 K² F ≤ 2^18 U² G + 243 U⁴ K² and 10^6 G ≤ (K R)²
root_of_slack : (F G K R : Z) → ι 1 ⊑ K → ι 0 ⊑ R → 1000000 · G ⊑ sq (K ⊠ R)
    → ι 262144 ⊠ (sq K ⊠ F) ⊑ ι 262144 ⊠ (sq (ι U) ⊠ G) ⊞ (243 · ι (U * U * U * U)) ⊠ sq K → 1000000 · F ⊑ sq (ι U ⊠ R ⊞ ι (31 * U * U))
root_of_slack F G K R k r g h =
    let u = ι U in
    let u₄ = ι (U * U * U * U) in
    let P = sq u ⊠ sq (K ⊠ R) in
    let Q = sq K ⊠ ((u ⊠ R) ⊠ ι (U * U)) in
    let target = sq (u ⊠ R ⊞ ι (31 * U * U)) in
    let G₁ : 1000000 · (sq u ⊠ G) ⊑ P =
    ≈_⊑ (ring 2 (λ u g. 1000000 :· (u :* g) := (1000000 :· g) :* u) tt (sq u) G)
    (⊑_≈ (mul_mono (sq u) (sq_nonneg u) g) (ring 2 (λ a b. a :* b := b :* a) tt (sq (K ⊠ R)) (sq u))) in
    cancel_le (sq_pos K k)
    (go (sq K ⊠ F) (sq u ⊠ G) P Q (u₄ ⊠ sq K) (ι 262144 ⊠ (sq K ⊠ F)) (ι 262144 ⊠ (sq u ⊠ G)) ((243 · u₄) ⊠ sq K)
    (sq K ⊠ (1000000 · F)) (sq K ⊠ target)
    (literal (sq K ⊠ F)) (literal (sq u ⊠ G)) (ring 2 (λ u k. (243 :· u) :* k := 243 :· (u :* k)) tt u₄ (sq K)) h G₁
    (mul_nonneg (sq_nonneg K) (mul_nonneg (mul_nonneg (ι_nonneg U) r) (ι_nonneg (U * U))))
    (mul_nonneg (ι_nonneg (U * U * U * U)) (sq_nonneg K))
    (ring 2 (λ k f. k :* (1000000 :· f) := 1000000 :· (k :* f)) tt (sq K) F) whole)
  where
    literal : (x : Z) → ι 262144 ⊠ x ≈ 262144 · x
    literal x = unfold ι ◌⊠◌ ◌·◌ in omega arith

    split : ι U ⊠ R ⊞ ι (31 * U * U) ≈ ι U ⊠ R ⊞ 31 · (ι U ⊠ ι U)
    split = unfold ι ◌⊞◌ ◌⊠◌ ◌·◌ in omega arith

    two : ι U ⊠ ι U ≈ ι (U * U)
    two = unfold ι ◌⊠◌ in omega arith

    four : sq (ι U ⊠ ι U) ≈ ι (U * U * U * U)
    four = unfold ι ◌⊠◌ in omega arith

    join : (a b c d e f : Z) → a ≈ b ⊞ 62 · c ⊞ 961 · d → c ≈ e → d ≈ f → a ≈ b ⊞ 62 · e ⊞ 961 · f
    join a b c d e f h i j = unfold ◌⊞◌ ◌·◌ in omega arith

    whole : sq K ⊠ sq (ι U ⊠ R ⊞ ι (31 * U * U))
        ≈ sq (ι U) ⊠ sq (K ⊠ R) ⊞ 62 · (sq K ⊠ ((ι U ⊠ R) ⊠ ι (U * U))) ⊞ 961 · (ι (U * U * U * U) ⊠ sq K)
    whole =
        join (sq K ⊠ sq (ι U ⊠ R ⊞ ι (31 * U * U))) (sq (ι U) ⊠ sq (K ⊠ R)) (sq K ⊠ ((ι U ⊠ R) ⊠ (ι U ⊠ ι U))) (sq (ι U ⊠ ι U) ⊠ sq K)
        (sq K ⊠ ((ι U ⊠ R) ⊠ ι (U * U))) (ι (U * U * U * U) ⊠ sq K)
        (≈_trans (⊠_cong (≈_refl (sq K)) (⊠_cong split split)) (ring 3 (λ u k r.
        let s = u :* r :+ 31 :· (u :* u) in
        (k :* k) :* (s :* s)
        := (u :* u) :* ((k :* r) :* (k :* r)) :+ 62 :· ((k :* k) :* ((u :* r) :* (u :* u)))
        :+ 961 :· (((u :* u) :* (u :* u)) :* (k :* k))) tt (ι U) K R))
        (⊠_cong (≈_refl (sq K)) (⊠_cong (≈_refl (ι U ⊠ R)) two)) (⊠_cong four (≈_refl (sq K)))

    go : (F G rr ru u₄ kF kG ku A P : Z) → kF ≈ 262144 · F → kG ≈ 262144 · G → ku ≈ 243 · u₄ → kF ⊑ kG ⊞ ku → 1000000 · G ⊑ rr → ι 0 ⊑ ru
        → ι 0 ⊑ u₄
        → A ≈ 1000000 · F → P ≈ rr ⊞ 62 · ru ⊞ 961 · u₄ → A ⊑ P
    go F G rr ru u₄ kF kG ku A P e f g h i j k l m = unfold ι ◌⊞◌ ◌·◌ in omega arith

pub nearly_best_close : (t : Float) (w d : Vec) → NearlyBest t w d → Close t w d
nearly_best_close t w d β = record {
  good = β.good;
  low = β.low;
  high = β.high;
  within = λ K S R k₁ s₀ s₁ r₀ h. root_of_slack (far (ι U) (val t) w d) (far K S w d) K R k₁ r₀ h (β.best K S (pos→nonneg K k₁) s₀ s₁);
}

-- ---- a segment whose squared length is at most 2^-29 in f32 takes its start: t = 0
thousand_fold : (x y z : Z) → norm_sq (record { x = 1000 · x; y = 1000 · y; z = 1000 · z }) ≈ 1000000 · (sq x ⊞ sq y ⊞ sq z)
thousand_fold x y z =
    ring 3 (λ x y z. dot_e (1000 :· x) (1000 :· y) (1000 :· z) (1000 :· x) (1000 :· y) (1000 :· z)
    := 1000000 :· (x :* x :+ y :* y :+ z :* z)) tt x y z

module _ (len t : Float) (w d : Vec) (e : val t ≈ ι 0) (near : Within (1048576 · (ι U ⊠ val len ⊟ norm_sq d)) (norm_sq d ⊞ ι (2097152 * U)))
    (g : 536870912 · val len ⊑ ι U) where
  short : 1000000 · norm_sq d ⊑ ι (U * U)
  short = sum (ι U ⊠ val len) (norm_sq d) near (dot_nonneg d.x d.y d.z) (scaled (val len) g) UU_large
    where
      scaled : (l : Z) → 536870912 · l ⊑ ι U → 536870912 · (ι U ⊠ l) ⊑ ι (U * U)
      scaled l h =
          ≈_⊑ (ring 2 (λ u l. 536870912 :· (u :* l) := (536870912 :· l) :* u) tt (ι U) l)
          (⊑_≈ (mul_mono (ι U) (ι_nonneg U) h) (unfold ι ◌⊠◌ in omega arith))

      sum : (ul L : Z) → Within (1048576 · (ul ⊟ L)) (L ⊞ ι (2097152 * U)) → ι 0 ⊑ L → 536870912 · ul ⊑ ι (U * U)
          → 1152921504606846976 * U ≤ U * U
          → 1000000 · L ⊑ ι (U * U)
      sum ul L h l₀ k m = unfold ι ⊖ ◌⊞◌ ◌⊟◌ ◌·◌ in omega arith

  -- 1000 S d
  abbrev step : Z → Vec
  step S = record { x = 1000 · (S ⊠ d.x); y = 1000 · (S ⊠ d.y); z = 1000 · (S ⊠ d.z) }

  short_step : (K S : Z) → ι 0 ⊑ S → S ⊑ K → norm_sq (step S) ⊑ sq (K ⊠ ι U)
  short_step K S s₀ s₁ =
      ≈_⊑ (ring 4 (λ S x y z.
      dot_e (1000 :· (S :* x)) (1000 :· (S :* y)) (1000 :· (S :* z)) (1000 :· (S :* x)) (1000 :· (S :* y)) (1000 :· (S :* z))
      := (1000000 :· (x :* x :+ y :* y :+ z :* z)) :* (S :* S)) tt S d.x d.y d.z)
      (⊑_trans (mul_mono (sq S) (sq_nonneg S) short)
      (≈_⊑ (ring 2 (λ u s. u :* s := s :* u) tt (ι (U * U)) (sq S))
      (⊑_≈ (mul_mono (ι (U * U)) (ι_nonneg (U * U)) (sq_mono (within_of_nonneg S K s₀ s₁)))
      (≈_trans (⊠_cong (≈_refl (sq K)) is) (ring 2 (λ k u. (k :* k) :* (u :* u) := (k :* u) :* (k :* u)) tt K (ι U))))))
    where
      is : ι (U * U) ≈ sq (ι U)
      is = unfold ι ◌⊠◌ in omega arith

  -- where the place at S / K is within R of p, the start is within R + 0.001 m
  start_near : (K S R : Z) → ι 1 ⊑ K → ι 0 ⊑ S → S ⊑ K → ι 0 ⊑ R → 1000000 · far K S w d ⊑ sq (K ⊠ R) → 1000000 · norm_sq w ⊑ sq (R ⊞ ι U)
  start_near K S R k₁ s₀ s₁ r₀ h =
      let k₀ = pos→nonneg K k₁ in
      let v = step S in
      let x = K ⊠ w.x ⊟ S ⊠ d.x in
      let y = K ⊠ w.y ⊟ S ⊠ d.y in
      let z = K ⊠ w.z ⊟ S ⊠ d.z in
      cancel_le (sq_pos K k₁)
      (≈_⊑ back
      (⊑_≈ (triangle (1000 · x) (1000 · y) (1000 · z) v.x v.y v.z (K ⊠ R) (K ⊠ ι U) (mul_nonneg k₀ r₀) (mul_nonneg k₀ (ι_nonneg U))
      (≈_⊑ (thousand_fold x y z) h) (short_step K S s₀ s₁))
      (ring 3 (λ k r u. (k :* r :+ k :* u) :* (k :* r :+ k :* u) := (k :* k) :* ((r :+ u) :* (r :+ u))) tt K R (ι U))))
    where
      back : sq K ⊠ (1000000 · norm_sq w) ≈ norm_sq (record {
        x = 1000 · (K ⊠ w.x ⊟ S ⊠ d.x) ⊞ 1000 · (S ⊠ d.x);
        y = 1000 · (K ⊠ w.y ⊟ S ⊠ d.y) ⊞ 1000 · (S ⊠ d.y);
        z = 1000 · (K ⊠ w.z ⊟ S ⊠ d.z) ⊞ 1000 · (S ⊠ d.z);
      })
      back =
          ring 8 (λ K S wx wy wz dx dy dz.
          let x = 1000 :· (K :* wx :- S :* dx) :+ 1000 :· (S :* dx) in
          let y = 1000 :· (K :* wy :- S :* dy) :+ 1000 :· (S :* dy) in
          let z = 1000 :· (K :* wz :- S :* dz) :+ 1000 :· (S :* dz) in
          (K :* K) :* (1000000 :· dot_e wx wy wz wx wy wz) := dot_e x y z x y z) tt K S w.x w.y w.z d.x d.y d.z

  pub start_close : F32 t → Close t w d
  start_close p = record {
    good = p;
    low = ≈→⊑ (≈_sym e);
    high = ⊑_trans (≈→⊑ e) (ι_nonneg U);
    within = λ K S R k₁ s₀ s₁ r₀ h. ⊑_trans (≈_⊑ (at_zero (val t) e) (scaled R (start_near K S R k₁ s₀ s₁ r₀ h)))
        (sq_mono (wider (ι U ⊠ R) (mul_nonneg (ι_nonneg U) r₀)));
  }
    where
      at_zero : (T : Z) → T ≈ ι 0 → 1000000 · far (ι U) T w d ≈ 1000000 · far (ι U) (ι 0) w d
      at_zero T e =
          in_first (λ t. 1000000 :· far_e (var 1) t (var 2) (var 3) (var 4) (var 5) (var 6) (var 7))
          (ι U ∷ w.x ∷ w.y ∷ w.z ∷ d.x ∷ d.y ∷ d.z ∷ []) e

      scaled : (R : Z) → 1000000 · norm_sq w ⊑ sq (R ⊞ ι U) → 1000000 · far (ι U) (ι 0) w d ⊑ sq (ι U ⊠ R ⊞ ι (U * U))
      scaled R h =
          ≈_⊑ (ring 7 (λ u wx wy wz dx dy dz.
          1000000 :· far_e u (lit 0) wx wy wz dx dy dz := (1000000 :· dot_e wx wy wz wx wy wz) :* (u :* u)) tt
          (ι U) w.x w.y w.z d.x d.y d.z)
          (⊑_≈ (mul_mono (sq (ι U)) (sq_nonneg (ι U)) h)
          (≈_trans (ring 2 (λ r u. ((r :+ u) :* (r :+ u)) :* (u :* u) := (u :* r :+ u :* u) :* (u :* r :+ u :* u)) tt R (ι U))
          (⊠_cong (two R) (two R))))
        where
          two : (R : Z) → ι U ⊠ R ⊞ ι U ⊠ ι U ≈ ι U ⊠ R ⊞ ι (U * U)
          two R = unfold ι ◌⊞◌ ◌⊠◌ in omega arith

      wider : (x : Z) → ι 0 ⊑ x → Within (x ⊞ ι (U * U)) (x ⊞ ι (31 * U * U))
      wider x h = unfold ι ⊖ ◌⊞◌ in omega arith

-- ---- the place at t, in all three coordinates
module _ (t : Float) (g : F32 t) (τ : Within (val t) (ι U)) (a b : Point) (A : Coords a) (B : Coords b) where
  rx : Rounded (place_at a b t).x (exactly t a.x b.x)
  rx = rounded t a.x b.x g τ A.x B.x

  ry : Rounded (place_at a b t).y (exactly t a.y b.y)
  ry = rounded t a.y b.y g τ A.y B.y

  rz : Rounded (place_at a b t).z (exactly t a.z b.z)
  rz = rounded t a.z b.z g τ A.z B.z

  pub place_wides : Wides (place_at a b t)
  place_wides = record {
    x = record { good = rx.good; size = rx.size };
    y = record { good = ry.good; size = ry.size };
    z = record { good = rz.good; size = rz.size };
  }

  -- 1000 U times the displacement from what is computed to the exact place
  abbrev off : Vec
  off = record {
    x = 1000 · (exactly t a.x b.x ⊟ ι U ⊠ val (place_at a b t).x);
    y = 1000 · (exactly t a.y b.y ⊟ ι U ⊠ val (place_at a b t).y);
    z = 1000 · (exactly t a.z b.z ⊟ ι U ⊠ val (place_at a b t).z);
  }

  -- 0.002 m in each coordinate
  off_small : norm_sq off ⊑ sq (ι (4 * U * U))
  off_small =
      sum (off.x ⊠ off.x) (off.y ⊠ off.y) (off.z ⊠ off.z)
      (sq_mono (size (ι U ⊠ val (place_at a b t).x) (exactly t a.x b.x) rx.near))
      (sq_mono (size (ι U ⊠ val (place_at a b t).y) (exactly t a.y b.y) ry.near))
      (sq_mono (size (ι U ⊠ val (place_at a b t).z) (exactly t a.z b.z) rz.near))
    where
      size : (uq e : Z) → Within (16777216 · (uq ⊟ e)) (ι (28800 * U * U)) → Within (1000 · (e ⊟ uq)) (ι (2 * U * U))
      size uq e h = unfold ι ⊖ ◌⊟◌ ◌·◌ in omega arith

      sum : (x y z : Z) → x ⊑ sq (ι (2 * U * U)) → y ⊑ sq (ι (2 * U * U)) → z ⊑ sq (ι (2 * U * U)) → x ⊞ y ⊞ z ⊑ sq (ι (4 * U * U))
      sum x y z h i j = unfold ι ◌⊞◌ ◌⊠◌ in omega arith

  pub place_own : 1000000 · far (ι U) (val t) (from a (place_at a b t)) (from a b) ⊑ sq (ι (4 * U * U))
  place_own =
      let c = place_at a b t in
      let v = beyond (ι U) (val t) (from a c) (from a b) in
      ≈_⊑ (sum (v.x ⊠ v.x) (v.y ⊠ v.y) (v.z ⊠ v.z) (one (val a.x) (val b.x) (val c.x))
      (one (val a.y) (val b.y) (val c.y))
      (one (val a.z) (val b.z) (val c.z))) off_small
    where
      one : (a b c : Z) → 1000000 · sq (ι U ⊠ (c ⊟ a) ⊟ val t ⊠ (b ⊟ a)) ≈ sq (1000 · (ι U ⊠ a ⊞ val t ⊠ (b ⊟ a) ⊟ ι U ⊠ c))
      one a b c =
          ring 5 (λ u t a b c.
          let f = u :* (c :- a) :- t :* (b :- a) in
          let g = 1000 :· (u :* a :+ t :* (b :- a) :- u :* c) in
          1000000 :· (f :* f) := g :* g) tt (ι U) (val t) a b c

      sum : (x y z : Z) {p q r : Z} → 1000000 · x ≈ p → 1000000 · y ≈ q → 1000000 · z ≈ r → 1000000 · (x ⊞ y ⊞ z) ≈ p ⊞ q ⊞ r
      sum x y z h i j = unfold ◌⊞◌ ◌·◌ in omega arith

  pub place_near : (p : Point) → Close t (from a p) (from a b) → (K S R : Z) → ι 1 ⊑ K → ι 0 ⊑ S → S ⊑ K → ι 0 ⊑ R
      → 1000000 · far K S (from a p) (from a b) ⊑ sq (K ⊠ R) → 1000000 · norm_sq (from (place_at a b t) p) ⊑ sq (R ⊞ ι (35 * U))
  place_near p β K S R k₁ s₀ s₁ r₀ h =
      let w = from a p in
      let d = from a b in
      let q = place_at a b t in
      let x = ι U ⊠ w.x ⊟ val t ⊠ d.x in
      let y = ι U ⊠ w.y ⊟ val t ⊠ d.y in
      let z = ι U ⊠ w.z ⊟ val t ⊠ d.z in
      without_U (from q p) R
      (≈_⊑ (squares (one (val p.x) (val a.x) (val b.x) (val q.x)) (one (val p.y) (val a.y) (val b.y) (val q.y))
      (one (val p.z) (val a.z) (val b.z) (val q.z)))
      (triangle (1000 · x) (1000 · y) (1000 · z) off.x off.y off.z (ι U ⊠ R ⊞ ι (31 * U * U)) (ι (4 * U * U))
      (plus (ι U ⊠ R) (mul_nonneg (ι_nonneg U) r₀)) (ι_nonneg (4 * U * U))
      (≈_⊑ (thousand_fold x y z) (β.within K S R k₁ s₀ s₁ r₀ h)) off_small))
    where
      -- one coordinate of p - q is one of p - (a + t d), less the error of q
      one : (p a b q : Z) → 1000 · (ι U ⊠ (p ⊟ q)) ≈ 1000 · (ι U ⊠ (p ⊟ a) ⊟ val t ⊠ (b ⊟ a)) ⊞ 1000 · (ι U ⊠ a ⊞ val t ⊠ (b ⊟ a) ⊟ ι U ⊠ q)
      one p a b q =
          ring 6 (λ u t p a b q. 1000 :· (u :* (p :- q))
          := 1000 :· (u :* (p :- a) :- t :* (b :- a)) :+ 1000 :· (u :* a :+ t :* (b :- a) :- u :* q)) tt (ι U) (val t) p a b q

      squares : {a b c x y z : Z} → a ≈ x → b ≈ y → c ≈ z
          → norm_sq (record { x = a; y = b; z = c }) ≈ norm_sq (record { x = x; y = y; z = z })
      squares h i j = ⊞_cong (⊞_cong (⊠_cong h h) (⊠_cong i i)) (⊠_cong j j)

      plus : (x : Z) → ι 0 ⊑ x → ι 0 ⊑ x ⊞ ι (31 * U * U)
      plus x h = unfold ι ◌⊞◌ in omega arith

      without_U : (v : Vec) (R : Z) → norm_sq (record { x = 1000 · (ι U ⊠ v.x); y = 1000 · (ι U ⊠ v.y); z = 1000 · (ι U ⊠ v.z) })
          ⊑ sq (ι U ⊠ R ⊞ ι (31 * U * U) ⊞ ι (4 * U * U)) → 1000000 · norm_sq v ⊑ sq (R ⊞ ι (35 * U))
      without_U v R h =
          cancel_le (sq_pos (ι U) U_one)
          (≈_⊑ (ring 4 (λ u x y z. (u :* u) :* (1000000 :· dot_e x y z x y z)
          := dot_e (1000 :· (u :* x)) (1000 :· (u :* y)) (1000 :· (u :* z)) (1000 :· (u :* x)) (1000 :· (u :* y)) (1000 :· (u :* z))) tt
          (ι U) v.x v.y v.z)
          (⊑_≈ h (≈_trans (⊠_cong pull pull) (ring 2 (λ u s. (u :* s) :* (u :* s) := (u :* u) :* (s :* s)) tt (ι U) (R ⊞ ι (35 * U))))))
        where
          pull : ι U ⊠ R ⊞ ι (31 * U * U) ⊞ ι (4 * U * U) ≈ ι U ⊠ (R ⊞ ι (35 * U))
          pull = unfold ι ◌⊠◌ ◌⊞◌ in omega arith
