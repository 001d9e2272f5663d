-- The inner product of two rounded displacements. With w = p - a and d = b - a exact and B = 8192 U (|dx| + |dy| + |dz|):
-- 2^20 |U * result - w · d| ≤ B + 2^21 U (`dot_err`).
use Prim.Native.Nat.{◌*◌, ◌^◌}
use native.Mathlib.Omega.{arith}
use lib.Dec.{lit<}
use lib.Ieee.{Float, binary32, add, sub, mul}
use Rattle.exact.specs.Integers.{Z, ◌≈◌, ◌⊑◌, ◌⊞◌, ◌⊟◌, ◌⊠◌, ◌·◌, ⊖, ι}
use Rattle.exact.specs.Ring.{◌:+◌, ◌:-◌, ◌:*◌, ◌:·◌, ◌:=◌, ring}
use Rattle.exact.specs.Inequalities.{Within, abs, within_abs, abs_least, within_mul, within_scale, within_up, within_add, within_≈}
use Rattle.exact.specs.Inequalities.{within_nonneg, scale_abs, ≈→⊑}
use Rattle.exact.specs.Values.{U, val, F32}
use Rattle.exact.proofs.Steps.{add_step, mul_step}
use Rattle.coords.specs.declared.Point.{Point}
use Rattle.coords.specs.Coords.{sub_of, dot_of}
use Rattle.accuracy.proofs.Vectors.{from, inner, sum_abs}
use Rattle.accuracy.proofs.Coordinates.{Coord, Coords, diff, diff_size}

-- ---- exact arithmetic: (W + δ)(D + ε) - W D, for |W| ≤ c, 2^24 |δ| ≤ c and 2^24 |ε| ≤ |D|
product_err : (w W d D c : Z) → Within W c → Within (16777216 · (w ⊟ W)) c → Within (16777216 · (d ⊟ D)) (abs D)
    → Within (281474976710656 · (w ⊠ d ⊟ W ⊠ D)) (33554433 · (c ⊠ abs D))
product_err w W d D c h k l =
    let δ = 16777216 · (w ⊟ W) in
    let ε = 16777216 · (d ⊟ D) in
    let b = c ⊠ abs D in
    sum (w ⊠ d ⊟ W ⊠ D) (δ ⊠ D) (δ ⊠ ε) (W ⊠ ε) b
    (ring 4 (λ w W d D.
    let δ = 16777216 :· (w :- W) in
    let ε = 16777216 :· (d :- D) in
    281474976710656 :· (w :* d :- W :* D) := 16777216 :· (δ :* D) :+ δ :* ε :+ 16777216 :· (W :* ε)) tt w W d D)
    (within_mul k (within_abs D)) (within_mul k l) (within_mul h l)
  where
    sum : (x p q r b : Z) → 281474976710656 · x ≈ 16777216 · p ⊞ q ⊞ 16777216 · r → Within p b → Within q b → Within r b
        → Within (281474976710656 · x) (33554433 · b)
    sum x p q r b e h k l = unfold ⊖ ◌⊞◌ ◌·◌ in omega arith

-- ---- one rounded product. e is the exact one, b a bound of it
record Product (m : Float) (e b : Z) : Type 0 where
  pub good : F32 m
  pub size : Within (val m) (ι (2 ^ 26 * U))
  pub near : Within (4194304 · (ι U ⊠ val m ⊟ e)) (b ⊞ ι (2097152 * U))
  pub large : Within e b

-- |v| ≤ (1 + 2^-22) b
abs_small : (v e b : Z) → Within e b → Within (281474976710656 · (v ⊟ e)) (33554433 · b) → 4194304 · abs v ⊑ 4194305 · b
abs_small v e b h k = times (abs_least (go v e b h k))
  where
    go : (v e b : Z) → Within e b → Within (281474976710656 · (v ⊟ e)) (33554433 · b) → Within (4194304 · v) (4194305 · b)
    go v e b h k = unfold ⊖ ◌⊟◌ ◌·◌ in omega arith

    times : abs (4194304 · v) ⊑ 4194305 · b → 4194304 · abs v ⊑ 4194305 · b
    times h = unfold abs ◌·◌ in omega arith

product_size : (a b : Z) → Within a (ι (2 ^ 13 * U)) → Within b (ι (2 ^ 13 * U)) → Within (a ⊠ b) (ι (U * (2 ^ 26 * U)))
product_size a b h k = go (within_mul h k)
  where
    go : Within (a ⊠ b) (ι (2 ^ 13 * U) ⊠ ι (2 ^ 13 * U)) → Within (a ⊠ b) (ι (U * (2 ^ 26 * U)))
    go h = unfold ι ⊖ ◌⊠◌ in omega arith

-- p - a by b - a, in one coordinate
coordinate_product : (p a b : Float) → Coord p → Coord a → Coord b
    → Product (mul binary32 (sub binary32 p a) (sub binary32 b a)) ((val p ⊟ val a) ⊠ (val b ⊟ val a)) (ι (8192 * U) ⊠ abs (val b ⊟ val a))
coordinate_product p a b P A B =
    let w = diff p a P A in
    let d = diff b a B A in
    let W = val p ⊟ val a in
    let D = val b ⊟ val a in
    let c = ι (8192 * U) in
    let wv = val (sub binary32 p a) in
    let dv = val (sub binary32 b a) in
    let sW = diff_size (val p) (val a) P.size A.size in
    let m = mul_step (sub binary32 p a) (sub binary32 b a) 26 w.good d.good (lit< tt) (product_size wv dv w.size d.size) in
    let pe = product_err wv W dv D c sW (within_up w.near (abs_least sW)) d.near in
    let l = within_mul sW (within_abs D) in
    record {
      good = m.good;
      size = m.size;
      near = sum (wv ⊠ dv) (W ⊠ D) (ι U ⊠ val (mul binary32 (sub binary32 p a) (sub binary32 b a))) (abs (wv ⊠ dv)) (c ⊠ abs D) l pe
          m.near (abs_small (wv ⊠ dv) (W ⊠ D) (c ⊠ abs D) l pe);
      large = l;
    }
  where
    sum : (v e um av b : Z) → Within e b → Within (281474976710656 · (v ⊟ e)) (33554433 · b)
        → Within (16777216 · (um ⊟ v)) (av ⊞ ι (8388608 * U)) → 4194304 · av ⊑ 4194305 · b
        → Within (4194304 · (um ⊟ e)) (b ⊞ ι (2097152 * U))
    sum v e um av b h k l n = unfold ι ⊖ ◌⊟◌ ◌⊞◌ ◌·◌ in omega arith

-- ---- the error of a sum, times U
pub sum_err : (s a b β : Z) → Within (16777216 · (s ⊟ (a ⊞ b))) (abs (a ⊞ b)) → Within (ι U ⊠ a ⊞ ι U ⊠ b) β
    → Within (16777216 · (ι U ⊠ s ⊟ (ι U ⊠ a ⊞ ι U ⊠ b))) β
sum_err s a b β h k =
    within_≈ (ring 4 (λ u s a b. u :* (16777216 :· (s :- (a :+ b))) := 16777216 :· (u :* s :- (u :* a :+ u :* b))) tt (ι U) s a b)
    (within_up (within_scale U h)
    (scale_abs U (a ⊞ b) (within_≈ (ring 3 (λ u a b. u :* a :+ u :* b := u :* (a :+ b)) tt (ι U) a b) k)))

-- ---- the sum of three products
pub record Dotted (s : Float) (e B : Z) : Type 0 where
  pub good : F32 s
  pub size : Within (val s) (ι (2 ^ 28 * U))
  pub near : Within (1048576 · (ι U ⊠ val s ⊟ e)) (B ⊞ ι (2097152 * U))
  pub large : Within e B

module _ (x y z e f g b c d : Z) (ex : Within (4194304 · (x ⊟ e)) (b ⊞ ι (2097152 * U)))
    (ey : Within (4194304 · (y ⊟ f)) (c ⊞ ι (2097152 * U))) (ez : Within (4194304 · (z ⊟ g)) (d ⊞ ι (2097152 * U)))
    (lx : Within e b) (ly : Within f c) (lz : Within g d) where
  two_size : Within (x ⊞ y) (2 · (b ⊞ c) ⊞ ι U)
  unfolding ι ⊖ ◌⊞◌ ◌⊟◌ ◌·◌
  two_size = omega arith

  -- s and t are the two rounded sums
  three_size : (s : Z) → Within (16777216 · (s ⊟ (x ⊞ y))) (2 · (b ⊞ c) ⊞ ι U) → Within (s ⊞ z) (3 · (b ⊞ c ⊞ d) ⊞ ι (3 * U))
  unfolding ι ⊖ ◌⊞◌ ◌⊟◌ ◌·◌
  three_size s h = omega arith

  products_err : Within (4194304 · (x ⊞ y ⊞ z ⊟ (e ⊞ f ⊞ g))) (b ⊞ c ⊞ d ⊞ ι (6291456 * U))
  unfolding ι ⊖ ◌⊞◌ ◌⊟◌ ◌·◌
  products_err = omega arith

  sums_err : (s t : Z) → ι 0 ⊑ b ⊞ c → ι 0 ⊑ d → Within (16777216 · (s ⊟ (x ⊞ y))) (2 · (b ⊞ c) ⊞ ι U)
      → Within (16777216 · (t ⊟ (s ⊞ z))) (3 · (b ⊞ c ⊞ d) ⊞ ι (3 * U)) → Within (4194304 · (t ⊟ (x ⊞ y ⊞ z))) (2 · (b ⊞ c ⊞ d) ⊞ ι U)
  sums_err s t = go x y z s t (b ⊞ c) d
    where
      go : (x y z s t b d : Z) → ι 0 ⊑ b → ι 0 ⊑ d → Within (16777216 · (s ⊟ (x ⊞ y))) (2 · b ⊞ ι U)
          → Within (16777216 · (t ⊟ (s ⊞ z))) (3 · (b ⊞ d) ⊞ ι (3 * U)) → Within (4194304 · (t ⊟ (x ⊞ y ⊞ z))) (2 · (b ⊞ d) ⊞ ι U)
      go x y z s t b d b₀ d₀ h i = unfold ι ⊖ ◌⊞◌ ◌⊟◌ ◌·◌ in omega arith

both_errs : (t X E B : Z) → ι 0 ⊑ B → Within (4194304 · (X ⊟ E)) (B ⊞ ι (6291456 * U)) → Within (4194304 · (t ⊟ X)) (2 · B ⊞ ι U)
    → Within (1048576 · (t ⊟ E)) (B ⊞ ι (2097152 * U))
unfolding ι ⊖ ◌⊞◌ ◌⊟◌ ◌·◌
both_errs t X E B b₀ h i = omega arith

three : (mx my mz : Float) (e f g b c d : Z) → Product mx e b → Product my f c → Product mz g d
    → Dotted (add binary32 (add binary32 mx my) mz) (e ⊞ f ⊞ g) (b ⊞ c ⊞ d)
three mx my mz e f g b c d x y z =
    let X = ι U ⊠ val mx in
    let Y = ι U ⊠ val my in
    let Z = ι U ⊠ val mz in
    let xy = add binary32 mx my in
    let r = add binary32 xy mz in
    let s = add_step mx my 27 x.good y.good (lit< tt) (size₂ (val mx) (val my) x.size y.size) in
    let t = add_step xy mz 28 s.good z.good (lit< tt) (size₃ (val xy) (val mz) s.size z.size) in
    let two = two_size X Y Z e f g b c d x.near y.near z.near x.large y.large z.large in
    let s₁ = sum_err (val xy) (val mx) (val my) (2 · (b ⊞ c) ⊞ ι U) s.near two in
    let all = three_size X Y Z e f g b c d x.near y.near z.near x.large y.large z.large (ι U ⊠ val xy) s₁ in
    let t₁ = sum_err (val r) (val xy) (val mz) (3 · (b ⊞ c ⊞ d) ⊞ ι (3 * U)) t.near all in
    let l₂ = within_add x.large y.large in
    let l₃ = within_add l₂ z.large in
    record {
      good = t.good;
      size = t.size;
      near = both_errs (ι U ⊠ val r) (X ⊞ Y ⊞ Z) (e ⊞ f ⊞ g) (b ⊞ c ⊞ d) (within_nonneg l₃)
          (products_err X Y Z e f g b c d x.near y.near z.near x.large y.large z.large)
          (sums_err X Y Z e f g b c d x.near y.near z.near x.large y.large z.large (ι U ⊠ val xy) (ι U ⊠ val r)
          (within_nonneg l₂) (within_nonneg z.large) s₁ t₁);
      large = l₃;
    }
  where
    size₂ : (a b : Z) → Within a (ι (2 ^ 26 * U)) → Within b (ι (2 ^ 26 * U)) → Within (a ⊞ b) (ι (2 ^ 27 * U))
    size₂ a b l m = unfold ι ⊖ ◌⊞◌ in omega arith

    size₃ : (a b : Z) → Within a (ι (2 ^ 27 * U)) → Within b (ι (2 ^ 26 * U)) → Within (a ⊞ b) (ι (2 ^ 28 * U))
    size₃ a b l m = unfold ι ⊖ ◌⊞◌ in omega arith

-- the bounds of the three coordinates have one factor
pub dot_err : (p a b : Point) → Coords p → Coords a → Coords b
    → Dotted (dot_of (sub_of p a) (sub_of b a)) (inner (from a p) (from a b)) (ι (8192 * U) ⊠ sum_abs (from a b))
dot_err p a b P A B =
    let w = from a p in
    let d = from a b in
    let c = ι (8192 * U) in
    let n = three (mul binary32 (sub_of p a).x (sub_of b a).x) (mul binary32 (sub_of p a).y (sub_of b a).y)
    (mul binary32 (sub_of p a).z (sub_of b a).z)
    (w.x ⊠ d.x) (w.y ⊠ d.y) (w.z ⊠ d.z) (c ⊠ abs d.x) (c ⊠ abs d.y) (c ⊠ abs d.z)
    (coordinate_product p.x a.x b.x P.x A.x B.x) (coordinate_product p.y a.y b.y P.y A.y B.y)
    (coordinate_product p.z a.z b.z P.z A.z B.z) in
    let one : c ⊠ abs d.x ⊞ c ⊠ abs d.y ⊞ c ⊠ abs d.z ≈ c ⊠ sum_abs d =
    ring 4 (λ u a b c. u :* a :+ u :* b :+ u :* c := u :* (a :+ b :+ c)) tt c (abs d.x) (abs d.y) (abs d.z) in
    record {
      good = n.good;
      size = n.size;
      near = within_up n.near (≈→⊑ (more (c ⊠ abs d.x ⊞ c ⊠ abs d.y ⊞ c ⊠ abs d.z) (c ⊠ sum_abs d) one));
      large = within_up n.large (≈→⊑ one);
    }
  where
    more : (a b : Z) → a ≈ b → a ⊞ ι (2097152 * U) ≈ b ⊞ ι (2097152 * U)
    more a b h = unfold ◌⊞◌ in omega arith
