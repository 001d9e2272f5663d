-- The residual of t = num / len in f32, for num the rounded w · d, len the rounded |d|² and |t| ≤ 1. With B = 8192 U (|dx| + |dy| + |dz|):
-- 2^24 |t |d|² - U w · d| ≤ 36 U B (`residual_bound`), so that 2^18 R² ≤ 243 U⁴ |d|² (`residual_sq`).
use Prim.Native.Nat.{◌*◌}
use native.Mathlib.Omega.{arith}
use Rattle.exact.specs.Integers.{Z, ◌≈◌, ◌⊑◌, ◌⊞◌, ◌⊟◌, ◌⊠◌, ◌·◌, ⊖, ι, ≈_refl, ≈_trans, ⊠_cong}
use Rattle.exact.specs.Ring.{◌:+◌, ◌:-◌, ◌:*◌, ◌:·◌, ◌:=◌, ring}
use Rattle.exact.specs.Inequalities.{Within, abs, abs_least, abs_sq, within_mul, within_scale, within_up, ι_nonneg, sq_nonneg, mul_mono}
use Rattle.exact.specs.Inequalities.{sq_mono, ≈_⊑, ⊑_≈, sq}
use Rattle.exact.specs.Values.{U}
use Rattle.accuracy.proofs.Vectors.{Vec, norm_sq, sum_abs}

-- v = val num, l = val len, t = val (num / len), c = w · d, L = |d|²
pub residual_bound : (v l t c L B : Z) → Within (1048576 · (ι U ⊠ v ⊟ c)) (B ⊞ ι (2097152 * U)) → Within c B
    → Within (1048576 · (ι U ⊠ l ⊟ L)) (L ⊞ ι (2097152 * U)) → Within (16777216 · (l ⊠ t ⊟ ι U ⊠ v)) (abs (ι U ⊠ v) ⊞ 8388608 · l)
    → Within t (ι U) → L ⊑ B → ι 0 ⊑ l → ι (67108864 * U) ⊞ 8388608 · l ⊑ B → Within (16777216 · (t ⊠ L ⊟ ι U ⊠ c)) (ι U ⊠ (36 · B))
residual_bound v l t c L B h c₀ k q τ lb l₀ slack =
    let u = ι U in
    sum (t ⊠ L ⊟ u ⊠ c) (u ⊠ (1048576 · (u ⊠ v ⊟ c))) (u ⊠ (16777216 · (l ⊠ t ⊟ u ⊠ v))) (t ⊠ (1048576 · (u ⊠ l ⊟ L)))
    (u ⊠ (B ⊞ ι (2097152 * U))) (u ⊠ (2 · B ⊞ ι (4 * U) ⊞ 8388608 · l)) (u ⊠ (L ⊞ ι (2097152 * U))) (u ⊠ (36 · B)) parts
    (within_scale U h)
    (within_scale U (within_up q (plus (abs (u ⊠ v)) l B (abs_least (large (u ⊠ v) c B h c₀)))))
    (within_mul τ k) room
  where
    -- t L - U c in three parts, each known up to U times its bound
    parts : 16777216 · (t ⊠ L ⊟ ι U ⊠ c)
        ≈ 16 · (ι U ⊠ (1048576 · (ι U ⊠ v ⊟ c))) ⊞ ι U ⊠ (16777216 · (l ⊠ t ⊟ ι U ⊠ v)) ⊟ 16 · (t ⊠ (1048576 · (ι U ⊠ l ⊟ L)))
    parts =
        ring 6 (λ u v l t c L. 16777216 :· (t :* L :- u :* c)
        := 16 :· (u :* (1048576 :· (u :* v :- c))) :+ u :* (16777216 :· (l :* t :- u :* v)) :- 16 :· (t :* (1048576 :· (u :* l :- L)))) tt
        (ι U) v l t c L

    large : (x c B : Z) → Within (1048576 · (x ⊟ c)) (B ⊞ ι (2097152 * U)) → Within c B → Within x (2 · B ⊞ ι (4 * U))
    large x c B h k = unfold ι ⊖ ◌⊞◌ ◌⊟◌ ◌·◌ in omega arith

    plus : (a l B : Z) → a ⊑ 2 · B ⊞ ι (4 * U) → a ⊞ 8388608 · l ⊑ 2 · B ⊞ ι (4 * U) ⊞ 8388608 · l
    plus a l B h = unfold ι ◌⊞◌ ◌·◌ in omega arith

    inside : (l L B : Z) → L ⊑ B → ι 0 ⊑ l → ι (67108864 * U) ⊞ 8388608 · l ⊑ B
        → 16 · (B ⊞ ι (2097152 * U)) ⊞ (2 · B ⊞ ι (4 * U) ⊞ 8388608 · l) ⊞ 16 · (L ⊞ ι (2097152 * U)) ⊑ 36 · B
    inside l L B h l₀ k = unfold ι ◌⊞◌ ◌·◌ in omega arith

    room : 16 · (ι U ⊠ (B ⊞ ι (2097152 * U))) ⊞ ι U ⊠ (2 · B ⊞ ι (4 * U) ⊞ 8388608 · l) ⊞ 16 · (ι U ⊠ (L ⊞ ι (2097152 * U))) ⊑ ι U ⊠ (36 · B)
    room =
        ≈_⊑ (ring 4 (λ u x y z. 16 :· (u :* x) :+ u :* y :+ 16 :· (u :* z) := (16 :· x :+ y :+ 16 :· z) :* u) tt
        (ι U) (B ⊞ ι (2097152 * U)) (2 · B ⊞ ι (4 * U) ⊞ 8388608 · l) (L ⊞ ι (2097152 * U)))
        (⊑_≈ (mul_mono (ι U) (ι_nonneg U) (inside l L B lb l₀ slack)) (ring 2 (λ b u. b :* u := u :* b) tt (36 · B) (ι U)))

    sum : (r x y z a b d e : Z) → 16777216 · r ≈ 16 · x ⊞ y ⊟ 16 · z → Within x a → Within y b → Within z d → 16 · a ⊞ b ⊞ 16 · d ⊑ e
        → Within (16777216 · r) e
    sum r x y z a b d e h i j k l = unfold ι ⊖ ◌⊞◌ ◌⊟◌ ◌·◌ in omega arith

-- (|x| + |y| + |z|)² ≤ 3 (x² + y² + z²)
sum_abs_sq : (v : Vec) → sq (sum_abs v) ⊑ 3 · norm_sq v
sum_abs_sq v =
    let a = abs v.x in
    let b = abs v.y in
    let c = abs v.z in
    go (sq (a ⊞ b ⊞ c)) (a ⊠ a) (b ⊠ b) (c ⊠ c) (sq (a ⊟ b)) (sq (a ⊟ c)) (sq (b ⊟ c)) (v.x ⊠ v.x) (v.y ⊠ v.y) (v.z ⊠ v.z)
    (ring 3 (λ a b c. (a :+ b :+ c) :* (a :+ b :+ c) :+ ((a :- b) :* (a :- b) :+ (a :- c) :* (a :- c) :+ (b :- c) :* (b :- c))
    := 3 :· (a :* a :+ b :* b :+ c :* c)) tt a b c)
    (sq_nonneg (a ⊟ b)) (sq_nonneg (a ⊟ c)) (sq_nonneg (b ⊟ c)) (abs_sq v.x) (abs_sq v.y) (abs_sq v.z)
  where
    go : (s aa bb cc p q r xx yy zz : Z) → s ⊞ (p ⊞ q ⊞ r) ≈ 3 · (aa ⊞ bb ⊞ cc) → ι 0 ⊑ p → ι 0 ⊑ q → ι 0 ⊑ r → aa ≈ xx → bb ≈ yy → cc ≈ zz
        → s ⊑ 3 · (xx ⊞ yy ⊞ zz)
    go s aa bb cc p q r xx yy zz e h i j k l m = unfold ι ◌⊞◌ ◌·◌ in omega arith

-- b = |dx| + |dy| + |dz|, so B = 8192 U b: 2^48 R² ≤ 36² U² B² = 1296 * 2^26 U⁴ b² ≤ 3888 * 2^26 U⁴ |d|²
pub residual_sq : (R : Z) (d : Vec) → Within (16777216 · R) (ι U ⊠ (36 · (ι (8192 * U) ⊠ sum_abs d)))
    → ι 262144 ⊠ sq R ⊑ (243 · ι (U * U * U * U)) ⊠ norm_sq d
residual_sq R d h =
    let b = sum_abs d in
    let L = norm_sq d in
    let u = ι (U * U * U * U) in
    let s = sq_mono h in
    let m : sq b ⊠ u ⊑ (3 · L) ⊠ u = mul_mono u (ι_nonneg (U * U * U * U)) (sum_abs_sq d) in
    go (sq (16777216 · R)) (sq R) (sq (ι U ⊠ (36 · (ι (8192 * U) ⊠ b)))) (sq b ⊠ u) ((3 · L) ⊠ u) (u ⊠ L) (ι 262144 ⊠ sq R)
    ((243 · u) ⊠ L) s m
    (ring 1 (λ R. (16777216 :· R) :* (16777216 :· R) := 281474976710656 :· (R :* R)) tt R)
    (≈_trans (⊠_cong (pull b) (pull b)) (collect b))
    (ring 2 (λ L u. (3 :· L) :* u := 3 :· (u :* L)) tt L u)
    (literal (sq R))
    (ring 2 (λ u L. (243 :· u) :* L := 243 :· (u :* L)) tt u L)
  where
    pull : (b : Z) → ι U ⊠ (36 · (ι (8192 * U) ⊠ b)) ≈ 294912 · (ι (U * U) ⊠ b)
    pull b = unfold ι ◌⊠◌ ◌·◌ in omega arith

    fourth : ι (U * U) ⊠ ι (U * U) ≈ ι (U * U * U * U)
    fourth = unfold ι ◌⊠◌ in omega arith

    collect : (b : Z) → sq (294912 · (ι (U * U) ⊠ b)) ≈ 86973087744 · (sq b ⊠ ι (U * U * U * U))
    collect b =
        ≈_trans (ring 2 (λ w b. (294912 :· (w :* b)) :* (294912 :· (w :* b)) := 86973087744 :· ((b :* b) :* (w :* w))) tt (ι (U * U)) b)
        (scale (⊠_cong (≈_refl (sq b)) fourth))
      where
        scale : {x y : Z} → x ≈ y → 86973087744 · x ≈ 86973087744 · y
        scale h = unfold ◌·◌ in omega arith

    literal : (r : Z) → ι 262144 ⊠ r ≈ 262144 · r
    literal r = unfold ι ◌⊠◌ ◌·◌ in omega arith

    go : (s r t bu lu ul kr gl : Z) → s ⊑ t → bu ⊑ lu → s ≈ 281474976710656 · r → t ≈ 86973087744 · bu → lu ≈ 3 · ul → kr ≈ 262144 · r
        → gl ≈ 243 · ul → kr ⊑ gl
    go s r t bu lu ul kr gl h k e f g i j = unfold ◌·◌ in omega arith
