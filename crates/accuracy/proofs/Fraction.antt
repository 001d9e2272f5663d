-- The fraction t of the projection of p onto the segment a b, in f32, is nearly the best. In metres:
-- |p - (a + t (b - a))|² ≤ |p - s|² + 243 / 2^18 for every place s of the segment, at any fraction S / K of it; so the distance is at
-- most 0.0305 m longer (`NearlyBest`).
use Prim.Native.Nat.{ℕ, ◌*◌, ◌^◌}
use mathlib.Core.Logic.{◌⊎◌, inl, inr}
use native.Mathlib.Omega.{arith}
use lib.Dec.{T, lit<}
use lib.Ieee.{Float, binary32, div}
use Rattle.exact.specs.Integers.{Z, ◌≈◌, ◌⊑◌, ◌⊞◌, ◌⊟◌, ◌⊠◌, ◌·◌, ⊖, ι, ≈_refl, ≈_sym, ≈_trans, ⊠_cong, zero_times}
use Rattle.exact.specs.Ring.{◌:+◌, ◌:-◌, ◌:*◌, ◌:·◌, ◌:=◌, neg, ring}
use Rattle.exact.specs.Inequalities.{Within, abs, within_abs, abs_least, abs_sq, within_scale, within_≈, ⊑_or_lt, within_nonneg}
use Rattle.exact.specs.Inequalities.{within_of_nonneg, ι_nonneg, dot_nonneg, sq_nonneg, mul_nonneg, mul_mono, root_mono, ⊑_trans, ≈_⊑, ⊑_≈}
use Rattle.exact.specs.Inequalities.{≈→⊑, scale_mono, sq}
use Rattle.exact.specs.Values.{U, val, F32, U_large, U_huge, size_of}
use Rattle.exact.proofs.Arithmetic.{size_is}
use Rattle.exact.proofs.Steps.{div_step}
use Rattle.coords.specs.declared.Point.{Point}
use Rattle.coords.specs.Coords.{sub_of, dot_of, length_squared}
use Rattle.accuracy.proofs.Vectors.{Vec, from, inner, norm_sq, sum_abs, far, residual}
use Rattle.accuracy.proofs.Coordinates.{Coords, wides, diff_size}
use Rattle.accuracy.proofs.Distance.{dist_err}
use Rattle.accuracy.proofs.DotProduct.{dot_err}
use Rattle.accuracy.proofs.Projection.{better_than, nearly_better_than}
use Rattle.accuracy.proofs.Residual.{residual_bound, residual_sq}

pub record NearlyBest (t : Float) (w d : Vec) : Type 0 where
  pub good : F32 t
  pub low : ι 0 ⊑ val t
  pub high : val t ⊑ ι U
  pub best : (K S : Z) → ι 0 ⊑ K → ι 0 ⊑ S → S ⊑ K
      → ι 262144 ⊠ (sq K ⊠ far (ι U) (val t) w d) ⊑ ι 262144 ⊠ (sq (ι U) ⊠ far K S w d) ⊞ (243 · ι (U * U * U * U)) ⊠ sq K

-- ---- what is known of the numerator and of the squared length
abbrev pub bound : Vec → Z
bound d = ι (8192 * U) ⊠ sum_abs d

pub record Quotient (num len : Float) (w d : Vec) : Type 0 where
  pub num_good : F32 num
  pub len_good : F32 len
  pub num_near : Within (1048576 · (ι U ⊠ val num ⊟ inner w d)) (bound d ⊞ ι (2097152 * U))
  pub num_large : Within (inner w d) (bound d)
  pub num_size : Within (val num) (ι (2 ^ 28 * U))
  pub len_near : Within (1048576 · (ι U ⊠ val len ⊟ norm_sq d)) (norm_sq d ⊞ ι (2097152 * U))
  pub len_pos : ι 0 ⊑ val len
  pub size_x : Within d.x (ι (2 ^ 13 * U))
  pub size_y : Within d.y (ι (2 ^ 13 * U))
  pub size_z : Within d.z (ι (2 ^ 13 * U))

pub quotient : (p a b : Point) → Coords p → Coords a → Coords b
    → Quotient (dot_of (sub_of p a) (sub_of b a)) (length_squared (sub_of b a)) (from a p) (from a b)
quotient p a b P A B =
    let n = dot_err p a b P A B in
    let l = dist_err b a (wides b B) (wides a A) in
    record {
      num_good = n.good;
      len_good = l.good;
      num_near = n.near;
      num_large = n.large;
      num_size = n.size;
      len_near = l.near;
      len_pos = l.pos;
      size_x = diff_size (val b.x) (val a.x) B.x.size A.x.size;
      size_y = diff_size (val b.y) (val a.y) B.y.size A.y.size;
      size_z = diff_size (val b.z) (val a.z) B.z.size A.z.size;
    }

-- ---- a length of at least 2^-40 m² leaves room for what underflows
-- L ≤ (|x| + |y| + |z|)²
norm_le : (v : Vec) → norm_sq v ⊑ sq (sum_abs v)
norm_le v =
    let a = abs v.x in
    let b = abs v.y in
    let c = abs v.z in
    go (sq (a ⊞ b ⊞ c)) (a ⊠ a) (b ⊠ b) (c ⊠ c) (a ⊠ b) (a ⊠ c) (b ⊠ c) (v.x ⊠ v.x) (v.y ⊠ v.y) (v.z ⊠ v.z)
    (ring 3 (λ a b c. (a :+ b :+ c) :* (a :+ b :+ c) := a :* a :+ b :* b :+ c :* c :+ 2 :· (a :* b :+ a :* c :+ b :* c)) tt a b c)
    (mul_nonneg (pos v.x) (pos v.y)) (mul_nonneg (pos v.x) (pos v.z)) (mul_nonneg (pos v.y) (pos v.z))
    (abs_sq v.x) (abs_sq v.y) (abs_sq v.z)
  where
    pos : (x : Z) → ι 0 ⊑ abs x
    pos x = within_nonneg (within_abs x)

    go : (s aa bb cc p q r xx yy zz : Z) → s ≈ aa ⊞ bb ⊞ cc ⊞ 2 · (p ⊞ q ⊞ r) → ι 0 ⊑ p → ι 0 ⊑ q → ι 0 ⊑ r → aa ≈ xx → bb ≈ yy → cc ≈ zz
        → xx ⊞ yy ⊞ zz ⊑ s
    go s aa bb cc p q r xx yy zz e h i j k l m = unfold ι ◌⊞◌ ◌·◌ in omega arith

-- L ≤ 8192 U (|x| + |y| + |z|), for coordinates up to 8192
norm_bound : (v : Vec) → Within v.x (ι (2 ^ 13 * U)) → Within v.y (ι (2 ^ 13 * U)) → Within v.z (ι (2 ^ 13 * U))
    → norm_sq v ⊑ bound v
norm_bound v hx hy hz =
    ⊑_≈ (sum (one v.x hx) (one v.y hy) (one v.z hz))
    (ring 4 (λ u a b c. u :* a :+ u :* b :+ u :* c := u :* (a :+ b :+ c)) tt (ι (8192 * U)) (abs v.x) (abs v.y) (abs v.z))
  where
    one : (d : Z) → Within d (ι (2 ^ 13 * U)) → d ⊠ d ⊑ ι (8192 * U) ⊠ abs d
    one d h = ≈_⊑ (≈_sym (abs_sq d)) (mul_mono (abs d) (within_nonneg (within_abs d)) (abs_least h))

    sum : {a b c x y z : Z} → a ⊑ x → b ⊑ y → c ⊑ z → a ⊞ b ⊞ c ⊑ x ⊞ y ⊞ z
    sum h i j = unfold ◌⊞◌ in omega arith

len_large : (l : Z) → ι U ⊑ 1099511627776 · l → ι 1152921504606846976 ⊑ l
unfolding ι ◌·◌
len_large l h = omega (arith, U_huge)

from_len : (ul L : Z) → ι 0 ⊑ L → Within (1048576 · (ul ⊟ L)) (L ⊞ ι (2097152 * U)) → ι (1152921504606846976 * U) ⊑ ul
    → ι (268435456 * U) ⊑ L
unfolding ι ◌⊞◌ ◌⊟◌ ◌·◌ ⊖
from_len ul L L₀ h k = omega arith

underflow_fits : (l ul L B : Z) → ι 0 ⊑ l → 1152921504606846976 · l ⊑ ul → Within (1048576 · (ul ⊟ L)) (L ⊞ ι (2097152 * U)) → L ⊑ B
    → ι (134217728 * U) ⊑ B → ι (67108864 * U) ⊞ 8388608 · l ⊑ B
unfolding ι ◌⊞◌ ◌⊟◌ ◌·◌ ⊖
underflow_fits l ul L B l₀ h k m n = omega arith

record Room (l : Z) (d : Vec) : Type 0 where
  pub norm : norm_sq d ⊑ bound d
  pub slack : ι (67108864 * U) ⊞ 8388608 · l ⊑ bound d
  pub some : ι 1 ⊑ norm_sq d

room : (num len : Float) (w d : Vec) → Quotient num len w d → ι U ⊑ 1099511627776 · val len → Room (val len) d
room num len w d q g =
    let l = val len in
    let L = norm_sq d in
    let b = sum_abs d in
    let l₁ = len_large l g in
    let l₀ : ι 0 ⊑ l = q.len_pos in
    let big : ι (268435456 * U) ⊑ L = from_len (ι U ⊠ l) L (dot_nonneg d.x d.y d.z) q.len_near (times_U l l₁) in
    let b₁ : ι 16384 ⊑ b = root_mono
    (pos (abs d.x) (abs d.y) (abs d.z) (within_nonneg (within_abs d.x)) (within_nonneg (within_abs d.y))
    (within_nonneg (within_abs d.z))) (⊑_trans (at_least L big) (norm_le d)) in
    let lb : L ⊑ bound d = norm_bound d q.size_x q.size_y q.size_z in
    record {
      norm = lb;
      slack = underflow_fits l (ι U ⊠ l) L (bound d) l₀ (U_times l l₀) q.len_near lb
          (bound_large b b₁);
      some = one L big;
    }
  where
    literal : (n : ℕ) → ι n ⊠ ι U ≈ ι (n * U)
    literal n = unfold ι ◌⊠◌ in omega arith

    times_U : (l : Z) → ι 1152921504606846976 ⊑ l → ι (1152921504606846976 * U) ⊑ ι U ⊠ l
    times_U l h =
        ≈_⊑ (≈_sym (literal 1152921504606846976)) (⊑_≈ (mul_mono (ι U) (ι_nonneg U) h) (ring 2 (λ l u. l :* u := u :* l) tt l (ι U)))

    at_least : (L : Z) → ι (268435456 * U) ⊑ L → ι 16384 ⊠ ι 16384 ⊑ L
    at_least L h = unfold ι ◌⊠◌ in omega (arith, U_large)

    pos : (a b c : Z) → ι 0 ⊑ a → ι 0 ⊑ b → ι 0 ⊑ c → ι 0 ⊑ a ⊞ b ⊞ c
    pos a b c h i j = unfold ι ◌⊞◌ in omega arith

    one : (L : Z) → ι (268435456 * U) ⊑ L → ι 1 ⊑ L
    one L h = unfold ι in omega (arith, U_large)

    -- 2^60 l ≤ U l
    U_times : (l : Z) → ι 0 ⊑ l → 1152921504606846976 · l ⊑ ι U ⊠ l
    U_times l h = ≈_⊑ (is l) (mul_mono l h large)
      where
        is : (l : Z) → 1152921504606846976 · l ≈ ι 1152921504606846976 ⊠ l
        is l = unfold ι ◌·◌ ◌⊠◌ in omega arith

        large : ι 1152921504606846976 ⊑ ι U
        large = unfold ι in omega (arith, U_large)

    bound_large : (b : Z) → ι 16384 ⊑ b → ι (134217728 * U) ⊑ ι (8192 * U) ⊠ b
    bound_large b h =
        ≈_⊑ is (⊑_≈ (mul_mono (ι (8192 * U)) (ι_nonneg (8192 * U)) h) (ring 2 (λ b u. b :* u := u :* b) tt b (ι (8192 * U))))
      where
        is : ι (134217728 * U) ≈ ι 16384 ⊠ ι (8192 * U)
        is = unfold ι ◌⊠◌ in omega arith

-- ---- from the residual to the distance
module _ (w d : Vec) where
  abbrev AsGood : Z → Z → Z → Type 0
  AsGood K S T = ι 262144 ⊠ (sq K ⊠ far (ι U) T w d) ⊑ ι 262144 ⊠ (sq (ι U) ⊠ far K S w d) ⊞ (243 · ι (U * U * U * U)) ⊠ sq K

  small_residual : (T : Z) → ι 1 ⊑ norm_sq d → Within (16777216 · residual (ι U) T w d) (ι U ⊠ (36 · bound d)) → (K S : Z) → AsGood K S T
  small_residual T L₁ r K S =
      nearly_better_than w d (ι 262144) (ι U) K T S (243 · ι (U * U * U * U)) (ι_nonneg 262144) L₁ (residual_sq (residual (ι U) T w d) d r)

  -- at an end: the residual is U x, and either x has the sign that makes the end the best, or it is small
  at_an_end : (T K S x : Z) → ι 0 ⊑ K → ι 1 ⊑ norm_sq d → residual (ι U) T w d ≈ ι U ⊠ x
      → (ι 0 ⊑ (S ⊠ ι U ⊟ T ⊠ K) ⊠ x) ⊎ Within (16777216 · x) (36 · bound d) → AsGood K S T
  at_an_end T K S x k₀ L₁ e (inl h) =
      let D = S ⊠ ι U ⊟ T ⊠ K in
      let A = sq K ⊠ far (ι U) T w d in
      let M = sq (ι U) ⊠ far K S w d in
      let r : ι U ⊠ (D ⊠ x) ≈ D ⊠ residual (ι U) T w d =
      ≈_trans (ring 3 (λ u s x. u :* (s :* x) := s :* (u :* x)) tt (ι U) D x) (⊠_cong (≈_refl D) (≈_sym e)) in
      let f : A ⊑ M = better_than w d (ι U) K T S k₀ (⊑_≈ (mul_nonneg (ι_nonneg U) h) r) in
      loosen (ι 262144 ⊠ A) (ι 262144 ⊠ M) ((243 · ι (U * U * U * U)) ⊠ sq K) (scale_mono 262144 A M f)
      (mul_nonneg (pos (U * U * U * U)) (sq_nonneg K))
    where
      pos : (n : ℕ) → ι 0 ⊑ 243 · ι n
      pos n = unfold ι ◌·◌ in omega arith

      loosen : (a b u : Z) → a ⊑ b → ι 0 ⊑ u → a ⊑ b ⊞ u
      loosen a b u h k = unfold ι ◌⊞◌ in omega arith
  at_an_end T K S x k₀ L₁ e (inr h) =
      small_residual T L₁
      (within_≈ (≈_trans (ring 2 (λ u x. u :* (16777216 :· x) := 16777216 :· (u :* x)) tt (ι U) x) (scale e)) (within_scale U h)) K S
    where
      scale : {a b : Z} → a ≈ b → 16777216 · b ≈ 16777216 · a
      scale h = unfold ◌·◌ in omega arith

module _ (num len : Float) (w d : Vec) (q : Quotient num len w d) (g : ι U ⊑ 1099511627776 · val len) where
  has_room : Room (val len) d
  has_room = room num len w d q g

  pub len_pos_law : ι 1 ⊑ val len
  len_pos_law = one (val len) (len_large (val len) g)
    where
      one : (l : Z) → ι 1152921504606846976 ⊑ l → ι 1 ⊑ l
      one l h = unfold ι in omega arith

  -- ---- t = num / len, for 0 ≤ num ≤ len
  pub inside : ι 0 ⊑ val num → val num ⊑ val len → NearlyBest (div binary32 num len) w d
  inside n₀ n₁ =
      let size = size_is len q.len_good len_pos_law in
      let e = div_step num len 0 q.num_good q.len_good len_pos_law (lit< tt)
      (to_ι (ι U ⊠ val num) (size_of len) (ratio (val num) (val len) (ι (size_of len)) n₀ n₁ size)) in
      let t = val (div binary32 num len) in
      let τ : Within t (ι U) = unit t e.size in
      let b = residual_bound (val num) (val len) t (inner w d) (norm_sq d) (bound d) q.num_near q.num_large q.len_near
      (by_len t (ι U ⊠ val num) (size_of len) (val len) size e.near) τ has_room.norm q.len_pos has_room.slack in
      record {
        good = e.good;
        low = e.keeps (mul_nonneg (ι_nonneg U) n₀);
        high = τ.hi;
        best = λ K S k₀ h₀ h₁. small_residual w d t
            has_room.some b K S;
      }
    where
      ratio : (v l s : Z) → ι 0 ⊑ v → v ⊑ l → s ≈ l → Within (ι U ⊠ v) (s ⊠ ι U)
      ratio v l s h k e =
          within_of_nonneg (ι U ⊠ v) (s ⊠ ι U) (mul_nonneg (ι_nonneg U) h)
          (≈_⊑ (ring 2 (λ u v. u :* v := v :* u) tt (ι U) v) (⊑_≈ (mul_mono (ι U) (ι_nonneg U) k) (⊠_cong (≈_sym e) (≈_refl (ι U)))))

      to_ι : (a : Z) (n : ℕ) → Within a (ι n ⊠ ι U) → Within a (ι (n * (2 ^ 0 * U)))
      to_ι a n h = unfold ι ⊖ ◌⊠◌ in omega arith

      unit : (t : Z) → Within t (ι (2 ^ 0 * U)) → Within t (ι U)
      unit t h = unfold ι ⊖ in omega arith

      by_len : (a b : Z) (n : ℕ) (l : Z) → ι n ≈ l → Within (16777216 · (ι n ⊠ a ⊟ b)) (abs b ⊞ ι (8388608 * n))
          → Within (16777216 · (l ⊠ a ⊟ b)) (abs b ⊞ 8388608 · l)
      by_len a b n l e h = go (ι n ⊠ a) (l ⊠ a) b (abs b) n l (⊠_cong e (≈_refl a)) e h
        where
          go : (x y b c : Z) (n : ℕ) (l : Z) → x ≈ y → ι n ≈ l → Within (16777216 · (x ⊟ b)) (c ⊞ ι (8388608 * n))
              → Within (16777216 · (y ⊟ b)) (c ⊞ 8388608 · l)
          go x y b c n l e f h = unfold ι ⊖ ◌⊞◌ ◌⊟◌ ◌·◌ in omega arith

  -- ---- t = 0, for num ≤ 0: the residual is U times -c, c = w · d
  pub at_start : (t : Float) → F32 t → val t ≈ ι 0 → val num ⊑ ι 0 → NearlyBest t w d
  at_start t p e n₀ = record {
    good = p;
    low = ≈→⊑ (≈_sym e);
    high = ⊑_trans (≈→⊑ e) (ι_nonneg U);
    best = λ K S k₀ h₀ h₁. at_an_end w d (val t) K S (⊖ (inner w d)) k₀ has_room.some (res (inner w d) (norm_sq d))
        (cases K S (inner w d) h₀ (bound d)
        (small (ι U ⊠ val num) (inner w d) (bound d) (val len) q.len_pos q.num_near (scaled (val num) n₀) has_room.slack));
  }
    where
      res : (c L : Z) → val t ⊠ L ⊟ ι U ⊠ c ≈ ι U ⊠ ⊖ c
      res c L =
          go (val t ⊠ L) (ι 0 ⊠ L) (ι U ⊠ c) (ι U ⊠ ⊖ c) (⊠_cong e (≈_refl L)) (zero_times L)
          (ring 2 (λ u c. u :* neg c := neg (u :* c)) tt (ι U) c)
        where
          go : (a b x y : Z) → a ≈ b → b ≈ ι 0 → y ≈ ⊖ x → a ⊟ x ≈ y
          go a b x y e f g = unfold ι ⊖ ◌⊟◌ in omega arith

      scaled : (v : Z) → v ⊑ ι 0 → ι U ⊠ v ⊑ ι 0
      scaled v h = ≈_⊑ (ring 2 (λ u v. u :* v := v :* u) tt (ι U) v) (⊑_≈ (mul_mono (ι U) (ι_nonneg U) h) (zero_times (ι U)))

      small : (uv c B l : Z) → ι 0 ⊑ l → Within (1048576 · (uv ⊟ c)) (B ⊞ ι (2097152 * U)) → uv ⊑ ι 0 → ι (67108864 * U) ⊞ 8388608 · l ⊑ B
          → 16777216 · c ⊑ 36 · B
      small uv c B l l₀ h k m = unfold ι ⊖ ◌⊞◌ ◌⊟◌ ◌·◌ in omega arith

      cases : (K S c : Z) → ι 0 ⊑ S → (B : Z) → 16777216 · c ⊑ 36 · B
          → (ι 0 ⊑ (S ⊠ ι U ⊟ val t ⊠ K) ⊠ ⊖ c) ⊎ Within (16777216 · ⊖ c) (36 · B)
      cases K S c h B k = elim (⊑_or_lt c (ι 0)) [
        | inl i ↦ inl (mul_nonneg (up (S ⊠ ι U) (val t ⊠ K) (mul_nonneg h (ι_nonneg U)) (≈_trans (⊠_cong e (≈_refl K)) (zero_times K)))
            (flip c i))
        | inr i ↦ inr (both c B i k)
      ]
        where
          up : (S t : Z) → ι 0 ⊑ S → t ≈ ι 0 → ι 0 ⊑ S ⊟ t
          up S t h e = unfold ι ◌⊟◌ in omega arith

          flip : (c : Z) → c ⊑ ι 0 → ι 0 ⊑ ⊖ c
          flip c h = unfold ι ⊖ in omega arith

          both : (c B : Z) → ι 0 ⊞ ι 1 ⊑ c → 16777216 · c ⊑ 36 · B → Within (16777216 · ⊖ c) (36 · B)
          both c B h k = unfold ι ⊖ ◌⊞◌ ◌⊟◌ ◌·◌ in omega arith

  -- ---- t = 1, for len ≤ num: the residual is U times L - c, L = |d|²
  pub at_end_law : (t : Float) → F32 t → val t ≈ ι U → val len ⊑ val num → NearlyBest t w d
  at_end_law t p e n₀ = record {
    good = p;
    low = ⊑_≈ (ι_nonneg U) (≈_sym e);
    high = ≈→⊑ e;
    best = λ K S k₀ h₀ h₁. at_an_end w d (val t) K S (norm_sq d ⊟ inner w d) k₀ has_room.some (res (inner w d) (norm_sq d))
        (cases K S (norm_sq d ⊟ inner w d) h₁ (bound d)
        (small (ι U ⊠ val num) (ι U ⊠ val len) (inner w d) (norm_sq d) (bound d) (val len) q.len_pos has_room.norm q.num_near
        q.len_near (scale_mono U (val len) (val num) n₀) has_room.slack));
  }
    where
      res : (c L : Z) → val t ⊠ L ⊟ ι U ⊠ c ≈ ι U ⊠ (L ⊟ c)
      res c L =
          ≈_trans (sub_cong (val t ⊠ L) (ι U ⊠ L) (ι U ⊠ c) (⊠_cong e (≈_refl L)))
          (ring 3 (λ u L c. u :* L :- u :* c := u :* (L :- c)) tt (ι U) L c)
        where
          sub_cong : (a b x : Z) → a ≈ b → a ⊟ x ≈ b ⊟ x
          sub_cong a b x h = unfold ◌⊟◌ in omega arith

      small : (uv ul c L B l : Z) → ι 0 ⊑ l → L ⊑ B → Within (1048576 · (uv ⊟ c)) (B ⊞ ι (2097152 * U))
          → Within (1048576 · (ul ⊟ L)) (L ⊞ ι (2097152 * U)) → ul ⊑ uv → ι (67108864 * U) ⊞ 8388608 · l ⊑ B → 16777216 · (L ⊟ c) ⊑ 36 · B
      small uv ul c L B l l₀ lb h j k m = unfold ι ⊖ ◌⊞◌ ◌⊟◌ ◌·◌ in omega arith

      cases : (K S x : Z) → S ⊑ K → (B : Z) → 16777216 · x ⊑ 36 · B → (ι 0 ⊑ (S ⊠ ι U ⊟ val t ⊠ K) ⊠ x) ⊎ Within (16777216 · x) (36 · B)
      cases K S x h B k = elim (⊑_or_lt x (ι 0)) [
        | inl i ↦ inl (⊑_≈ (mul_nonneg (down (S ⊠ ι U) (K ⊠ ι U) (val t ⊠ K) (mul_mono (ι U) (ι_nonneg U) h) is) (flip x i))
            (ring 3 (λ s t x. (t :- s) :* neg x := (s :- t) :* x) tt (S ⊠ ι U) (val t ⊠ K) x))
        | inr i ↦ inr (both x B i k)
      ]
        where
          is : val t ⊠ K ≈ K ⊠ ι U
          is = ≈_trans (⊠_cong e (≈_refl K)) (ring 2 (λ u K. u :* K := K :* u) tt (ι U) K)

          down : (S k t : Z) → S ⊑ k → t ≈ k → ι 0 ⊑ t ⊟ S
          down S k t h e = unfold ι ◌⊟◌ in omega arith

          flip : (c : Z) → c ⊑ ι 0 → ι 0 ⊑ ⊖ c
          flip c h = unfold ι ⊖ in omega arith

          both : (c B : Z) → ι 0 ⊞ ι 1 ⊑ c → 16777216 · c ⊑ 36 · B → Within (16777216 · c) (36 · B)
          both c B h k = unfold ι ⊖ ◌⊞◌ ◌⊟◌ ◌·◌ in omega arith
