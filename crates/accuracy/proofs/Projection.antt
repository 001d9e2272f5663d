-- How far a place of a segment is from p, against every other place of it, exactly; with no root and no division.
-- w = p - a and d = b - a; the place at t / n has n² times the squared distance |n w - t d|² (`far`) and the residual t |d|² - n w · d.
use native.Mathlib.Omega.{arith}
use Rattle.exact.specs.Integers.{Z, ◌≈◌, ◌⊑◌, ◌⊞◌, ◌⊟◌, ◌⊠◌, ◌·◌, ι, ≈_refl, ≈_sym, ≈_trans, ⊠_cong}
use Rattle.exact.specs.Ring.{◌:+◌, ◌:-◌, ◌:*◌, ◌:·◌, ◌:=◌, ring}
use Rattle.exact.specs.Inequalities.{sq_nonneg, mul_nonneg, mul_mono, ≈_⊑, ⊑_≈, cancel_nonneg, dot_e, sq}
use Rattle.accuracy.proofs.Vectors.{Vec, inner, norm_sq, far, far_e, residual, residual_e}

module _ (w d : Vec) where
  -- ---- over one denominator n
  -- where the residual has the sign of S - T, T is the better: T ≤ S and the residual is not negative, or S ≤ T and it is not positive
  better : (n T S : Z) → ι 0 ⊑ (S ⊟ T) ⊠ residual n T w d → far n T w d ⊑ far n S w d
  better n T S h =
      let D = S ⊟ T in
      let A = far n T w d in
      let B = far n S w d in
      let R = residual n T w d in
      let i : B ≈ A ⊞ 2 · (D ⊠ R) ⊞ (sq (D ⊠ d.x) ⊞ sq (D ⊠ d.y) ⊞ sq (D ⊠ d.z)) =
      ring 9 (λ n T S wx wy wz dx dy dz.
      let D = S :- T in
      far_e n S wx wy wz dx dy dz := far_e n T wx wy wz dx dy dz :+ 2 :· (D :* residual_e n T wx wy wz dx dy dz)
      :+ dot_e (D :* dx) (D :* dy) (D :* dz) (D :* dx) (D :* dy) (D :* dz))
      tt n T S w.x w.y w.z d.x d.y d.z in
      last A B (D ⊠ R) (sq (D ⊠ d.x)) (sq (D ⊠ d.y)) (sq (D ⊠ d.z)) i h (sq_nonneg (D ⊠ d.x)) (sq_nonneg (D ⊠ d.y))
      (sq_nonneg (D ⊠ d.z))
    where
      last : (a b r x y z : Z) → b ≈ a ⊞ 2 · r ⊞ (x ⊞ y ⊞ z) → ι 0 ⊑ r → ι 0 ⊑ x → ι 0 ⊑ y → ι 0 ⊑ z → a ⊑ b
      last a b r x y z e h i j k = unfold ι ◌⊞◌ ◌·◌ in omega arith

  -- where c R² ≤ g |d|², T is as good as S up to g: c F(T) ≤ c F(S) + g
  nearly_better : (c n T S g : Z) → ι 0 ⊑ c → ι 1 ⊑ norm_sq d → c ⊠ sq (residual n T w d) ⊑ g ⊠ norm_sq d
      → c ⊠ far n T w d ⊑ c ⊠ far n S w d ⊞ g
  nearly_better c n T S g k l h =
      let L = norm_sq d in
      let R = residual n T w d in
      let Q = residual n S w d in
      let A = far n T w d in
      let B = far n S w d in
      let i : L ⊠ (c ⊠ B ⊞ g ⊟ c ⊠ A) ≈ g ⊠ L ⊟ c ⊠ (R ⊠ R) ⊞ c ⊠ (Q ⊠ Q) =
      ring 11 (λ c n T S g wx wy wz dx dy dz.
      let L = dot_e dx dy dz dx dy dz in
      let R = residual_e n T wx wy wz dx dy dz in
      let Q = residual_e n S wx wy wz dx dy dz in
      L :* (c :* far_e n S wx wy wz dx dy dz :+ g :- c :* far_e n T wx wy wz dx dy dz) := g :* L :- c :* (R :* R) :+ c :* (Q :* Q))
      tt c n T S g w.x w.y w.z d.x d.y d.z in
      last (c ⊠ A) (c ⊠ B) g
      (cancel_nonneg l (first (L ⊠ (c ⊠ B ⊞ g ⊟ c ⊠ A)) (g ⊠ L) (c ⊠ (R ⊠ R)) (c ⊠ (Q ⊠ Q)) i h (mul_nonneg k (sq_nonneg Q))))
    where
      first : (x gl rr qq : Z) → x ≈ gl ⊟ rr ⊞ qq → rr ⊑ gl → ι 0 ⊑ qq → ι 0 ⊑ x
      first x gl rr qq e h k = unfold ι ◌⊞◌ ◌⊟◌ in omega arith

      last : (a b g : Z) → ι 0 ⊑ b ⊞ g ⊟ a → a ⊑ b ⊞ g
      last a b g h = unfold ι ◌⊞◌ ◌⊟◌ in omega arith

  -- ---- the place at T / u against the one at S / K: both over the denominator u K
  here : (u K T : Z) → far (u ⊠ K) (T ⊠ K) w d ≈ sq K ⊠ far u T w d
  here u K T =
      ring 9 (λ u K T wx wy wz dx dy dz. far_e (u :* K) (T :* K) wx wy wz dx dy dz := (K :* K) :* far_e u T wx wy wz dx dy dz)
      tt u K T w.x w.y w.z d.x d.y d.z

  there : (u K S : Z) → far (u ⊠ K) (S ⊠ u) w d ≈ sq u ⊠ far K S w d
  there u K S =
      ring 9 (λ u K S wx wy wz dx dy dz. far_e (u :* K) (S :* u) wx wy wz dx dy dz := (u :* u) :* far_e K S wx wy wz dx dy dz)
      tt u K S w.x w.y w.z d.x d.y d.z

  residual_here : (u K T : Z) → residual (u ⊠ K) (T ⊠ K) w d ≈ K ⊠ residual u T w d
  residual_here u K T = ring 5 (λ u K T L c. (T :* K) :* L :- (u :* K) :* c := K :* (T :* L :- u :* c)) tt u K T (norm_sq d) (inner w d)

  pub better_than : (u K T S : Z) → ι 0 ⊑ K → ι 0 ⊑ (S ⊠ u ⊟ T ⊠ K) ⊠ residual u T w d → sq K ⊠ far u T w d ⊑ sq u ⊠ far K S w d
  better_than u K T S k h =
      let D = S ⊠ u ⊟ T ⊠ K in
      let R = residual u T w d in
      let e : K ⊠ (D ⊠ R) ≈ D ⊠ residual (u ⊠ K) (T ⊠ K) w d =
      ≈_trans (ring 3 (λ K D R. K :* (D :* R) := D :* (K :* R)) tt K D R) (⊠_cong (≈_refl D) (≈_sym (residual_here u K T))) in
      ≈_⊑ (≈_sym (here u K T)) (⊑_≈ (better (u ⊠ K) (T ⊠ K) (S ⊠ u) (⊑_≈ (mul_nonneg k h) e)) (there u K S))

  pub nearly_better_than : (c u K T S g : Z) → ι 0 ⊑ c → ι 1 ⊑ norm_sq d → c ⊠ sq (residual u T w d) ⊑ g ⊠ norm_sq d
      → c ⊠ (sq K ⊠ far u T w d) ⊑ c ⊠ (sq u ⊠ far K S w d) ⊞ g ⊠ sq K
  nearly_better_than c u K T S g k l h =
      let L = norm_sq d in
      let R = residual u T w d in
      let R' = residual (u ⊠ K) (T ⊠ K) w d in
      let e : R' ≈ K ⊠ R = residual_here u K T in
      let scaled : c ⊠ sq R' ⊑ (g ⊠ sq K) ⊠ L =
      ≈_⊑ (≈_trans (⊠_cong (≈_refl c) (⊠_cong e e)) (ring 3 (λ c K R. c :* ((K :* R) :* (K :* R)) := (c :* (R :* R)) :* (K :* K)) tt c K R))
      (⊑_≈ (mul_mono (sq K) (sq_nonneg K) h) (ring 3 (λ g L K. (g :* L) :* (K :* K) := (g :* (K :* K)) :* L) tt g L K)) in
      swap (c ⊠ far (u ⊠ K) (T ⊠ K) w d) (c ⊠ (sq K ⊠ far u T w d)) (c ⊠ far (u ⊠ K) (S ⊠ u) w d) (c ⊠ (sq u ⊠ far K S w d)) (g ⊠ sq K)
      (⊠_cong (≈_refl c) (here u K T)) (⊠_cong (≈_refl c) (there u K S))
      (nearly_better c (u ⊠ K) (T ⊠ K) (S ⊠ u) (g ⊠ sq K) k l scaled)
    where
      swap : (a b c d g : Z) → a ≈ b → c ≈ d → a ⊑ c ⊞ g → b ⊑ d ⊞ g
      swap a b c d g e f h = unfold ◌⊞◌ in omega arith
