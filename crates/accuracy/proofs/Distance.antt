-- The squared distance of two points in f32, for coordinates up to 16,384 (`dist_err`). With E the exact squared distance, in square
-- units: 2^20 |U * result - E| ≤ E + 2^21 U (`Dist`), a relative error of 2^-20, and two units for what underflows. `pair_err` is the
-- same for two squares.
use Prim.Native.Nat.{◌*◌, ◌^◌}
use native.Mathlib.Omega.{arith}
use lib.Dec.{lit<}
use lib.Ieee.{Float, binary32, add, sub, mul}
use Rattle.exact.specs.Integers.{Z, ◌≈◌, ◌⊑◌, ◌⊞◌, ◌⊟◌, ◌⊠◌, ◌·◌, ⊖, ι}
use Rattle.exact.specs.Ring.{◌:+◌, ◌:-◌, ◌:*◌, ◌:·◌, ◌:=◌, ring}
use Rattle.exact.specs.Inequalities.{Within, abs, within_mul, within_scale, within_up, sq_nonneg, rel_sq, abs_least, within_self}
use Rattle.exact.specs.Inequalities.{mul_nonneg, ι_nonneg, dot_nonneg}
use Rattle.exact.specs.Values.{U, val, F32}
use Rattle.exact.specs.Steps.{SumStep}
use Rattle.exact.proofs.Steps.{add_step, sub_step, mul_step}
use Rattle.coords.specs.declared.Point.{Point}
use Rattle.coords.specs.Coords.{sub_of, length_squared}
use Rattle.accuracy.proofs.Vectors.{from, norm_sq}
use Rattle.accuracy.proofs.Coordinates.{Wide, Wides}

-- ---- one square. e is the exact difference
pub record Square (m : Float) (e : Z) : Type 0 where
  pub good : F32 m
  pub pos : ι 0 ⊑ val m
  pub size : Within (val m) (ι (2 ^ 30 * U))
  pub near : Within (2097152 · (ι U ⊠ val m ⊟ e ⊠ e)) (e ⊠ e ⊞ ι (1048576 * U))

square_size : (a : Z) → Within a (ι (2 ^ 15 * U)) → Within (a ⊠ a) (ι (U * (2 ^ 30 * U)))
square_size a h = go (within_mul h h)
  where
    go : Within (a ⊠ a) (ι (2 ^ 15 * U) ⊠ ι (2 ^ 15 * U)) → Within (a ⊠ a) (ι (U * (2 ^ 30 * U)))
    go h = unfold ι ⊖ ◌⊠◌ in omega arith

-- of a difference d with relative error 2^-24
pub square_of : (d : Float) (e : Z) → F32 d → Within (val d) (ι (2 ^ 15 * U)) → Within (16777216 · (val d ⊟ e)) (abs e)
    → Square (mul binary32 d d) e
square_of d e g size near =
    let v = val d in
    let m = mul_step d d 30 g g (lit< tt) (square_size v size) in
    record {
      good = m.good;
      pos = m.keeps (sq_nonneg v);
      size = m.size;
      near = sum (v ⊠ v) (e ⊠ e) (ι U ⊠ val (mul binary32 d d)) (abs (v ⊠ v)) (rel_sq v e near) (abs_least (within_self (sq_nonneg v)))
          m.near;
    }
  where
    sum : (vv ee um avv : Z) → Within (4194304 · (vv ⊟ ee)) ee → avv ⊑ vv → Within (16777216 · (um ⊟ vv)) (avv ⊞ ι (8388608 * U))
        → Within (2097152 · (um ⊟ ee)) (ee ⊞ ι (1048576 * U))
    sum vv ee um avv h l k = unfold ι ⊖ ◌⊟◌ ◌⊞◌ ◌·◌ in omega arith

wide_diff : (x y : Float) → Wide x → Wide y → SumStep (sub binary32 x y) 15 (val x ⊟ val y)
wide_diff x y p q = sub_step x y 15 p.good q.good (lit< tt) (size (val x) (val y) p.size q.size)
  where
    size : (a b : Z) → Within a (ι (2 ^ 14 * U)) → Within b (ι (2 ^ 14 * U)) → Within (a ⊟ b) (ι (2 ^ 15 * U))
    size a b h k = unfold ι ⊖ ◌⊟◌ in omega arith

coordinate_square : (x y : Float) → Wide x → Wide y → Square (mul binary32 (sub binary32 x y) (sub binary32 x y)) (val x ⊟ val y)
coordinate_square x y p q =
    let d = wide_diff x y p q in
    square_of (sub binary32 x y) (val x ⊟ val y) d.good d.size d.near

-- ---- the sum of two squares
pub record Dist (d : Float) (E : Z) : Type 0 where
  pub good : F32 d
  pub pos : ι 0 ⊑ val d
  pub near : Within (1048576 · (ι U ⊠ val d ⊟ E)) (E ⊞ ι (2097152 * U))

pub add_nonneg : (a b : Z) → ι 0 ⊑ a → ι 0 ⊑ b → ι 0 ⊑ a ⊞ b
unfolding ι ◌⊞◌
add_nonneg a b h k = omega arith

pair_size : (a b : Z) → ι 0 ⊑ a → ι 0 ⊑ b → Within a (ι (2 ^ 30 * U)) → Within b (ι (2 ^ 30 * U)) → Within (a ⊞ b) (ι (2 ^ 31 * U))
unfolding ι ⊖ ◌⊞◌
pair_size a b h k l m = omega arith

pair_step : (mx my : Float) (e f : Z) → Square mx e → Square my f → SumStep (add binary32 mx my) 31 (val mx ⊞ val my)
pair_step mx my e f x y =
    add_step mx my 31 x.good y.good (lit< tt) (pair_size (val mx) (val my) x.pos y.pos x.size y.size)

-- the error of a sum, times U
scaled : (s a b : Z) → ι 0 ⊑ a ⊞ b → Within (16777216 · (s ⊟ (a ⊞ b))) (abs (a ⊞ b))
    → Within (16777216 · (ι U ⊠ s ⊟ (ι U ⊠ a ⊞ ι U ⊠ b))) (ι U ⊠ a ⊞ ι U ⊠ b)
scaled s a b g h =
    let k : Within (ι U ⊠ (16777216 · (s ⊟ (a ⊞ b)))) (ι U ⊠ (a ⊞ b)) = within_scale U (within_up h (abs_least (within_self g))) in
    re k
    (ring 4 (λ u s a b. u :* (16777216 :· (s :- (a :+ b))) := 16777216 :· (u :* s :- (u :* a :+ u :* b))) tt (ι U) s a b)
    (ring 3 (λ u a b. u :* (a :+ b) := u :* a :+ u :* b) tt (ι U) a b)
  where
    re : {a b c d : Z} → Within a b → a ≈ c → b ≈ d → Within c d
    re h e f = unfold ⊖ in omega arith

pub pair_err : (mx my : Float) (e f : Z) → Square mx e → Square my f → Dist (add binary32 mx my) (e ⊠ e ⊞ f ⊠ f)
pair_err mx my e f x y =
    let p = add_nonneg (val mx) (val my) x.pos y.pos in
    let s = pair_step mx my e f x y in
    let r = add binary32 mx my in
    record {
      good = s.good;
      pos = s.keeps p;
      near = sum (ι U ⊠ val mx) (ι U ⊠ val my) (e ⊠ e) (f ⊠ f) (ι U ⊠ val r) (sq_nonneg e) (sq_nonneg f) x.near y.near
          (scaled (val r) (val mx) (val my) p s.near);
    }
  where
    sum : (x y e f t : Z) → ι 0 ⊑ e → ι 0 ⊑ f → Within (2097152 · (x ⊟ e)) (e ⊞ ι (1048576 * U))
        → Within (2097152 · (y ⊟ f)) (f ⊞ ι (1048576 * U)) → Within (16777216 · (t ⊟ (x ⊞ y))) (x ⊞ y)
        → Within (1048576 · (t ⊟ (e ⊞ f))) (e ⊞ f ⊞ ι (2097152 * U))
    sum x y e f t e₀ f₀ h i j = unfold ι ⊖ ◌⊟◌ ◌⊞◌ ◌·◌ in omega arith

-- ---- the sum of three squares
squares_err : (x y z e f g : Z) → Within (2097152 · (x ⊟ e)) (e ⊞ ι (1048576 * U)) → Within (2097152 · (y ⊟ f)) (f ⊞ ι (1048576 * U))
    → Within (2097152 · (z ⊟ g)) (g ⊞ ι (1048576 * U)) → Within (2097152 · (x ⊞ y ⊞ z ⊟ (e ⊞ f ⊞ g))) (e ⊞ f ⊞ g ⊞ ι (3145728 * U))
unfolding ι ⊖ ◌⊟◌ ◌⊞◌ ◌·◌
squares_err x y z e f g h i j = omega arith

sums_err : (x y z s t : Z) → ι 0 ⊑ x → ι 0 ⊑ y → ι 0 ⊑ z → Within (16777216 · (s ⊟ (x ⊞ y))) (x ⊞ y)
    → Within (16777216 · (t ⊟ (s ⊞ z))) (s ⊞ z) → Within (4194304 · (t ⊟ (x ⊞ y ⊞ z))) (x ⊞ y ⊞ z)
unfolding ι ⊖ ◌⊟◌ ◌⊞◌ ◌·◌
sums_err x y z s t x₀ y₀ z₀ k l = omega arith

both_errs : (X E t : Z) → ι 0 ⊑ E → Within (2097152 · (X ⊟ E)) (E ⊞ ι (3145728 * U)) → Within (4194304 · (t ⊟ X)) X
    → Within (1048576 · (t ⊟ E)) (E ⊞ ι (2097152 * U))
unfolding ι ⊖ ◌⊟◌ ◌⊞◌ ◌·◌
both_errs X E t e₀ h k = omega arith

pub dist_err : (p q : Point) → Wides p → Wides q → Dist (length_squared (sub_of p q)) (norm_sq (from q p))
dist_err p q P Q =
    let d = sub_of p q in
    let v = from q p in
    let x = coordinate_square p.x q.x P.x Q.x in
    let y = coordinate_square p.y q.y P.y Q.y in
    let z = coordinate_square p.z q.z P.z Q.z in
    let mx = mul binary32 d.x d.x in
    let my = mul binary32 d.y d.y in
    let mz = mul binary32 d.z d.z in
    let xy = add binary32 mx my in
    let r = add binary32 xy mz in
    let p₁ = add_nonneg (val mx) (val my) x.pos y.pos in
    let s = pair_step mx my v.x v.y x y in
    let p₂ = add_nonneg (val xy) (val mz) (s.keeps p₁) z.pos in
    let t = add_step xy mz 32 s.good z.good (lit< tt) (size (val xy) (val mz) (s.keeps p₁) z.pos s.size z.size) in
    let X = ι U ⊠ val mx in
    let Y = ι U ⊠ val my in
    let Z = ι U ⊠ val mz in
    let u₀ = ι_nonneg U in
    record {
      good = t.good;
      pos = t.keeps p₂;
      near = both_errs (X ⊞ Y ⊞ Z) (norm_sq v) (ι U ⊠ val r) (dot_nonneg v.x v.y v.z)
          (squares_err X Y Z (v.x ⊠ v.x) (v.y ⊠ v.y) (v.z ⊠ v.z) x.near y.near z.near)
          (sums_err X Y Z (ι U ⊠ val xy) (ι U ⊠ val r) (mul_nonneg u₀ x.pos) (mul_nonneg u₀ y.pos) (mul_nonneg u₀ z.pos)
          (scaled (val xy) (val mx) (val my) p₁ s.near) (scaled (val r) (val xy) (val mz) p₂ t.near));
    }
  where
    size : (a b : Z) → ι 0 ⊑ a → ι 0 ⊑ b → Within a (ι (2 ^ 31 * U)) → Within b (ι (2 ^ 30 * U)) → Within (a ⊞ b) (ι (2 ^ 32 * U))
    size a b h k l m = unfold ι ⊖ ◌⊞◌ in omega arith
