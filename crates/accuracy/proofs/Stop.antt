-- The stop rule of the ring search: before ring s + 1 the best is compared with the square of s cells, in f32. Where a span is s whole
-- cells away up to 0.002 m, the rounded product passes its gap by at most 0.003 m (`floor_near`), and the square of it is a `Dist`.
use Prim.Native.Nat.{ℕ, ◌+◌, ◌*◌, ◌^◌, ◌≤◌}
use native.Mathlib.Omega.{arith}
use lib.Dec.{lit<}
use lib.Ieee.{Float, binary32, mul}
use Rattle.exact.specs.Integers.{Z, ◌≈◌, ◌⊑◌, ◌⊞◌, ◌⊟◌, ◌⊠◌, ◌·◌, ⊖, ι}
use Rattle.exact.specs.Ring.{◌:*◌, ◌:·◌, ◌:=◌, ring}
use Rattle.exact.specs.Inequalities.{Within, abs, within_mul, within_self, within_of_nonneg, abs_least, mul_mono, mul_nonneg, sq_nonneg}
use Rattle.exact.specs.Inequalities.{sq_mono, ι_nonneg, ≈_⊑, ⊑_≈, pos→nonneg, cancel_le, sq}
use Rattle.exact.specs.Values.{U, val, F32, UU_large, U_one}
use Rattle.exact.proofs.Steps.{mul_step}
use Rattle.grid.specs.Grid.{of_whole}
use Rattle.accuracy.proofs.Distance.{Dist}
use Rattle.accuracy.proofs.Cells.{CellSize, cell_pos}
use Rattle.accuracy.proofs.GridSize.{whole}

-- f is the f32 product of s and the cell; the span is `gap` units away, or more
record Floor (f : Float) (gap : Z) : Type 0 where
  pub good : F32 f
  pub pos : ι 0 ⊑ val f
  pub size : Within (val f) (ι (2 ^ 25 * U))
  pub near : 1000 · val f ⊑ 1000 · gap ⊞ ι (3 * U)

-- ---- two roundings: of s (relative, and half a unit), and of the product. A = U s c exactly, v = s rounded, f the product
module _ (A : Z) (top : 1000 · A ⊑ ι (8192002 * U * U)) where
  first_rounding : (vc c vc₁ n : Z) → vc₁ ⊑ n → vc₁ ≈ 16777216 · vc → n ≈ 16777217 · A ⊞ 8388608 · c → c ⊑ ι (2 ^ 14 * U)
      → 1152921504606846976 * U ≤ U * U → 16777216 · vc ⊑ 16777216 · A ⊞ ι (8194 * U * U)
  first_rounding vc c vc₁ n h e f k t = unfold ι ◌⊞◌ ◌·◌ in omega arith

  product_size : (vc : Z) → 16777216 · vc ⊑ 16777216 · A ⊞ ι (8194 * U * U) → vc ⊑ ι (8194 * U * U)
  product_size vc h = unfold ι ◌⊞◌ ◌·◌ in omega arith

second_rounding : (f vc avc : Z) → Within (16777216 · (f ⊟ vc)) (avc ⊞ ι (8388608 * U)) → avc ⊑ vc → vc ⊑ ι (8194 * U * U)
    → 8388608 * U ≤ U * U
    → 16777216 · f ⊑ 16777216 · vc ⊞ ι (8195 * U * U)
unfolding ι ⊖ ◌⊞◌ ◌⊟◌ ◌·◌
second_rounding f vc avc h i l m = omega arith

both_roundings : (f vc A : Z) → 16777216 · f ⊑ 16777216 · vc ⊞ ι (8195 * U * U) → 16777216 · vc ⊑ 16777216 · A ⊞ ι (8194 * U * U)
    → 1000 · f ⊑ 1000 · A ⊞ ι (U * U)
unfolding ι ◌⊞◌ ◌·◌
both_roundings f vc A h i = omega arith

floor_near : (s : ℕ) (c : Float) (gap : Z) → s ≤ 1024 → CellSize c → gap ⊑ ι (8192 * U) → 1000 · (ι s ⊠ val c) ⊑ 1000 · gap ⊞ ι (2 * U)
    → Floor (mul binary32 (of_whole s) c) gap
floor_near s c gap h C g k =
    let w = whole s h in
    let v = val (of_whole s) in
    let f = mul binary32 (of_whole s) c in
    let c₀ = pos→nonneg (val c) (cell_pos c C) in
    let m = mul_step (of_whole s) c 25 w.good C.good (lit< tt)
    (size v (val c) w.size (within_of_nonneg (val c) (ι (2 ^ 14 * U)) c₀ C.high)) in
    let vc₀ : ι 0 ⊑ v ⊠ val c = mul_nonneg w.pos c₀ in
    let A = ι U ⊠ (ι s ⊠ val c) in
    let A₁ = top (ι s ⊠ val c) gap k g in
    let one = first_rounding A A₁ (v ⊠ val c) (val c) ((16777216 · v) ⊠ val c) (ι (16777217 * (s * U) + 8388608) ⊠ val c)
    (mul_mono (val c) c₀ w.near)
    (ring 2 (λ v c. (16777216 :· v) :* c := 16777216 :· (v :* c)) tt v (val c)) (expand (val c)) C.high UU_large in
    let two = second_rounding (ι U ⊠ val f) (v ⊠ val c) (abs (v ⊠ val c)) m.near (abs_least (within_self vc₀))
    (product_size A A₁ (v ⊠ val c) one) (U_small U UU_large) in
    record {
      good = m.good;
      pos = m.keeps vc₀;
      size = m.size;
      near = last (val f) (ι s ⊠ val c) gap
          (cancel_le U_one (≈_⊑ (ring 2 (λ u f. u :* (1000 :· f) := 1000 :· (u :* f)) tt (ι U) (val f))
          (⊑_≈ (both_roundings (ι U ⊠ val f) (v ⊠ val c) A two one) (collect (ι s ⊠ val c))))) k;
    }
  where
    size : (a b : Z) → Within a (ι (2 ^ 11 * U)) → Within b (ι (2 ^ 14 * U)) → Within (a ⊠ b) (ι (U * (2 ^ 25 * U)))
    size a b h k = go (within_mul h k)
      where
        go : Within (a ⊠ b) (ι (2 ^ 11 * U) ⊠ ι (2 ^ 14 * U)) → Within (a ⊠ b) (ι (U * (2 ^ 25 * U)))
        go h = unfold ι ⊖ ◌⊠◌ in omega arith

    collect : (a : Z) → 1000 · (ι U ⊠ a) ⊞ ι (U * U) ≈ ι U ⊠ (1000 · a ⊞ ι U)
    collect a = unfold ι ◌⊠◌ ◌⊞◌ ◌·◌ in omega arith

    expand : (c : Z) → ι (16777217 * (s * U) + 8388608) ⊠ c ≈ 16777217 · (ι U ⊠ (ι s ⊠ c)) ⊞ 8388608 · c
    expand c = unfold ι ◌⊠◌ ◌⊞◌ ◌·◌ in omega arith

    U_small : (u : ℕ) → 1152921504606846976 * u ≤ u * u → 8388608 * u ≤ u * u
    U_small u h = omega arith

    top : (a gap : Z) → 1000 · a ⊑ 1000 · gap ⊞ ι (2 * U) → gap ⊑ ι (8192 * U) → 1000 · (ι U ⊠ a) ⊑ ι (8192002 * U * U)
    top a gap h k =
        ≈_⊑ (ring 2 (λ u a. 1000 :· (u :* a) := (1000 :· a) :* u) tt (ι U) a)
        (⊑_≈ (mul_mono (ι U) (ι_nonneg U) (all (1000 · a) gap h k)) is)
      where
        all : (a g : Z) → a ⊑ 1000 · g ⊞ ι (2 * U) → g ⊑ ι (8192 * U) → a ⊑ ι (8192002 * U)
        all a g h k = unfold ι ◌⊞◌ ◌·◌ in omega arith

        is : ι (8192002 * U) ⊠ ι U ≈ ι (8192002 * U * U)
        is = unfold ι ◌⊠◌ in omega arith

    last : (f a g : Z) → 1000 · f ⊑ 1000 · a ⊞ ι U → 1000 · a ⊑ 1000 · g ⊞ ι (2 * U) → 1000 · f ⊑ 1000 · g ⊞ ι (3 * U)
    last f a g h k = unfold ι ◌⊞◌ ◌·◌ in omega arith

floor_sq : (f : Float) → F32 f → Within (val f) (ι (2 ^ 25 * U)) → Dist (mul binary32 f f) (sq (val f))
floor_sq f g s =
    let m = mul_step f f 50 g g (lit< tt) (size (val f) s) in
    record {
      good = m.good;
      pos = m.keeps (sq_nonneg (val f));
      near = go (ι U ⊠ val (mul binary32 f f)) (sq (val f)) (abs (sq (val f))) m.near (abs_least (within_self (sq_nonneg (val f))))
          (sq_nonneg (val f));
    }
  where
    size : (a : Z) → Within a (ι (2 ^ 25 * U)) → Within (a ⊠ a) (ι (U * (2 ^ 50 * U)))
    size a h = go (within_mul h h)
      where
        go : Within (a ⊠ a) (ι (2 ^ 25 * U) ⊠ ι (2 ^ 25 * U)) → Within (a ⊠ a) (ι (U * (2 ^ 50 * U)))
        go h = unfold ι ⊖ ◌⊠◌ in omega arith

    go : (x e a : Z) → Within (16777216 · (x ⊟ e)) (a ⊞ ι (8388608 * U)) → a ⊑ e → ι 0 ⊑ e
        → Within (1048576 · (x ⊟ e)) (e ⊞ ι (2097152 * U))
    go x e a h k l = unfold ι ⊖ ◌⊞◌ ◌⊟◌ ◌·◌ in omega arith

-- ---- where the gap is at most R, in thousandths, the square of the floor is at most (R + 0.003 m)²
pub record StopDist (d : Float) (R : Z) : Type 0 where
  pub exact : Z
  pub dist : Dist d exact
  pub pos : ι 0 ⊑ exact
  pub near : 1000000 · exact ⊑ sq (R ⊞ ι (3 * U))

pub stop_dist : (s : ℕ) (c : Float) (gap R : Z) → s ≤ 1024 → CellSize c → gap ⊑ ι (8192 * U) → 1000 · (ι s ⊠ val c) ⊑ 1000 · gap ⊞ ι (2 * U)
    → 1000 · gap ⊑ R → StopDist (mul binary32 (mul binary32 (of_whole s) c) (mul binary32 (of_whole s) c)) R
stop_dist s c gap R h C g k r =
    let f = mul binary32 (of_whole s) c in
    let F = floor_near s c gap h C g k in
    record {
      exact = sq (val f);
      dist = floor_sq f F.good F.size;
      pos = sq_nonneg (val f);
      near = ≈_⊑ (ring 1 (λ d. 1000000 :· (d :* d) := (1000 :· d) :* (1000 :· d)) tt (val f))
          (sq_mono (go (val f) gap R F.pos F.near r));
    }
  where
    go : (f g R : Z) → ι 0 ⊑ f → 1000 · f ⊑ 1000 · g ⊞ ι (3 * U) → 1000 · g ⊑ R → Within (1000 · f) (R ⊞ ι (3 * U))
    go f g R h i j = unfold ι ⊖ ◌⊞◌ ◌·◌ in omega arith
