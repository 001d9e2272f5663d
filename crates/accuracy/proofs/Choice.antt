-- Of two squared distances, the one whose f32 is no larger is the smaller up to 0.016 m (`choose`). R is in thousandths of a unit.
use Prim.Native.Nat.{◌*◌}
use native.Mathlib.Omega.{arith}
use lib.Ieee.{Float}
use Rattle.exact.specs.Integers.{Z, ◌≈◌, ◌⊑◌, ◌⊞◌, ◌⊟◌, ◌⊠◌, ◌·◌, ⊖, ι, ≈_trans}
use Rattle.exact.specs.Ring.{◌:+◌, ◌:*◌, ◌:·◌, ◌:=◌, ring}
use Rattle.exact.specs.Inequalities.{Within, mul_mono, mul_nonneg, ι_nonneg, ⊑_≈, scale_mono, sq}
use Rattle.exact.specs.Values.{U, val, UU_large}
use Rattle.accuracy.proofs.Distance.{Dist}

-- x ≤ y in f32, so E is at most F up to their errors
squares : (x y E F : Z) → x ⊑ y → ι 0 ⊑ F → Within (1048576 · (x ⊟ E)) (E ⊞ ι (2097152 * U))
    → Within (1048576 · (y ⊟ F)) (F ⊞ ι (2097152 * U))
    → 1048575 · E ⊑ 1048577 · F ⊞ ι (4194304 * U)
unfolding ι ⊖ ◌⊞◌ ◌⊟◌ ◌·◌
squares x y E F h f₀ k l = omega arith

-- P = (R + 16 U)², ru = R U, uu = U²
root : (E F rr ru uu P : Z) → 1048575 · E ⊑ 1048577 · F ⊞ ι (4194304 * U) → 1000000 · F ⊑ rr → rr ⊑ 16384000 · ru
    → ι (1152921504606846976 * U) ⊑ uu
    → P ≈ rr ⊞ 32 · ru ⊞ 256 · uu → ι 0 ⊑ ru → 1000000 · E ⊑ P
unfolding ι ◌⊞◌ ◌·◌
root E F rr ru uu P h k l m e n = omega arith

pub choose : (d e : Float) (E F R : Z) → Dist d E → Dist e F → val d ⊑ val e → ι 0 ⊑ R → R ⊑ ι (16384000 * U) → ι 0 ⊑ F → 1000000 · F ⊑ sq R
    → 1000000 · E ⊑ sq (R ⊞ ι (16 * U))
choose d e E F R p q h r₀ r₁ f₀ f₁ =
    root E F (sq R) (R ⊠ ι U) (sq (ι U)) (sq (R ⊞ ι (16 * U)))
    (squares (ι U ⊠ val d) (ι U ⊠ val e) E F (scale_mono U (val d) (val e) h) f₀ p.near q.near) f₁ (long R r₀ r₁) U_sq
    (≈_trans split (ring 2 (λ r u. (r :+ 16 :· u) :* (r :+ 16 :· u) := r :* r :+ 32 :· (r :* u) :+ 256 :· (u :* u)) tt R (ι U)))
    (mul_nonneg r₀ (ι_nonneg U))
  where
    U_sq : ι (1152921504606846976 * U) ⊑ sq (ι U)
    U_sq = unfold ι ◌⊠◌ in omega (arith, UU_large)

    long : (r : Z) → ι 0 ⊑ r → r ⊑ ι (16384000 * U) → sq r ⊑ 16384000 · (r ⊠ ι U)
    long r h k = ⊑_≈ (mul_mono r h k) (is r)
      where
        is : (r : Z) → ι (16384000 * U) ⊠ r ≈ 16384000 · (r ⊠ ι U)
        is r = unfold ι ◌⊠◌ ◌·◌ in omega arith

    split : sq (R ⊞ ι (16 * U)) ≈ sq (R ⊞ 16 · ι U)
    split = unfold ι ◌⊠◌ ◌⊞◌ ◌·◌ in omega arith
