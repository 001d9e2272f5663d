-- One rounded operation, all that an error analysis needs of it, in one record (proofs/Steps makes it): the result is a finite f32 (`good`), it stays within
-- the power of two that bounds the exact value (`size`), it is not negative where the exact value is not (`keeps`), and its error is
-- small (`near`).
use Rattle.std.specs.Prelude.{ℕ, ◌*◌, ◌^◌, Float}
use Rattle.exact.specs.Integers.{Z, ◌⊑◌, ◌⊞◌, ◌⊟◌, ◌⊠◌, ◌·◌, ι}
use Rattle.exact.specs.Inequalities.{Within, abs}
use Rattle.exact.specs.Values.{U, val, F32}

-- ---- the four facts. x is the rounded e / k
pub record Step (x : Float) (k j : ℕ) (e : Z) : Type 0 where
  pub good : F32 x
  pub size : Within (val x) (ι (2 ^ j * U))
  pub keeps : ι 0 ⊑ e → ι 0 ⊑ val x
  pub near : Within (16777216 · (ι k ⊠ val x ⊟ e)) (abs e ⊞ ι (8388608 * k))

-- a sum or a difference e, a whole number of units: nothing is lost below the unit
pub record SumStep (x : Float) (j : ℕ) (e : Z) : Type 0 where
  pub good : F32 x
  pub size : Within (val x) (ι (2 ^ j * U))
  pub keeps : ι 0 ⊑ e → ι 0 ⊑ val x
  pub near : Within (16777216 · (val x ⊟ e)) (abs e)
