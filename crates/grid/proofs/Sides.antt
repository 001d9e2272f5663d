-- A grid that was built has a cell, and at most MAX_DIM a side; and a cell of it is inside of it.
use Prim.Native.Nat.{ℕ, ◌<◌}
use native.Mathlib.Omega.{arith}
use lib.Ieee.{Float}
use Rattle.grid.specs.declared.Aabb.{Aabb}
use Rattle.grid.specs.declared.Grid.{Grid}
use Rattle.grid.specs.Grid.{side, grid_of, bucket, col_of, row_of, Sides}
use Rattle.grid.specs.Ring.{Inside}
use Rattle.grid.proofs.Buckets.{bucket_is}

pub sides : (extent : Aabb) (items : ℕ) → Sides (grid_of extent items)
unfolding grid_of side
sides extent items = record { cols = omega arith; rows = omega arith; few_cols = omega arith; few_rows = omega arith }

bucket_inside : (offset cell : Float) (count : ℕ) → 0 < count → bucket offset cell count < count
bucket_inside offset cell count h = let e = bucket_is offset cell count in omega arith

pub inside : (g : Grid) → Sides g → (x y : Float) → Inside g (col_of g x) (row_of g y)
inside g s x y = record { col = bucket_inside _ _ g.cols s.cols; row = bucket_inside _ _ g.rows s.rows }
