-- `Grid::outgrown` tests the four sides in turn: where three are outside, the last decides.
use native.Mathlib.Omega.{arith}
use Rattle.grid.proofs.Rings.{top_decides}
use Rattle.grid.proofs.Grid.outgrown.Goals as goal

pub returns : goal.returns
returns c = top_decides _ _ _ _ _ c.requires.col c.requires.row (omega arith) (omega arith) (omega arith)
