-- The numbers for a lane's direction in the plan's tables, and for a side in a call. Definitions only.
use Rattle.std.specs.Prelude.{ℕ, zero, suc}
use Rattle.beside.specs.declared.Direction.{Direction}
use Rattle.beside.specs.declared.Direction.TheVariants.{Forward, Backward, Both, Other}
use Rattle.beside.specs.declared.Side.{Side}
use Rattle.beside.specs.declared.Side.TheVariants.{Left, Right}

abbrev pub direction_number : Direction → ℕ
direction_number Forward = 0
direction_number Backward = 1
direction_number Both = 2
direction_number Other = 3

abbrev pub direction_at : ℕ → Direction
direction_at zero = Forward
direction_at (suc zero) = Backward
direction_at (suc (suc zero)) = Both
direction_at (suc (suc (suc n))) = Other

abbrev pub side_number : Side → ℕ
side_number Left = 0
side_number Right = 1

-- every other number counts as 1
abbrev pub side_at : ℕ → Side
side_at zero = Left
side_at (suc n) = Right
