-- `extent` merges one box a turn: what is left to merge makes of the box now what all make of the first.
use mathlib.Core.Path.{◌≡◌}
use Prim.Native.Nat.{◌-◌}
use Rattle.grid.specs.Grid.{extent_of}
use Rattle.network.specs.Tables.{box_list}
use Rattle.network.proofs.extent.Given as goal

abbrev pub invariant-loop-i : goal.invariant-loop-i
invariant-loop-i l = (extent_of l.b (box_list l.boxes (l.n - l.i) l.i) ≡ extent_of l.initial.b (box_list l.boxes (l.n - 1) 1))
