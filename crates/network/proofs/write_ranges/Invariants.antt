-- `write_ranges` writes one row a turn: `Filling` says what is written and what is left.
use Rattle.lists.specs.Filling.{Filling}
use Rattle.lists.specs.Rows.{rows}
use Prim.Native.Nat.{ℕ, ◌-◌, ◌*◌}
use Rattle.network.specs.Tables.{box_list, range_row}
use Rattle.network.proofs.write_ranges.Given as goal

abbrev pub invariant-loop-i : goal.invariant-loop-i
invariant-loop-i l =
    Filling ℕ l.initial.ranges l.ranges (4 * l.i) (rows (range_row l.g) (box_list l.boxes (l.n - l.i) l.i)) (rows (range_row l.g) (box_list l.boxes l.n 0))
