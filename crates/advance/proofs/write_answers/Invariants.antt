-- The rows of the first i places stand at the front of the lists.
use Rattle.std.proofs.Common.{◌≡◌, reverse, take}
use Rattle.geometry.specs.Over.{over}
use Rattle.advance.specs.Advance.{rows_of, case_row, metre_row}
use Rattle.advance.proofs.write_answers.Given as goal

abbrev pub invariant-loop-i : goal.invariant-loop-i
invariant-loop-i l =
    record {
      rows : l.rows ≡ over (rows_of case_row (reverse (take l.i l.out))) l.initial.rows;
      positions : l.positions ≡ over (rows_of metre_row (reverse (take l.i l.out))) l.initial.positions;
    }
