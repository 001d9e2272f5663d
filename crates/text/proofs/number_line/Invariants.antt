-- The numbers still to come make what is there the whole.
use Rattle.std.proofs.Common.{◌≡◌, ◌+◌, ◌*◌, ◌≤◌, ◌++◌, drop, length}
use Rattle.text.specs.Lines.{number_fields}
use Rattle.text.proofs.number_line.Given as goal

abbrev pub invariant-loop-n : goal.invariant-loop-n
invariant-loop-n g l =
    (l.page.items ++ number_fields (drop l.n-index l.numbers) ≡ l.initial.page.items ++ number_fields l.numbers)
    × (length l.page.items ≤ length l.initial.page.items + 21 * l.n-index)
