-- The digits still to come make what is there the whole.
use Rattle.std.proofs.Common.{◌≡◌, ◌+◌, ◌++◌, length}
use Rattle.text.specs.Numerals.{hex_of}
use Rattle.text.proofs.hex.Given as goal

abbrev pub invariant-loop-i : goal.invariant-loop-i
invariant-loop-i g l =
    (l.page.items ++ hex_of l.i l.n ≡ l.initial.page.items ++ hex_of l.k l.n) × (length l.page.items + l.i ≡ length l.initial.page.items + l.k)
