-- After i turns the first i lines stand there.
use Rattle.std.proofs.Common.{◌*◌, length}
use Rattle.text.specs.Lines.{position_lines}
use Rattle.text.specs.Page.{Adds}
use Rattle.text.proofs.position_lines.Given as goal

abbrev pub invariant-loop-case : goal.invariant-loop-case
invariant-loop-case g l = Adds (position_lines l.rows l.metres (length l.yielded)) (76 * length l.yielded) l.initial.page l.page
