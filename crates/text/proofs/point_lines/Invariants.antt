-- After i turns the first i lines stand there.
use Rattle.std.proofs.Common.{◌*◌}
use Rattle.text.specs.Lines.{point_lines}
use Rattle.text.specs.Page.{Adds}
use Rattle.text.proofs.point_lines.Given as goal

abbrev pub invariant-loop-x : goal.invariant-loop-x
invariant-loop-x g l = Adds (point_lines l.xs l.x-index) (33 * l.x-index) l.initial.page l.page
