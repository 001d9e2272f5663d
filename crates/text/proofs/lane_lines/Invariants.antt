-- After i turns the first i lines stand there.
use Rattle.std.proofs.Common.{◌*◌}
use Rattle.text.specs.Lines.{lane_lines}
use Rattle.text.specs.Page.{Adds}
use Rattle.text.proofs.lane_lines.Given as goal

abbrev pub invariant-loop-n : goal.invariant-loop-n
invariant-loop-n g l = Adds (lane_lines l.ns l.n-index) (26 * l.n-index) l.initial.page l.page
