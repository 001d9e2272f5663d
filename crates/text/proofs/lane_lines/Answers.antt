-- After i turns the first i lines stand there.
use Rattle.std.proofs.Common.{arith}
use Rattle.text.specs.Bytes.{bytes}
use Rattle.text.specs.Each.{lane_lines_more}
use Rattle.text.specs.Lines.{lane_line}
use Rattle.text.specs.Page.{adds_more}
use Rattle.text.proofs.lane_lines.Goals as goal

pub loop-n-preserved : goal.loop-n-preserved
unfolding bytes lane_line
loop-n-preserved g c =
    adds_more (lane_lines_more c.args.ns.now c.loop-n.n-index) (omega arith) c.loop-n.invariant c.number_line.ensures
