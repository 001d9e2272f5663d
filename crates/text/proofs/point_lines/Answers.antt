-- After i turns the first i lines stand there.
use Rattle.std.proofs.Common.{arith}
use Rattle.text.specs.Each.{point_lines_more}
use Rattle.text.specs.Page.{adds_more}
use Rattle.text.proofs.point_lines.Goals as goal

pub loop-x-preserved : goal.loop-x-preserved
loop-x-preserved g c =
    let e = point_lines_more c.args.xs.now _ c.as_chunks.result.0.now c.as_chunks.ensures.front c.loop-x.x-index (omega arith) in
    adds_more e (omega arith) c.loop-x.invariant c.point_line.ensures
