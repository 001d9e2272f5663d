-- `least` is `least_open`: `best` is the least of the lanes below `i`, with its cost and number.
use Rattle.std.proofs.Common.{◌<◌, arith}
use Rattle.search.specs.Loops.{scan_skips, scan_starts, scan_takes, unreached_is}
use Rattle.search.proofs.graph.Graph.least.Goals as goal
use Rattle.search.proofs.graph.Graph.least.Goals.{then-is_before, else-is_before}

pub loop-i-init : goal.loop-i-init
loop-i-init c = rw unreached_is (scan_starts c.args.self.now.lanes.now c.args.search.now)

pub loop-i-preserved : goal.loop-i-preserved
loop-i-preserved c =
    let a = c.args in
    let o = c.loop-i in
    let few = a.self.now.readable.few in
    let l : o.i < 256 = omega arith in
    let takes = scan_takes a.self.now.lanes.now a.search.now o.i o.best o.cost o.number o.invariant l c.is_before.result c.is_before.ensures in
    let skips = scan_skips a.self.now.lanes.now a.search.now o.i o.best o.cost o.number o.invariant l c.is_before.result c.is_before.ensures in
    elim c.if-is_before.branch [
      | then-is_before w ↦ rw (w.best-is, w.cost-is, w.number-is) (takes w.if-is_before.true)
      | else-is_before w ↦ rw (w.best-is, w.cost-is, w.number-is) (skips w.if-is_before.false)
    ]
