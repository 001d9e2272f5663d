-- `write_chain` writes front to back.
use Rattle.std.proofs.Common.{arith}
use Rattle.route.specs.Steps.{chain_next}
use Rattle.route.proofs.route_rows.Drive.write_chain.Goals as goal

pub loop-k-preserved : goal.loop-k-preserved
loop-k-preserved c =
    let a = c.args in
    let o = c.loop-k in
    chain_next a.self.now.linked.lanes.rows.now a.self.now.path.now a.chain.now o.chain o.k c.loop-k-test.true (omega arith) o.invariant
