-- `lengths` pushes the length of each lane in turn.
use Rattle.std.proofs.Common.{◌∙◌, ap, length, arith, lit<}
use Rattle.route.specs.Route.{lengths_to}
use Rattle.route.specs.Steps.{length_lengths, lengths_next}
use Rattle.route.proofs.route_rows.RouteRows.lengths.Goals as goal

pub loop-row-init : goal.loop-row-init
unfolding lengths_to
loop-row-init c = c.new-lengths.ensures

pub push-requires : goal.push-requires
push-requires c =
    let r = c.args.self.now in
    let few = r.routable.readable.few in
    let long = ap length c.loop-row.invariant ∙ length_lengths r.linked.lanes.rows.now r.linked.lanes.cumulative.now c.loop-row.row in
    (lit< tt, omega arith)

pub loop-row-preserved : goal.loop-row-preserved
loop-row-preserved c =
    let r = c.args.self.now in
    rw (c.push.ensures.items, c.loop-row.invariant, c.length.ensures, lengths_next)
