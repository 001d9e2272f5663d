-- `lengths` pushes the length of each lane in turn.
use Rattle.std.proofs.Common.{◌≡◌}
use Rattle.route.specs.Route.{lengths_to}
use Rattle.route.proofs.route_rows.RouteRows.lengths.Given as goal

abbrev pub invariant-loop-row : goal.invariant-loop-row
invariant-loop-row l = l.lengths.items ≡ lengths_to l.self.linked.lanes.rows.now l.self.linked.lanes.cumulative.now l.row
