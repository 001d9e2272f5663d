-- The same lane, and the goal ahead on it.
use Rattle.std.proofs.Common.{eq-eqb, ne_eqb}
use Rattle.route.specs.Route.{suffices}
use Rattle.sampling.specs.Structs.{ahead_at}
use Rattle.route.proofs.route_rows.RouteRows.suffices.Goals as goal

pub returns-then-start-goal : goal.returns-then-start-goal
unfolding suffices
returns-then-start-goal c = simp (eq-eqb c.args.start.row c.args.goal.row c.if-start-goal.true) (rw (c.direction-direction.ensures, ahead_at) at c.ahead.ensures)

pub returns-else-start-goal : goal.returns-else-start-goal
unfolding suffices
returns-else-start-goal c = simp (ne_eqb c.args.start.row c.args.goal.row c.if-start-goal.false)
