-- `nearest_rows` answers for one point a turn.
use Rattle.nearest.proofs.Asking.{Answers}
use Rattle.nearest.proofs.Lanes.nearest_rows.Given as goal

abbrev pub invariant-loop-i : goal.invariant-loop-i
invariant-loop-i g l = Answers l.self.rows.now l.self.points.now l.self.count l.ps l.initial.found l.found l.i
