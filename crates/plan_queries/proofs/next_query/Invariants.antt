-- What is left of the walk gives what the whole gives (Seeking); each turn passes one record.
use Rattle.std.proofs.Common.{◌-◌, length}
use Rattle.plan_queries.specs.Seeking.{Seeking}
use Rattle.plan_queries.proofs.next_query.Given as goal

abbrev pub invariant-loop-found : goal.invariant-loop-found
invariant-loop-found l = Seeking l.file l.first l.at

abbrev pub decreases-loop-found : goal.decreases-loop-found
decreases-loop-found l = length l.file - l.at
