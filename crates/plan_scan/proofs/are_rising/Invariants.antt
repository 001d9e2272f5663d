-- What is left of the floats rises from `last` on exactly when all do from `below` on; each turn reads one.
use Rattle.std.proofs.Common.{◌≡◌, ◌*◌, ◌+◌, ◌-◌}
use Rattle.plan_format.specs.Records.{doubles}
use Rattle.plan_scan.specs.Ranges.{rising}
use Rattle.plan_scan.proofs.are_rising.Given as goal

abbrev pub invariant-loop-k : goal.invariant-loop-k
invariant-loop-k l = rising l.last (doubles l.file (l.first + 8 * l.k) (l.n - l.k)) ≡ rising l.below (doubles l.file l.first l.n)
