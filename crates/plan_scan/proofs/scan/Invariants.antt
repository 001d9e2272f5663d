-- What is left of the walk gives what the whole gives (Scanning); each turn is one step of it.
use Rattle.std.proofs.Common.{◌-◌, length}
use Rattle.plan_scan.specs.Scan.{Scanning}
use Rattle.plan_scan.proofs.scan.Given as goal

abbrev pub invariant-loop-at : goal.invariant-loop-at
invariant-loop-at l = Scanning l.file l.at l.starts

abbrev pub decreases-loop-at : goal.decreases-loop-at
decreases-loop-at l = length l.file - l.at
