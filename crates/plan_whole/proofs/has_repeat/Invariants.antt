-- What is left of the keys repeats one exactly when all do.
use Rattle.std.proofs.Common.{◌≡◌, length}
use Rattle.plan_format.specs.Plan.{repeats}
use Rattle.plan_whole.proofs.has_repeat.Given as goal

abbrev pub invariant-loop-key : goal.invariant-loop-key
invariant-loop-key l = repeats l.rest ≡ repeats l.keys

abbrev pub decreases-loop-key : goal.decreases-loop-key
decreases-loop-key l = length l.rest
