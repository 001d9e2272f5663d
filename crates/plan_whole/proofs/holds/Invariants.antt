-- What was found, or else what is left of the keys holds x, exactly when the keys hold x.
use Rattle.std.proofs.Common.{◌≡◌, drop}
use Rattle.std.specs.Prelude.{◌||◌}
use Rattle.plan_format.specs.Plan.{holds}
use Rattle.plan_whole.proofs.holds.Given as goal

abbrev pub invariant-loop-key : goal.invariant-loop-key
invariant-loop-key l = (l.found || holds l.x (drop l.key-index l.keys)) ≡ holds l.x l.keys
