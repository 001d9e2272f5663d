-- The keys of the records read so far.
use Rattle.std.proofs.Common.{◌≡◌, map, take}
use Rattle.plan_whole.specs.Keys.{key_at}
use Rattle.plan_whole.specs.Which.{which}
use Rattle.plan_whole.proofs.put_keys.Given as goal

abbrev pub invariant-loop-at : goal.invariant-loop-at
invariant-loop-at g l = l.keys.items ≡ map (key_at l.file (which l.fn.kind)) (take l.at-index l.part)
