-- The leading zeros say how far t has to be shifted.
use Rattle.float.proofs.Scaling.{scaled_range}
use Rattle.float.proofs.root.scale.Goals as goal

pub invariant_of-result : goal.invariant_of-result
invariant_of-result c = record { range = scaled_range c.args.t c.requires.nonzero c.requires.subnormal }
