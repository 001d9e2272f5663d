-- One over zero is the infinity.
use Rattle.std.specs.Float.{binary32}
use Rattle.float.proofs.Signs.{one_over_zero}
use Rattle.float.proofs.real.F32Real.INFINITY.Goals as goal

pub returns : goal.returns
returns c = one_over_zero binary32
