-- The NaN alone differs from itself.
use Rattle.std.proofs.Common.{not, ap, ◌∙◌}
use Rattle.std.specs.Float.Ieee.{ne}
use Rattle.float.proofs.Nans.{ne_is_nan}
use Rattle.float.proofs.bits.is_nan.Goals as goal

pub returns : goal.returns
unfolding ne
returns g c = ap not c.is_equal.ensures ∙ ne_is_nan (g.T.Real.float c.args.x)
