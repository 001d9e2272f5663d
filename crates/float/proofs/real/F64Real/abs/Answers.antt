-- The remainder by the sign's bit is the pattern of |x|.
use Rattle.float.specs.Sign.{abs_of}
use Rattle.float.proofs.Nans.{own_nan}
use Rattle.float.proofs.Signs.{abs_nan}
use Rattle.float.proofs.real.F64Real.abs.Goals as goal

pub returns-then-self : goal.returns-then-self
returns-then-self c = own_nan abs_of abs_nan _ c.if-self.true
