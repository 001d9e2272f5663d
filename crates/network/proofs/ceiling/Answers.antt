-- `ceiling` is the distance of the best, and plus infinity where there is none.
use lib.Ieee.{div, of_bits}
use mathlib.Core.Path.{refl}
use Rattle.network.proofs.ceiling.Goals as goal

pub returns-in-None : goal.returns-in-None
unfolding div of_bits
returns-in-None c = λ lanes points. rw c.in-None.is refl
