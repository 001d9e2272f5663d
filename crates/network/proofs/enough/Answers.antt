-- `enough` asks the grid of the distance of the best.
use mathlib.Core.Path.{refl}
use Rattle.network.specs.Nearest.{enough}
use Rattle.network.proofs.enough.Goals as goal

pub returns-in-None : goal.returns-in-None
unfolding enough
returns-in-None c = λ lanes points. rw c.in-None.is refl

pub returns-in-Some : goal.returns-in-Some
unfolding enough
returns-in-Some c = λ lanes points. rw c.in-Some.is c.reached.ensures
