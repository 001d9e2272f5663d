-- `box_at` reads the four entries.
use mathlib.Core.Path.{refl}
use Rattle.network.specs.Tables.{box_in}
use Rattle.network.proofs.box_at.Goals as goal

pub returns : goal.returns
unfolding box_in
returns c = refl
