-- What the call ensures is what is promised here. Named, so that a wrong argument is refused as another fact, and soon.
use Rattle.lanes_c_beside.proofs.kartsodi_beside.Goals as goal

pub returns : goal.returns
returns c = rw c.from.ensures c.beside.ensures
