-- What the call ensures is what is promised here. Named, so that a wrong argument is refused as another fact, and soon.
use Rattle.lanes_c_route.proofs.kartsodi_route.Goals as goal

pub returns : goal.returns
returns c = rw c.from.ensures (record { calls = c.route.ensures.calls; promise = c.route.ensures.promise })
