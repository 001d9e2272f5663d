-- What the call ensures is what is promised here. Named, so that a wrong argument is refused as another fact, and soon.
use Rattle.lanes_c_pose.proofs.kartsodi_pose.Goals as goal

pub returns : goal.returns
returns c = rw c.from.ensures c.pose.ensures
