-- `add_lane` writes span j of the lane in turn; `Cutting` says where it stands.
use Rattle.std.proofs.Common.{◌+◌, ◌*◌}
use Rattle.network.specs.Tables.{lane_at}
use Rattle.network.proofs.Cut.{Cutting}
use Rattle.network.proofs.add_lane.Given as goal

abbrev pub invariant-loop-j : goal.invariant-loop-j
invariant-loop-j l =
    Cutting (lane_at l.lanes l.points l.row) l.k l.initial.spans l.initial.boxes (l.k + l.j) (4 * l.j) l.spans l.boxes
