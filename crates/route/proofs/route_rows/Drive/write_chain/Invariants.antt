-- `write_chain` writes front to back.
use Rattle.std.proofs.Common.{◌≡◌, map, take}
use Rattle.geometry.specs.Over.{over}
use Rattle.rows.specs.Rows.{lane_number}
use Rattle.route.proofs.route_rows.Drive.write_chain.Given as goal

abbrev pub invariant-loop-k : goal.invariant-loop-k
invariant-loop-k l = l.chain ≡ over (map (lane_number l.lanes) (take l.k l.self.path.now)) l.initial.chain
