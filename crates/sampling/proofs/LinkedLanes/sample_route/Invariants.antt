-- `LinkedLanes::sample_route` keeps `Routing`: the lanes left make of the points now all the points of the path. It stops once there is no room.
use Rattle.std.proofs.Common.{◌≡◌, ◌+◌, length}
use Rattle.sampling.specs.Passes.{Routing}
use Rattle.sampling.specs.Sampling.{sample_route}
use Rattle.sampling.specs.Structs.{tables_in}
use Rattle.sampling.proofs.LinkedLanes.sample_route.Given as goal

abbrev pub invariant-loop-next : goal.invariant-loop-next
invariant-loop-next l = record {
  routed :
      Routing (tables_in l.self) l.goal_s l.path l.self.lanes.count (sample_route (tables_in l.self) l.path l.start_s l.goal_s) l.initial.out
      l.room.points (l.next-index + 1) l.i l.entry l.kept l.out;
  same : length l.out ≡ length l.initial.out;
}
