-- `Polyline::project_segments` takes the segments one after the other, as the definition does; none where `end` is before `first`.
use Rattle.std.proofs.Common.{◌≡◌, ◌+◌, ◌-◌, ◌≤◌}
use Rattle.geometry.specs.Project.{project_to}
use Rattle.geometry.proofs.Polyline.project_segments.Given as goal

abbrev pub invariant-loop-i : goal.invariant-loop-i
invariant-loop-i l = record {
  so_far : l.i ≤ l.first + (l.end - l.first);
  nearest : l.best ≡ project_to l.self.points.now l.self.cumulative.now l.p l.first (l.i - l.first);
}
