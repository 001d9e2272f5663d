-- `Kept::sample_segment` keeps `Sampling`: the samples left make of the points now all of them. It stops once there is no room.
use Rattle.std.proofs.Common.{◌≡◌, ◌+◌, ◌≤◌, List, Float, length}
use Rattle.coords.specs.declared.Point.{Point}
use Rattle.geometry.specs.Locate.{point_along}
use Rattle.sampling.specs.Kept.{kept_of, laid}
use Rattle.sampling.specs.Passes.{Sampling}
use Rattle.sampling.specs.Sampling.{sample_from}
use Rattle.sampling.proofs.Kept.sample_segment.Given as goal

abbrev pub invariant-loop-k : goal.invariant-loop-k
invariant-loop-k l = record {
  few : l.self.count ≤ l.room.points;
  same : length l.out ≡ length l.initial.out;
  sampled :
      (qs : List Point) (old : List Float) → l.initial.self ≡ kept_of qs → l.initial.out ≡ laid qs old
      → Sampling (point_along l.line.points.now l.line.cumulative.now) l.entry l.span l.steps l.k
      (sample_from (point_along l.line.points.now l.line.cumulative.now) l.entry l.span l.steps (l.steps + 1) 0 qs) old l.self l.out;
}
