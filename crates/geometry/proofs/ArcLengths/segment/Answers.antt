-- `ArcLengths::segment` takes one off the count of the vertices at or before s, and stays below the last point.
use Rattle.std.proofs.Common.{rules, arith}
use Rattle.geometry.specs.Partition.{at_most, at_most_falling, point_is}
use Rattle.geometry.specs.Locate.{segment_of}
use Rattle.geometry.proofs.ArcLengths.segment.Goals as goal

pub returns : goal.returns
unfolding segment_of
returns c =
    let s = c.args.s in
    let n = c.partition_point-n.ensures in
    omega (
      arith,
      point_is (at_most s) c.args.self.cumulative.now c.partition_point-n.result (at_most_falling s) c.args.self.rising.1 n.bound n.partitioned
          (λ a r f' k. search rules),
    )
