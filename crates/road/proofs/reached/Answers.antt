-- `reached` counts the segments that end short of `arc`, and stays below the last.
use Rattle.std.proofs.Common.{rules, arith, drop}
use Rattle.geometry.specs.Partition.{point_is}
use Rattle.road.specs.Along.{short_of, reached_by}
use Rattle.road.specs.AlongLaws.{ends_are, ends_rise, short_falling}
use Rattle.road.proofs.reached.Goals as goal

pub returns : goal.returns
unfolding reached_by
returns c =
    let cs = c.args.cumulative.now in
    let arc = c.args.arc in
    let n = rw (ends_are cs (omega arith)) at c.partition_point-n.ensures in
    omega (
      arith,
      point_is (short_of arc) (drop 1 cs) c.partition_point-n.result (short_falling arc) (ends_rise cs c.requires.1) n.bound n.partitioned
          (λ a r f' k. search rules),
    )
