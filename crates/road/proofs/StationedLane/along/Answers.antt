-- `StationedLane::along` reads the metres before the station off the arc lengths, which the definition adds up.
use Rattle.std.proofs.Common.{arith}
use Rattle.road.specs.AlongLaws.{station_inside, along_is}
use Rattle.road.proofs.StationedLane.along.Goals as goal

pub returns : goal.returns
returns c =
    let lane = c.args.self.stationed in
    let i = c.station_before-i.ensures in
    let inside = station_inside _ _ _ lane c.args.s _ i in
    along_is _ _ _ lane c.args.s _ _ _ _ (omega (arith, lane.each)) i c.fraction.ensures c.nearest_f64_to_f32-part.ensures c.segment_length.ensures
