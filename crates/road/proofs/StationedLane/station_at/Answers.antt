-- `StationedLane::station_at` goes back from the segment that `reached` finds.
use Rattle.std.proofs.Common.{◌∙◌, arith}
use Rattle.road.specs.AlongLaws.{reached_inside, station_is}
use Rattle.road.proofs.StationedLane.station_at.Goals as goal

pub returns : goal.returns
returns c =
    let lane = c.args.self.stationed in
    let inside = reached_inside _ _ _ lane c.args.arc _ c.reached-i.ensures in
    c.station_on.ensures
    ∙ station_is _ _ _ lane c.args.arc _ _ _ (omega arith) c.reached-i.ensures c.segment_length-len.ensures c.part.ensures
