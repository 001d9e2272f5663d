-- The one lane where that suffices, else the search.
use Rattle.std.proofs.Common.{◌∙◌, ap, List}
use Rattle.std.specs.Float.Ieee.{Float}
use Rattle.search.specs.LaneGraph.{lane_graph, searched_in}
use Rattle.route.specs.Route.{path_by}
use Rattle.route.proofs.route_rows.RouteRows.lane_path.Goals as goal

pub returns-then-suffices : goal.returns-then-suffices
unfolding path_by
returns-then-suffices c = rw (← c.suffices.ensures, c.if-suffices.true) c.one_lane.ensures

pub returns : goal.returns
unfolding path_by
returns c =
    let a = c.args in
    let r = a.self.now.linked in
    let lengths = c.deref.ensures.0 ∙ c.lengths-lengths.ensures in
    rw (← c.suffices.ensures, c.if-suffices.false) (c.lane_path.ensures
    ∙ ap (λ (ls : List Float). searched_in r.lanes.rows.now (lane_graph r.lanes.count r.fans.now r.links.now ls) a.start.row a.goal.row) lengths)
