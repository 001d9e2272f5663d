-- The structs of the code, as the definitions have them.
use Rattle.std.specs.Prelude.{Bool, cond, ℕ, Float, Option, Some, None, map}
use Rattle.rows.specs.Rows.{lane_number}
use Rattle.search.specs.declared.LanePath.{LanePath}
use Rattle.search.specs.declared.graph.Graph.{Graph}
use Rattle.search.specs.declared.state.Search.{Search}
use Rattle.search.specs.Search.{Result, State, found, least_open, refused}
use Rattle.search.specs.LaneGraph.{LaneGraph, f32_costs, lane_graph}

-- the mark of a lane that is closed, or not
abbrev pub mark : Bool → ℕ
mark closed = cond closed 1 0

abbrev pub state_of : Search → State Float
state_of s = record { dist = s.dist; prev = s.prev; closed = map mark s.closed }

abbrev pub graph_of : Graph → LaneGraph
graph_of g = lane_graph g.count g.fans.now g.links.now g.lengths.now

-- the open lane of least cost, 256 where none is open
abbrev pub least_in : Graph → State Float → ℕ
least_in g s = least_open f32_costs (lane_number g.lanes.now) 256 s g.count

-- a path that is found, or none
abbrev pub result_of : Option LanePath → Result Float
result_of None = refused
result_of (Some p) = found p.lanes.items p.cost
