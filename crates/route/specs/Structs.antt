-- The structs of the code, as the definitions have them.
use Rattle.std.specs.Prelude.{List, Result, Ok, Err}
use Rattle.coords.specs.declared.Point.{Point}
use Rattle.plan_format.specs.Refusals.{number_of}
use Rattle.plan_format.specs.declared.Refusal.{Refusal}
use Rattle.sampling.specs.Sampling.{sample_route}
use Rattle.sampling.specs.Structs.{tables_in}
use Rattle.search.specs.LaneGraph.{LaneGraph}
use Rattle.route.specs.Route.{answer_of, graph_of, refusal}
use Rattle.route.specs.declared.RouteAnswer.{RouteAnswer}
use Rattle.route.specs.declared.route_rows.Drive.{Drive}
use Rattle.route.specs.declared.route_rows.RouteRows.{RouteRows}

abbrev pub graph_in : RouteRows → LaneGraph
graph_in r = graph_of (tables_in r.linked) r.linked.lanes.count

-- the points of a path
abbrev pub all_points : Drive → List Point
all_points d = sample_route (tables_in d.linked) d.path.now d.s d.t

-- the answer that C gets
abbrev pub answered : Result RouteAnswer Refusal → RouteAnswer
answered (Ok answer) = answer
answered (Err e) = answer_of (refusal (number_of e))
