-- The route query: document 01's numbers 9, 10, 11 and 14, the chain of lanes, its points and its length. Definitions only.
use Rattle.std.specs.Prelude.{Bool, cond, false, true, ◌&&◌, List, [], map, ◌++◌, ◌∷◌, ◌≡◌, suc, zero, ℕ, ◌/◌, eqb, leb, Float, length}
use Rattle.std.specs.Prelude.{Option, None, Some}
use Rattle.branches.specs.Tables.{AllLaid}
use Rattle.coords.specs.Coords.{finite_point, zero⁺}
use Rattle.coords.specs.declared.Point.{Point}
use Rattle.geometry.specs.Over.{over}
use Rattle.nearest.specs.Nearest.{Searchable, lanes_of}
use Rattle.network.specs.Lanes.{Lane, drives_table}
use Rattle.network.specs.Nearest.{nearest_lane}
use Rattle.network.specs.Tables.{told}
use Rattle.network.specs.declared.Nearest.{Nearest}
use Rattle.plan_format.specs.Plan.{Plan}
use Rattle.plan_format.specs.Tables.{plan_rows}
use Rattle.rows.specs.Rows.{direction_of, lane_number, length_of}
use Rattle.sampling.specs.Kept.{flat}
use Rattle.sampling.specs.Sampling.{RouteTables, is_ahead, route_tables, sample_route}
use Rattle.search.specs.LaneGraph.{LaneGraph, Readable, lane_graph, searched_in}
use Rattle.search.specs.Search.{Result, found, refused}
use Rattle.tables.specs.LaneTables.{lane_rows}
use Rattle.route.specs.declared.RouteAnswer.{RouteAnswer}

-- a route: its number, the numbers of its lanes, x y z of its points, and its length; a refused one has its number alone
pub record Routed : Type 0 where
  pub number : ℕ
  pub chain : List ℕ
  pub points : List Float
  pub length : Float

abbrev pub refusal : ℕ → Routed
refusal n = record { number = n; chain = []; points = []; length = zero⁺ }

-- ---- the path, by rows

-- the lengths of the lanes 0 .. n - 1, and the graph of n lanes
unfoldable pub lengths_to : List ℕ → List Float → ℕ → List Float
lengths_to lanes cumulative zero = []
lengths_to lanes cumulative (suc k) = lengths_to lanes cumulative k ++ (length_of lanes cumulative k ∷ [])

abbrev pub graph_of : RouteTables → ℕ → LaneGraph
graph_of T n = lane_graph n T.fans T.links (lengths_to T.lanes T.cumulative n)

-- document 01, "One lane suffices": both points are on the same lane, and the goal lies ahead on it
unfoldable pub suffices : List ℕ → ℕ → Float → ℕ → Float → Bool
suffices lanes start s goal t = eqb start goal && is_ahead (direction_of lanes start) s t

-- `lane_path` from s on the lane `start` to t on the lane `goal`: that one lane, at length 0, or what the search finds
unfoldable pub path_by : Bool → List ℕ → LaneGraph → ℕ → ℕ → Result Float
path_by true lanes G start goal = found (start ∷ []) zero⁺
path_by false lanes G start goal = searched_in lanes G start goal

abbrev pub path_of : List ℕ → LaneGraph → ℕ → Float → ℕ → Float → Result Float
path_of lanes G start s goal t = path_by (suffices lanes start s goal t) lanes G start goal

-- ---- the answer

-- NUMBER 11 where there is no path; else the path's lanes by their numbers, its points, and its cost
unfoldable pub followed : RouteTables → Float → Float → Result Float → Routed
followed T s t refused = refusal 11
followed T s t (found path cost) =
    record { number = 0; chain = map (lane_number T.lanes) path; points = flat (sample_route T path s t); length = cost }

-- NUMBER 10 where no lane drives; else from the lane nearest to the first point to the one nearest to the second
unfoldable pub between : RouteTables → ℕ → Option Nearest → Option Nearest → Routed
between T n None b = refusal 10
between T n (Some a) None = refusal 10
between T n (Some a) (Some b) =
    followed T a.projection.s b.projection.s (path_of T.lanes (graph_of T n) a.row a.projection.s b.row b.projection.s)

-- NUMBER 9 where a coordinate is not finite. The lanes `ls` are the n lanes of the tables.
unfoldable pub routed : RouteTables → ℕ → List Lane → Point → Point → Routed
routed T n ls from to =
    cond (finite_point from && finite_point to)
    (between T n (told (nearest_lane drives_table ls from)) (told (nearest_lane drives_table ls to))) (refusal 9)

-- NUMBER 14 where the lists for the lanes and for the points, of so many entries each, do not hold the answer
unfoldable pub fitted : ℕ → ℕ → Routed → Routed
fitted chainRoom waypointRoom R = cond (leb (length R.chain) chainRoom && leb (length R.points) waypointRoom) R (refusal 14)

-- ---- over a plan

unfoldable pub tables_of : Plan → RouteTables
tables_of p = route_tables (plan_rows p).lanes (plan_rows p).points (lane_rows p).cumulative (plan_rows p).fans (plan_rows p).links

-- the route of a plan from one point to another, into lists with so much room
unfoldable pub route_in : Plan → Point → Point → ℕ → ℕ → Routed
route_in p from to chainRoom waypointRoom = fitted chainRoom waypointRoom (routed (tables_of p) (length p.lanes) (lanes_of p) from to)

-- ---- what is promised

-- the counts of an answer
unfoldable pub answer_of : Routed → RouteAnswer
answer_of R = record { number = R.number; lanes = length R.chain; points = length R.points / 3; length = R.length }

-- the answer, and the lists: the chain and the points at their fronts, the entries past them as before
pub record Routes (R : Routed) (r : RouteAnswer) (chain chain' : List ℕ) (waypoints waypoints' : List Float) : Type 0 where
  pub answer_is : r ≡ answer_of R
  pub chain_is : chain' ≡ over R.chain chain
  pub waypoints_is : waypoints' ≡ over R.points waypoints

-- ---- what the rows of n lanes must be

pub record Routable (T : RouteTables) (n : ℕ) : Type 0 where
  pub searchable : Searchable T.lanes T.points T.cumulative n
  pub laid : AllLaid T.lanes n T.points T.cumulative
  pub readable : Readable (graph_of T n)
