-- The route: what a call answers with its lists, and that from the tables after opening it is the plan's.
use Rattle.std.specs.Prelude.{List, ◌≡◌, ℕ, ◌*◌, ◌≤◌, Float, length, take}
use Rattle.coords.specs.declared.Point.{Point}
use Rattle.geometry.specs.Over.{over}
use Rattle.network.specs.Lanes.{Lane}
use Rattle.network.specs.Tables.{lanes_from}
use Rattle.plan.specs.Accepted.{Accepted}
use Rattle.plan_format.specs.Plan.{Decoded, Plan, accepted, refused}
use Rattle.plan_format.specs.Tables.{plan_rows}
use Rattle.plan_format.specs.declared.Counts.{Counts}
use Rattle.route.specs.InPlan.{routable, route_is}
use Rattle.route.specs.Route.{Routable, Routed, Routes, answer_of, fitted, refusal, route_in, routed, tables_of}
use Rattle.route.specs.declared.RouteAnswer.{RouteAnswer}
use Rattle.sampling.specs.Sampling.{RouteTables, route_tables}
use Rattle.tables.specs.LaneTables.{lane_rows}

-- what a call answers, and what it leaves in the two lists lent for it
pub record RouteLists : Type 0 where
  pub answer : RouteAnswer
  pub chain : List ℕ
  pub waypoints : List Float

abbrev pub lists_of : RouteAnswer → List ℕ → List Float → RouteLists
lists_of r chain waypoints = record { answer = r; chain = chain; waypoints = waypoints }

-- the lanes and the points of a route at the fronts of the lists; a refused one leaves them
abbrev pub listed : Routed → List ℕ → List Float → RouteLists
listed R chain waypoints = lists_of (answer_of R) (over R.chain chain) (over R.points waypoints)

-- the answer for a file
abbrev pub route_of : Decoded → Point → Point → List ℕ → List Float → RouteLists
route_of (refused k) from to chain waypoints = listed (refusal k) chain waypoints
route_of (accepted p) from to chain waypoints = listed (route_in p from to (length chain) (length waypoints)) chain waypoints

pub as_lists : (R : Routed) (r : RouteAnswer) (chain chain' : List ℕ) (waypoints waypoints' : List Float)
    → Routes R r chain chain' waypoints waypoints' → lists_of r chain' waypoints' ≡ listed R chain waypoints
as_lists R r chain chain' waypoints waypoints' P = rw (P.answer_is, P.chain_is, P.waypoints_is)

-- the front of each table, for a plan with these counts
abbrev pub cut : Counts → List ℕ → List Float → List Float → List ℕ → List ℕ → RouteTables
cut c lanes points cumulative fans links =
    route_tables (take (6 * c.lanes) lanes) (take (3 * c.points) points) (take c.points cumulative) (take (5 * c.lanes) fans)
    (take (2 * c.links) links)

abbrev pub front_lanes : Counts → List ℕ → List Float → List Lane
front_lanes c lanes points = lanes_from (take (6 * c.lanes) lanes) (take (3 * c.points) points) c.lanes 0

-- what `route_from` needs: the front of each table is there, and is the rows of a plan
pub record RouteFronts (c : Counts) (lanes : List ℕ) (points cumulative : List Float) (fans links : List ℕ) : Type 0 where
  pub lanes_there : 6 * c.lanes ≤ length lanes
  pub points_there : 3 * c.points ≤ length points
  pub arcs_there : c.points ≤ length cumulative
  pub fans_there : 5 * c.lanes ≤ length fans
  pub links_there : 2 * c.links ≤ length links
  pub rows : Routable (cut c lanes points cumulative fans links) c.lanes

-- tables that are a plan's rows
module _ (p : Plan) (A : Accepted p) (n : ℕ) (ls : List ℕ) (xs cs : List Float) (fs ks : List ℕ) (few : n ≡ length p.lanes)
    (l : ls ≡ (plan_rows p).lanes) (x : xs ≡ (plan_rows p).points) (c : cs ≡ (lane_rows p).cumulative) (f : fs ≡ (plan_rows p).fans)
    (k : ks ≡ (plan_rows p).links) where
  tables_are : route_tables ls xs cs fs ks ≡ tables_of p
  unfolding tables_of
  tables_are = rw (l, x, c, f, k)

  pub routable_of : Routable (route_tables ls xs cs fs ks) n
  routable_of = rw (tables_are, few) (routable p A)

  pub route_of_law : (from to : Point) (chainRoom waypointRoom : ℕ)
      → fitted chainRoom waypointRoom (routed (route_tables ls xs cs fs ks) n (lanes_from ls xs n 0) from to)
      ≡ route_in p from to chainRoom waypointRoom
  route_of_law from to chainRoom waypointRoom = rw (tables_are, l, x, few) (route_is p A from to chainRoom waypointRoom)
