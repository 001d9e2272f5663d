-- The tables of an accepted file: their fronts are the rows of its plan, so that a route from them is the plan's.
use Rattle.std.specs.Prelude.{List, refl, ◌≡◌, ℕ, Float, length}
use Rattle.std.proofs.Common.{ap, ◌∙◌}
use Rattle.coords.specs.declared.Point.{Point}
use Rattle.plan_format.specs.Laws.{Bytes}
use Rattle.plan_format.specs.Plan.{Decoded}
use Rattle.plan_format.specs.Reading.{opened}
use Rattle.plan_format.specs.declared.Counts.{Counts}
use Rattle.plan_format.specs.declared.Read.{Read}
use Rattle.route.specs.Route.{Routed, Routes, fitted, routed}
use Rattle.route.specs.declared.RouteAnswer.{RouteAnswer}
use Rattle.tables.specs.LaneTables.{Calls, LaneTables, Opens, too_short}
use Rattle.tables.specs.Opening.{cumulative_now, fans_now, found, lanes_now, links_now, points_now}
use Rattle.calling.specs.Calling.{calls_accepted}
use Rattle.lanes_route.specs.Route.{lists_of, listed, route_of, as_lists, cut, front_lanes, RouteFronts, routable_of, route_of_law}

-- the tables of an accepted file
module _ (side : ℕ) (f : List ℕ) (B : Bytes f) (r : Read) (t t' : LaneTables) (O : Opens (opened (too_short t) side f) r t t')
    (z : r.number ≡ 0) where
  abbrev c : Counts
  c = r.counts

  few : c.lanes ≡ length (found side f B r t t' O z).plan.lanes
  few = ap (λ (x : Counts). x.lanes) (found side f B r t t' O z).counts

  pub route_fronts : RouteFronts c t'.plan.lanes t'.plan.points t'.cumulative t'.plan.fans t'.plan.links
  route_fronts =
      let p = (found side f B r t t' O z).plan in
      let ok = (found side f B r t t' O z).ok in
      let L = lanes_now side f B r t t' O z c refl in
      let X = points_now side f B r t t' O z c refl in
      let C = cumulative_now side f B r t t' O z c refl in
      let F = fans_now side f B r t t' O z c refl in
      let K = links_now side f B r t t' O z c refl in
      record {
        lanes_there = L.long;
        points_there = X.long;
        arcs_there = C.long;
        fans_there = F.long;
        links_there = K.long;
        rows = routable_of p ok _ _ _ _ _ _ few L.is X.is C.is F.is K.is;
      }

  pub route_calls : (from to : Point) (chain chain' : List ℕ) (waypoints waypoints' : List Float) (a : RouteAnswer)
      → Routes
      (fitted (length chain) (length waypoints)
      (routed (cut c t'.plan.lanes t'.plan.points t'.cumulative t'.plan.fans t'.plan.links) c.lanes
      (front_lanes c t'.plan.lanes t'.plan.points) from to))
      a chain chain' waypoints waypoints'
      → Calls (λ (d : Decoded). route_of d from to chain waypoints) side f (lists_of a chain' waypoints') t t'
  route_calls from to chain chain' waypoints waypoints' a e =
      let p = (found side f B r t t' O z).plan in
      let ok = (found side f B r t t' O z).ok in
      let L = lanes_now side f B r t t' O z c refl in
      let X = points_now side f B r t t' O z c refl in
      let C = cumulative_now side f B r t t' O z c refl in
      let F = fans_now side f B r t t' O z c refl in
      let K = links_now side f B r t t' O z c refl in
      calls_accepted (λ (d : Decoded). route_of d from to chain waypoints) side f B r t t' O (lists_of a chain' waypoints') z
      (as_lists _ a chain chain' waypoints waypoints' e
      ∙ ap (λ (R : Routed). listed R chain waypoints)
      (route_of_law p ok _ _ _ _ _ _ few L.is X.is C.is F.is K.is from to (length chain) (length waypoints)))
