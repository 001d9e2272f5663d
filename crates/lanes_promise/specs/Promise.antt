-- DEMAND 3 of the public call `route`: what it answers for an accepted file, and leaves in its lists, is a route of which `RoutePromise` (crate
-- route_promise) holds. src/lib.rt has `Demand3` in the call's contract; `route_kept` makes it of what `lanes_route::route` ensures.
use Rattle.std.specs.Prelude.{false, true, List, refl, ◌≡◌, ℕ, Float, length, take}
use Rattle.std.proofs.Common.{ap, ◌∙◌}
use Rattle.coords.specs.Coords.{finite_point}
use Rattle.coords.specs.declared.Point.{Point}
use Rattle.lanes_route.specs.Route.{RouteLists, lists_of, route_of}
use Rattle.nearest.specs.Nearest.{nearest_in}
use Rattle.lists.specs.Over.{over_front}
use Rattle.plan_format.specs.Laws.{Bytes}
use Rattle.plan_format.specs.Plan.{Decoded, Plan, accepted, decode}
use Rattle.plan_format.specs.Reading.{opened}
use Rattle.route.specs.Route.{Routed, answer_of, route_in}
use Rattle.route.specs.declared.RouteAnswer.{RouteAnswer}
use Rattle.route_promise.proofs.Theorem.{route_promise}
use Rattle.route_promise.specs.Promise.{Promised, whole_route}
use Rattle.tables.specs.LaneTables.{Calls, LaneTables, too_short}

-- a call that answers r and leaves chain' and waypoints' in its lists shows the route R: its number, counts and length, its lanes and its points
pub record Shows (R : Routed) (r : RouteAnswer) (chain' : List ℕ) (waypoints' : List Float) : Type 0 where
  pub answer : r ≡ answer_of R
  pub lanes : take (length R.chain) chain' ≡ R.chain
  pub points : take (length R.points) waypoints' ≡ R.points

-- the route that a call shows, with what is promised of it
pub record KeepsPromise (p : Plan) (from to : Point) (chain : List ℕ) (waypoints : List Float) (r : RouteAnswer) (chain' : List ℕ)
    (waypoints' : List Float) : Type 0 where
  pub shown : Routed
  pub shows : Shows shown r chain' waypoints'
  pub promised : Promised p from to (length chain) (length waypoints) (nearest_in p from) (nearest_in p to) (whole_route p from to) shown

-- DEMAND 3 of one call over a file of these bytes, with the tables t: where they are long enough and the points are finite, for every plan that
-- the file decodes to
abbrev pub Demand3 : List ℕ → LaneTables → Point → Point → List ℕ → List Float → RouteAnswer → List ℕ → List Float → Type 0
Demand3 file t from to chain waypoints r chain' waypoints' =
    too_short t ≡ false → finite_point from ≡ true → finite_point to ≡ true → (p : Plan) → decode 0 file ≡ accepted p
    → KeepsPromise p from to chain waypoints r chain' waypoints'

-- what `lanes_route::route` ensures of a call gives it
module _ (file : List ℕ) (B : Bytes file) (t t' : LaneTables) (from to : Point) (chain chain' : List ℕ) (waypoints waypoints' : List Float)
    (r : RouteAnswer) (C : Calls (λ (d : Decoded). route_of d from to chain waypoints) 0 file (lists_of r chain' waypoints') t t')
  where
    lists : too_short t ≡ false → (p : Plan) → decode 0 file ≡ accepted p
        → lists_of r chain' waypoints' ≡ route_of (accepted p) from to chain waypoints
    unfolding opened
    lists long p is = rw (long, is) at C.answer_is

    pub route_kept : Demand3 file t from to chain waypoints r chain' waypoints'
    route_kept long F T p is =
        let R = route_in p from to (length chain) (length waypoints) in
        let e = lists long p is in
        record {
          shown = R;
          shows = record {
            answer = ap (λ (x : RouteLists). x.answer) e;
            lanes = ap (λ (x : RouteLists). take (length R.chain) x.chain) e ∙ over_front R.chain chain _ refl;
            points = ap (λ (x : RouteLists). take (length R.points) x.waypoints) e ∙ over_front R.points waypoints _ refl;
          };
          promised = route_promise file B p is from to F T (length chain) (length waypoints);
        }
