-- DEMAND 3: the route query against an exhaustive reader. Definitions only; proofs/Theorem.antt proves `RoutePromise`. Here and in crate
-- lanes_promise a promise is demand 3, and what a function ensures is its contract.
-- The reader is an imagined opponent, who sees the records of an accepted plan and what `nearest_lane` answers for each of the two points
-- (`nearest_in`), and nothing of the search; measures in exact arithmetic, by a tape, to any point of any driving lane; and may put forward any
-- chain of links. The tape stands in crate nearest_laws (`TapedAnswer`, over specs/Taped.antt of accuracy), the chains and what they cost in crate
-- optimality (specs/Chains.antt), `ahead` of route.rs in crate sampling (`is_ahead`). Lanes go by their numbers.
use Rattle.std.specs.Prelude.{Bool, false, true, ◌&&◌, List, [], map, ◌∷◌, ◌⊎◌, ◌≡◌, ℕ, ◌≤◌, eqb, get_or, length}
use Rattle.std.specs.Float.Ieee.{le}
use Rattle.accuracy.specs.Taped.{SomeDrives}
use Rattle.coords.specs.Coords.{finite_point, zero⁺}
use Rattle.coords.specs.declared.Point.{Point}
use Rattle.geometry_laws.specs.Range.{PointIn}
use Rattle.nearest.specs.Nearest.{lanes_of, nearest_in}
use Rattle.nearest.specs.declared.NearestAnswer.{NearestAnswer}
use Rattle.nearest_laws.specs.Promise.{DrivingAnswer, NoneDrives, TapedAnswer}
use Rattle.network.specs.Lanes.{drives_table}
use Rattle.optimality.specs.Chains.{chain_cost_in, is_chain}
use Rattle.plan_format.specs.Laws.{Bytes}
use Rattle.plan_format.specs.Plan.{Plan, accepted, decode, lane_of}
use Rattle.plan_format.specs.Records as records
use Rattle.route.specs.Route.{Routed, route_in, routed, tables_of}
use Rattle.sampling.specs.Sampling.{is_ahead}

-- both or neither
abbrev pub Exactly : Type 0 → Type 0 → Type 0
Exactly A B = (A → B) × (B → A)

-- some lane of the plan drives (`NoneDrives`: none does)
abbrev pub OneDrives : Plan → Type 0
OneDrives p = SomeDrives drives_table (lanes_of p)

-- ---- one lane suffices: both points are answered with it, and the second is `ahead` of the first in its direction
abbrev pub direction_in : Plan → ℕ → ℕ
direction_in p n = get_or (map (λ (l : records.Lane). l.direction) p.lanes) (lane_of p n) 0

abbrev pub one_lane : Plan → NearestAnswer → NearestAnswer → Bool
one_lane p a b = eqb a.lane.0 b.lane.0 && is_ahead (direction_in p a.lane.0) a.projection.s b.projection.s

-- ---- the reader's chains from the one chosen lane to the other
abbrev pub is_chain_between : Plan → NearestAnswer → NearestAnswer → List ℕ → Bool
is_chain_between p a b chain = is_chain p.links a.lane.0 b.lane.0 chain

-- a chain the reader could put forward, and every other such chain has at least its f32 cost
pub record LeastChain (p : Plan) (a b : NearestAnswer) (chain : List ℕ) : Type 0 where
  pub is_chain_law : is_chain_between p a b chain ≡ true
  pub least : (other : List ℕ) → is_chain_between p a b other ≡ true → le (chain_cost_in p chain) (chain_cost_in p other) ≡ true

-- one lane suffices, or there is a chain; neither
abbrev pub Reachable : Plan → NearestAnswer → NearestAnswer → Type 0
Reachable p a b = (one_lane p a b ≡ true) ⊎ ((chain : List ℕ) × (is_chain_between p a b chain ≡ true))

abbrev pub Unreachable : Plan → NearestAnswer → NearestAnswer → Type 0
Unreachable p a b = (one_lane p a b ≡ false) × ((chain : List ℕ) → is_chain_between p a b chain ≡ false)

-- ---- the route as module 6 and the order of the search give it, whatever room it takes
abbrev pub whole_route : Plan → Point → Point → Routed
whole_route p from to = routed (tables_of p) (length p.lanes) (lanes_of p) from to

-- the lent lists hold it: so many lanes, and so many floats of points
abbrev pub Fits : ℕ → ℕ → Routed → Type 0
Fits lanes floats w = (length w.chain ≤ lanes) × (length w.points ≤ floats)

-- THE PROMISE for one query: a and b are what `nearest_lane` answers for the two points, w is the whole route, and r what the route call
-- answers with lists of that room
pub record Promised (p : Plan) (from to : Point) (lanes floats : ℕ) (a b : NearestAnswer) (w r : Routed) : Type 0 where
  pub ten : Exactly (r.number ≡ 10) (NoneDrives p)
  pub eleven : Exactly (r.number ≡ 11) (OneDrives p × Unreachable p a b)
  pub answered : OneDrives p → Reachable p a b → Fits lanes floats w → r.number ≡ 0
  pub fourteen : OneDrives p → Reachable p a b → (Fits lanes floats w → ⊥) → r.number ≡ 14
  -- an answer lists exactly that route
  pub lists : r.number ≡ 0 → r ≡ w
  -- each chosen lane is one that drives
  pub chosen : OneDrives p → DrivingAnswer p from × DrivingAnswer p to
  -- and where the point's coordinates all lie from -4,096 to 4,096, the chosen point is within 0.1 m of its lane and at most 0.1 m farther than
  -- the tape's nearest
  pub near : OneDrives p → (PointIn from → TapedAnswer p from) × (PointIn to → TapedAnswer p to)
  pub one_lane_law : r.number ≡ 0 → one_lane p a b ≡ true → (r.chain ≡ a.lane.0 ∷ []) × (r.length ≡ zero⁺)
  pub chain : r.number ≡ 0 → one_lane p a b ≡ false → LeastChain p a b r.chain × (r.length ≡ chain_cost_in p r.chain)

-- for every accepted plan, every two points whose coordinates are finite, as those in the range are, and lists of any room
abbrev pub RoutePromise : Type 0
RoutePromise =
    (file : List ℕ) → Bytes file → (p : Plan) → decode 0 file ≡ accepted p
    → (from to : Point) → finite_point from ≡ true → finite_point to ≡ true → (lanes floats : ℕ)
    → Promised p from to lanes floats (nearest_in p from) (nearest_in p to) (whole_route p from to) (route_in p from to lanes floats)
