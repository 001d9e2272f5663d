-- The lane graph as the plan's tables hold it, and the search over it in f32.
use Rattle.std.specs.Prelude.{cond, false, List, [], ◌++◌, ◌∷◌, suc, zero, ℕ, ◌*◌, ◌+◌, ◌<◌, ◌≤◌, ltb, Float, get_or, length}
use Rattle.std.specs.Float.Ieee.{add, lt, of_bits}
use Rattle.std.specs.Float.{binary32, inf, nan}
use Rattle.rows.specs.Rows.{first_link, first_neighbour, lane_number, leads_to, neighbours, successors}
use Rattle.search.specs.Search.{Costs, Edge, Result, State, expanded, searched, settled}

-- the plan's tables `fans` and `links` (crate rows has the names of their entries), and the f32 length of each of `count` lanes
pub record LaneGraph : Type 0 where
  pub count : ℕ
  pub fans : List ℕ
  pub links : List ℕ
  pub lengths : List Float

abbrev pub lane_graph : ℕ → List ℕ → List ℕ → List Float → LaneGraph
lane_graph count fans links lengths = record { count = count; fans = fans; links = links; lengths = lengths }

abbrev pub length_of : LaneGraph → ℕ → Float
length_of G u = get_or G.lengths u nan

-- every row that a lane's entries name is there
pub record Readable (G : LaneGraph) : Type 0 where
  pub few : G.count ≤ 256
  pub fans : 5 * G.count ≤ length G.fans
  pub links : (u : ℕ) → u < G.count → 2 * (first_neighbour G.fans u + neighbours G.fans u) ≤ length G.links
  pub lengths : G.count ≤ length G.lengths

-- k rows of `links` from `first` on, each a step at the cost w; one that leads to none of the n lanes has no effect
unfoldable pub edges : List ℕ → ℕ → Float → ℕ → ℕ → List (Edge Float)
edges links n w first zero = []
edges links n w first (suc k) =
    let more = edges links n w (first + 1) k in
    let to = leads_to links first in
    cond (ltb to n) (record { to = to; cost = w } ∷ more) more

-- what a lane change costs: 30
abbrev pub lane_change : Float
lane_change = of_bits binary32 0x41f00000

-- the links out of u in the order of `expand`: successors at the lane's length, then neighbours at the cost of a lane change
unfoldable pub out : LaneGraph → ℕ → List (Edge Float)
out G u =
    edges G.links G.count (length_of G u) (first_link G.fans u) (successors G.fans u)
    ++ edges G.links G.count lane_change (first_neighbour G.fans u) (neighbours G.fans u)

abbrev pub f32_costs : Costs Float
f32_costs = record { lt = lt; add = add binary32; none = of_bits binary32 0; infinite = inf false }

abbrev pub expanded_in : LaneGraph → ℕ → Float → State Float → State Float
expanded_in G u cost s = expanded f32_costs u cost (out G u) s

abbrev pub settled_in : LaneGraph → ℕ → State Float → State Float
settled_in G u s = settled f32_costs (out G) u s

-- the search from the lane `start` to the lane `goal`
abbrev pub searched_in : List ℕ → LaneGraph → ℕ → ℕ → Result Float
searched_in lanes G start goal = searched f32_costs (lane_number lanes) (out G) 256 G.count start goal
