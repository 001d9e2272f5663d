-- Worked cases of the search over small tables: a successor costs the lane's length, a neighbour 30; the least cost is taken first, among equal
-- costs the larger lane number; a link never improves on an equal cost.
use Rattle.std.specs.Prelude.{List, [], ◌∷◌, ◌≡◌, refl, ℕ, Float}
use Rattle.std.specs.Float.{binary32}
use Rattle.std.specs.Float.Ieee.{add, lt, of_bits}
use Rattle.search.specs.LaneGraph.{LaneGraph, edges, lane_graph, out, searched_in}
use Rattle.search.specs.Search.{Edge, Result, blank, expanded, found, least_open, marked, rebuild, refused, relaxed, run, searched}
use Rattle.search.specs.Search.{settled}

-- 8, 16, 30 and the f32 on both sides of 30
abbrev f : ℕ → Float
f n = of_bits binary32 n

abbrev m8 : Float
m8 = f 0x41000000

abbrev m16 : Float
m16 = f 0x41800000

abbrev under30 : Float
under30 = f 0x41efffff

abbrev m30 : Float
m30 = f 0x41f00000

abbrev over30 : Float
over30 = f 0x41f00001

-- a lane's row, and its row of `adjacency`, of which only what the search reads is not zero; rows of links have the lane's number and its row
abbrev lane_row : ℕ → List ℕ → List ℕ
lane_row number more = number ∷ 0 ∷ 0 ∷ 0 ∷ 0 ∷ 2 ∷ more

abbrev adjacent : ℕ → ℕ → ℕ → ℕ → List ℕ → List ℕ
adjacent start successors predecessors neighbours more = start ∷ successors ∷ predecessors ∷ neighbours ∷ 256 ∷ more

abbrev edge : ℕ → Float → Edge Float
edge to cost = record { to = to; cost = cost }

-- ---- what a step costs

-- lane 1 of 8 m with lane 2 as successor, lane 3 as predecessor, lane 4 as neighbour, and as neighbour a lane that is missing
abbrev star_graph : LaneGraph
star_graph = lane_graph 4 (adjacent 0 1 1 2 (adjacent 4 0 0 0 (adjacent 4 0 0 0 (adjacent 4 0 0 0 []))))
    (2 ∷ 1 ∷ 3 ∷ 2 ∷ 4 ∷ 3 ∷ 9 ∷ 256 ∷ []) (m8 ∷ m16 ∷ m16 ∷ m16 ∷ [])

steps : out star_graph 0 ≡ edge 1 m8 ∷ edge 3 m30 ∷ []
unfolding out edges of_bits
steps = refl

-- ---- a lane with one lane as successor and one as neighbour, which both lead to lane 1, here by no cost: the cheaper way, or among equal costs by
-- the larger number. Lane 1 has the smallest number, so both are settled before it, and the second does not improve on the first

abbrev fork_lanes : ℕ → ℕ → List ℕ
fork_lanes second third = lane_row 9 (lane_row second (lane_row third (lane_row 1 [])))

abbrev fork_graph : Float → LaneGraph
fork_graph length = lane_graph 4 (adjacent 0 1 0 1 (adjacent 2 1 0 0 (adjacent 3 1 0 0 (adjacent 4 0 0 0 []))))
    (2 ∷ 1 ∷ 3 ∷ 2 ∷ 1 ∷ 3 ∷ 1 ∷ 3 ∷ []) (length ∷ f 0 ∷ f 0 ∷ f 0 ∷ [])

unfoldable forked : ℕ → ℕ → Float → Result Float
unfolding searched run settled expanded relaxed least_open marked rebuild blank edges out
forked second third length = searched_in (fork_lanes second third) (fork_graph length) 0 3

least_first :
    (forked 2 3 under30 ≡ found (0 ∷ 1 ∷ 3 ∷ []) under30)
    × (forked 2 3 over30 ≡ found (0 ∷ 2 ∷ 3 ∷ []) m30)
unfolding forked add lt of_bits
least_first = (refl, refl)

larger_number :
    (forked 2 3 m30 ≡ found (0 ∷ 2 ∷ 3 ∷ []) m30)
    × (forked 3 2 m30 ≡ found (0 ∷ 1 ∷ 3 ∷ []) m30)
unfolding forked add lt of_bits
larger_number = (refl, refl)

-- ---- the start has no entry: a lane with itself as successor is its own goal; a lane without links is not

abbrev loop_graph : ℕ → LaneGraph
loop_graph links = lane_graph 1 (adjacent 0 links 0 0 []) (1 ∷ 0 ∷ []) (m8 ∷ [])

closed : (searched_in (lane_row 1 []) (loop_graph 1) 0 0 ≡ found (0 ∷ 0 ∷ []) m8) × (searched_in (lane_row 1 []) (loop_graph 0) 0 0 ≡ refused)
unfolding searched run settled expanded relaxed least_open marked rebuild blank edges out add lt of_bits
closed = (refl, refl)

-- ---- 256 distances and predecessors: the lane in row 255 is reached, and there is no row 256

abbrev far_graph : ℕ → LaneGraph
far_graph row = lane_graph 257 (adjacent 0 1 0 0 []) (2 ∷ row ∷ []) (m8 ∷ [])

last_row : (searched_in [] (far_graph 255) 0 255 ≡ found (0 ∷ 255 ∷ []) m8) × (searched_in [] (far_graph 256) 0 256 ≡ refused)
unfolding searched run settled expanded relaxed least_open marked rebuild blank edges out add lt of_bits
last_row = (refl, refl)
