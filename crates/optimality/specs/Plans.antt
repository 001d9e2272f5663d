-- What is proved of the search over an accepted plan (proofs/Theorem.antt: `search_optimal`, `heap_form`): its chain is a cheapest of all chains
-- of link records, and route.rs gives the same by its heap. Definitions only. A lane is its row in the plan's tables where the search is
-- concerned, and its number in the chains of the reader and in the heap form.
use Rattle.std.specs.Prelude.{false, true, [], map, ℕ, ◌<◌, Float, length}
use Rattle.std.specs.Float.{binary32}
use Rattle.std.specs.Float.Ieee.{of_bits}
use Rattle.plan.specs.Accepted.{Accepted}
use Rattle.plan_format.specs.Plan.{Plan}
use Rattle.plan_format.specs.Tables.{plan_rows}
use Rattle.rows.specs.Rows.{lane_number}
use Rattle.search.specs.LaneGraph.{LaneGraph, f32_costs, lane_graph, searched_in}
use Rattle.search.specs.Search.{Result, found, refused}
use Rattle.optimality.specs.Chains.{OptimalIn, lengths_of, numbers_of}
use Rattle.optimality.specs.Heap.{Gives, begun, compare_entries, edges_from, numbered}

-- the lane graph of a plan, as its tables hold it
abbrev pub graph_in : Plan → LaneGraph
graph_in p = lane_graph (length p.lanes) (plan_rows p).fans (plan_rows p).links (lengths_of p)

-- the search's result from one row to another, with the numbers of its lanes, is optimal
abbrev pub OptimalFrom : Plan → ℕ → ℕ → Result Float → Type 0
OptimalFrom p start goal refused =
    OptimalIn p (lane_number (plan_rows p).lanes start) (lane_number (plan_rows p).lanes goal) false [] (of_bits binary32 0)
OptimalFrom p start goal (found chain cost) =
    let number = lane_number (plan_rows p).lanes in OptimalIn p (number start) (number goal) true (map number chain) cost

-- the search of route.rs over the plan's lanes and link records, from one lane number to another, with its maps, its heap and
-- `Ord for State`, gives r
abbrev pub HeapGives : Plan → ℕ → ℕ → Result Float → Type 0
HeapGives p start goal r =
    let edges = edges_from (numbers_of p) (lengths_of p) p.links in
    Gives f32_costs compare_entries edges start goal (begun f32_costs compare_entries edges start goal) r

-- THE LEAST CHAIN: from one lane to another, or back to the same, what the search answers is optimal against the plan's link records
abbrev pub SearchOptimal : Type 0
SearchOptimal =
    (p : Plan) → Accepted p → (start goal : ℕ) → start < length p.lanes → goal < length p.lanes
    → OptimalFrom p start goal (searched_in (plan_rows p).lanes (graph_in p) start goal)

-- THE HEAP FORM. Document 01, "`HashMap` and `BinaryHeap` in `Search`": the search carries its distances and predecessors inside its
-- state, and takes the least cost first, among equal costs the larger lane number. It gives what the Rust gives by its heap: that loop
-- comes to an end, with the numbers of this chain at this cost, or refused where this is. Links to missing lanes change nothing
abbrev pub HeapForm : Type 0
HeapForm =
    (p : Plan) → Accepted p → (start goal : ℕ) → start < length p.lanes → goal < length p.lanes
    → let number = lane_number (plan_rows p).lanes in
    HeapGives p (number start) (number goal) (numbered number (searched_in (plan_rows p).lanes (graph_in p) start goal))
