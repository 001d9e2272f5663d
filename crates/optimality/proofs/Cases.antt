-- Worked cases, document 01's on chains among them: what the search finds over the tables, runs of the heap form, what chains of link records cost,
-- and a search that opens only the start lane.
use mathlib.Core.Bool.{Bool, cond, false, not, true, true≢false, ◌&&◌}
use mathlib.Core.List.Memᴰ
use mathlib.Core.List.{List, Memᴰ, [], ◌∷◌}
use mathlib.Core.Logic.{inl, inr, ◌⊎◌, ◌≢◌}
use mathlib.Core.Path.{refl, subst, sym, ◌≡◌}
use Prim.Native.Nat.{ℕ}
use lib.Count.{count_trailing_zeros}
use lib.Dec.{eqb}
use lib.IntN.{pos}
use lib.Ieee.{Float, add, eq, fin, is_nan, lt, odd, of_bits, round, size, sum, units}
use borrow.Author.Tests.{eqb-false}
use Rattle.float.specs.Sign.{is_negative}
use Rattle.std.specs.declared.cmp.Ordering.TheVariants.{Greater}
use Rattle.plan_format.specs.Plan.{index_of}
use Rattle.plan_format.specs.Records.{Link}
use Rattle.plan_format.specs.Tables.{linked}
use Rattle.rows.specs.Rows.{lane_number}
use Rattle.search.specs.LaneGraph.{LaneGraph, edges, f32_costs, lane_change, lane_graph, out, searched_in}
use Rattle.search.specs.Search.{Edge, Result, blank, expanded, found, least_open, marked, rebuild, refused, relaxed, run, searched, settled}
use Rattle.optimality.specs.Chains.{add_steps, chain_cost, change_cost, has_link, is_chain, leads_to, step_cost}
use Rattle.optimality.specs.Heap.{Entry, Frontier, Pops, Runs, Taken, back, begun, compare_entries, edges_from, first, fresh, further}
use Rattle.optimality.specs.Heap.{later, numbered, push, push_all, reached}
use Rattle.optimality.proofs.HeapOrder.{is_greater, not_greater}

-- 8, 16, 30 and 32 m
abbrev m8 : Float
m8 = fin false 1 (pos 3)

abbrev m16 : Float
m16 = fin false 1 (pos 4)

abbrev m30 : Float
m30 = fin false 15 (pos 1)

abbrev m32 : Float
m32 = fin false 1 (pos 5)

-- 30, to the reader and to the search
change : (change_cost ≡ m30) × (change_cost ≡ lane_change)
unfolding of_bits
change = (refl, refl)

-- a lane's row and a fan, of which only what the search reads is not zero
abbrev lane_row : ℕ → List ℕ → List ℕ
lane_row number more = number ∷ 0 ∷ 0 ∷ 0 ∷ 0 ∷ 2 ∷ more

abbrev fan : ℕ → ℕ → ℕ → List ℕ → List ℕ
fan start successors neighbours more = start ∷ successors ∷ 0 ∷ neighbours ∷ 256 ∷ more

abbrev link : ℕ → ℕ → ℕ → Link
link from role to = record { from = from; role = role; to = to }

-- lane 1 leads to 2 and 3, both lead to 4; all have 8 m
abbrev four_lanes : List ℕ
four_lanes = lane_row 1 (lane_row 2 (lane_row 3 (lane_row 4 [])))

abbrev four_graph : LaneGraph
four_graph = lane_graph 4 (fan 0 2 0 (fan 2 1 0 (fan 3 1 0 (fan 4 0 0 [])))) (2 ∷ 1 ∷ 3 ∷ 2 ∷ 4 ∷ 3 ∷ 4 ∷ 3 ∷ []) (m8 ∷ m8 ∷ m8 ∷ m8 ∷ [])

abbrev four_links : List Link
four_links = link 1 0 2 ∷ link 1 0 3 ∷ link 2 0 4 ∷ link 3 0 4 ∷ []

-- a 32 m lane with the goal as successor and neighbour
abbrev both_graph : LaneGraph
both_graph = lane_graph 2 (fan 0 1 1 (fan 2 0 0 [])) (2 ∷ 1 ∷ 2 ∷ 1 ∷ []) (m32 ∷ m8 ∷ [])

-- a lane with the goal as neighbour, and as successor lane 9, which is missing: its row is 256
abbrev missing_graph : LaneGraph
missing_graph = lane_graph 2 (fan 0 1 1 (fan 2 0 0 [])) (9 ∷ 256 ∷ 2 ∷ 1 ∷ []) (m8 ∷ m8 ∷ [])

abbrev missing_links : List Link
missing_links = link 1 0 9 ∷ link 1 2 2 ∷ []

-- a lane with itself as successor, and one without
abbrev closed_graph : LaneGraph
closed_graph = lane_graph 1 (fan 0 1 0 []) (1 ∷ 0 ∷ []) (m8 ∷ [])

abbrev lone_graph : LaneGraph
lone_graph = lane_graph 1 (fan 0 0 0 []) [] (m8 ∷ [])

-- chain 1, 3, 4; cost 30; past the missing lane; chain 1, 1; none
searches : (numbered (lane_number four_lanes) (searched_in four_lanes four_graph 0 3) ≡ found (1 ∷ 3 ∷ 4 ∷ []) m16)
    × (numbered (lane_number (lane_row 1 (lane_row 2 []))) (searched_in (lane_row 1 (lane_row 2 [])) both_graph 0 1) ≡ found (1 ∷ 2 ∷ []) m30)
    × (numbered (lane_number (lane_row 1 (lane_row 2 []))) (searched_in (lane_row 1 (lane_row 2 [])) missing_graph 0 1) ≡ found (1 ∷ 2 ∷ []) m30)
    × (numbered (lane_number (lane_row 1 [])) (searched_in (lane_row 1 []) closed_graph 0 0) ≡ found (1 ∷ 1 ∷ []) m8)
    × (searched_in (lane_row 1 []) lone_graph 0 0 ≡ refused)
unfolding searched run settled expanded relaxed least_open marked rebuild blank edges out of_bits lt add sum round size units odd
    count_trailing_zeros
searches = (refl, refl, refl, refl, refl)

-- ---- the heap form
abbrev none_greater : Entry Float → List (Entry Float) → Bool
none_greater e [] = true
none_greater e (x ∷ xs) = not (is_greater (compare_entries x e)) && none_greater e xs

none_greater_law : (e : Entry Float) (heap : List (Entry Float)) → none_greater e heap ≡ true → (x : Entry Float) → Memᴰ x heap
    → compare_entries x e ≢ Greater
none_greater_law e [] h x m = absurd (Memᴰ.not-nil m)
none_greater_law e (y ∷ ys) h x m = go (is_greater (compare_entries y e)) refl h (none_greater_law e ys) (Memᴰ.cases_cons m)
  where
    go : (b : Bool) → is_greater (compare_entries y e) ≡ b → (not b && none_greater e ys) ≡ true
        → (none_greater e ys ≡ true → (z : Entry Float) → Memᴰ z ys → compare_entries z e ≢ Greater)
        → (x ≡ y) ⊎ Memᴰ x ys → compare_entries x e ≢ Greater
    go true q h ih c = absurd (true≢false (sym h))
    go false q h ih (inl p) = subst (λ (z : Entry Float). compare_entries z e ≢ Greater) (sym p) (not_greater _ q)
    go false q h ih (inr m') = ih h x m'

pops : (e : Entry Float) (heap rest : List (Entry Float)) → Taken e heap rest → none_greater e heap ≡ true → Pops compare_entries heap e rest
pops e heap rest t h = record { taken = t; greatest = none_greater_law e heap h }

-- the loop from one lane to another
module _ (edgesOf : ℕ → List (Edge Float)) (start goal : ℕ) where
  abbrev heap_begun : Frontier Float
  heap_begun = begun f32_costs compare_entries edgesOf start goal

  abbrev HeapRun : Result Float → Type 0
  HeapRun r = Runs f32_costs compare_entries edgesOf start goal heap_begun r

abbrev four_edges : ℕ → List (Edge Float)
four_edges = edges_from (1 ∷ 2 ∷ 3 ∷ 4 ∷ []) (m8 ∷ m8 ∷ m8 ∷ m8 ∷ []) four_links

abbrev missing_edges : ℕ → List (Edge Float)
missing_edges = edges_from (1 ∷ 2 ∷ []) (m8 ∷ m8 ∷ []) missing_links

-- lanes 2 and 3 cost the same: 3 is popped first, then 2, whose link does not improve on lane 4, and then 4
heap_run : HeapRun four_edges 1 4 (found (1 ∷ 3 ∷ 4 ∷ []) m16)
unfolding push_all push edges_from linked index_of of_bits lt eq is_nan is_negative add sum round size units odd count_trailing_zeros
heap_run =
    fresh (pops _ _ _ first refl) (eqb-false 3 4 refl) refl
    (fresh (pops _ _ _ (later first) refl) (eqb-false 2 4 refl) refl
    (reached (pops _ _ _ first refl) refl (further refl (eqb-false 3 1 refl) (back refl))))

-- the missing lane 9 is pushed as any other; its entry, the cheaper, is popped first and pushes nothing, and then 2 is popped
abbrev to_two : Entry Float
to_two = record { cost = m30; lane = 2 }

abbrev to_nine : Entry Float
to_nine = record { cost = m8; lane = 9 }

missing_pushed : (heap_begun missing_edges 1 2).heap ≡ to_two ∷ to_nine ∷ []
unfolding push_all push edges_from linked index_of of_bits lt add sum round size units odd
    count_trailing_zeros
missing_pushed = refl

missing_run : HeapRun missing_edges 1 2 (found (1 ∷ 2 ∷ []) m30)
unfolding push_all push edges_from linked index_of of_bits lt eq is_nan is_negative add sum round size units odd count_trailing_zeros
missing_run =
    fresh (pops to_nine (to_two ∷ to_nine ∷ []) (to_two ∷ []) (later first) refl) (eqb-false 9 2 refl) refl
    (reached (pops to_two (to_two ∷ []) [] first refl) refl (back refl))

-- the same chains of link records; a single lane is none
chains : (is_chain four_links 1 4 (1 ∷ 3 ∷ 4 ∷ []) ≡ true) × (is_chain (link 1 0 1 ∷ []) 1 1 (1 ∷ 1 ∷ []) ≡ true)
    × (is_chain [] 1 1 (1 ∷ 1 ∷ []) ≡ false) × (is_chain (link 1 0 1 ∷ []) 1 1 (1 ∷ []) ≡ false)
unfolding is_chain leads_to has_link
chains = (refl, refl, refl, refl)

-- a search that opens only the start lane finds none there, and the chain that it could then invent is none of link records
only_the_start :
    (searched f32_costs (lane_number four_lanes) (λ (u : ℕ). cond (eqb u 0) (out four_graph u) []) 256 4 0 3 ≡ refused)
    × (is_chain four_links 1 4 (1 ∷ 4 ∷ []) ≡ false)
unfolding searched run settled expanded relaxed least_open marked rebuild blank edges out is_chain leads_to has_link of_bits lt add sum round
    size units
    odd count_trailing_zeros
only_the_start = (refl, refl)

costs : (chain_cost (1 ∷ 2 ∷ 3 ∷ 4 ∷ []) (m8 ∷ m8 ∷ m8 ∷ m8 ∷ []) four_links (1 ∷ 3 ∷ 4 ∷ []) ≡ m16)
    × (chain_cost (1 ∷ 2 ∷ []) (m32 ∷ m8 ∷ []) (link 1 0 2 ∷ link 1 2 2 ∷ []) (1 ∷ 2 ∷ []) ≡ m30)
unfolding chain_cost add_steps step_cost has_link index_of of_bits lt add sum round size units odd
    count_trailing_zeros
costs = (refl, refl)
