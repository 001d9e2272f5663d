-- Laws of the search's loops: the rest of a loop, run from the state now, gives what the whole loop gives from the first state.
use Rattle.std.specs.Prelude.{Bool, cond, not, ◌&&◌, ◌||◌, List, [], ◌++◌, ◌∷◌, ◌⊎◌, ◌≢◌, refl, ◌≡◌, ltb, Float, replicate, set, map}
use Rattle.std.specs.Prelude.{Option, Some, None, IfSome, unwrap_or, reverse}
use Rattle.std.proofs.Math.Bool.{false, true}
use Rattle.std.proofs.Common.{inl, inr, ◌∙◌, add-one}
use Rattle.std.proofs.Math.Path.{ap, sym}
use Prim.Native.Nat.{suc, zero, ℕ, ◌+◌, ◌-◌, ◌<◌, ◌≤◌}
use native.Mathlib.Omega.{arith}
use Rattle.std.proofs.Math.Dec.{eqb}
use Rattle.std.specs.Float.Ieee.{add, lt, nan, of_bits}
use Rattle.std.specs.Float.{binary32, inf}
use Rattle.std.proofs.Math.ListN.{get_or-eq_default, get_or}
use Rattle.std.proofs.lemmas.List.{get_or-map, map-set, reverse-append}
use borrow.Author.Tests.{eq-eqb, le-ltb, lt-ltb, ne_eqb}
use Rattle.plan_format.specs.Laws.{get_d_any}
use Rattle.rows.specs.Rows.{first_link, first_neighbour, lane_number, leads_to, neighbours, successors}
use Rattle.search.specs.declared.graph.Graph.{Graph}
use Rattle.search.specs.declared.state.Search.{Search}
use Rattle.search.specs.Search.{Edge, Result, State, blank, dist_of, expanded, found, least_open, marked, precedes, rebuild, refused}
use Rattle.search.specs.Search.{relaxed, run, searched, settled}
use Rattle.search.specs.LaneGraph.{LaneGraph, edges, expanded_in, f32_costs, lane_change}
use Rattle.search.specs.LaneGraph.{length_of, out, searched_in, settled_in}
use Rattle.search.specs.Structs.{graph_of, least_in, mark, state_of}

-- no lane is closed
pub marks_none : (n : ℕ) → map mark (replicate n false) ≡ replicate n 0
marks_none zero = refl
marks_none (suc n) = ap (λ (ms : List ℕ). 0 ∷ ms) (marks_none n)

-- the distance of a lane without an entry, as the code writes it
pub unreached_is : of_bits binary32 0x7f800000 ≡ inf false
unfolding of_bits
unreached_is = refl

pub replicate_all : {C : Type 0} (n i : ℕ) (a : C) → get_or (replicate n a) i a ≡ a
replicate_all zero i a = refl
replicate_all (suc n) zero a = refl
replicate_all (suc n) (suc i) a = replicate_all n i a

-- a store of a number below b among numbers below b
pub set_below : (b : ℕ) (l : List ℕ) (i v : ℕ) → ((k : ℕ) → get_or l k 0 < b) → v < b → (k : ℕ) → get_or (set l i v) k 0 < b
set_below b [] i v h hv k = h k
set_below b (x ∷ xs) zero v h hv zero = hv
set_below b (x ∷ xs) zero v h hv (suc k) = h (suc k)
set_below b (x ∷ xs) (suc i) v h hv zero = h zero
set_below b (x ∷ xs) (suc i) v h hv (suc k) = set_below b xs i v (λ j. h (suc j)) hv k

-- ---- `relax_links`
-- its rows, from `first` to before `end`, and what they are relaxed with
pub record LinkRows : Type 0 where
  pub links : List ℕ
  pub count : ℕ
  pub lane : ℕ
  pub cost : Float
  pub step : Float
  pub first : ℕ
  pub end : ℕ

abbrev pub link_rows : List ℕ → ℕ → ℕ → Float → Float → ℕ → ℕ → LinkRows
link_rows links count lane cost step first end =
    record { links = links; count = count; lane = lane; cost = cost; step = step; first = first; end = end }

-- the rows from `at` on relaxed
abbrev pub expanded_from : LinkRows → ℕ → State Float → State Float
expanded_from X at s = expanded f32_costs X.lane X.cost (edges X.links X.count X.step at (X.end - at)) s

module _ (X : LinkRows) (at : ℕ) (s : State Float) where
  abbrev next : ℕ
  next = leads_to X.links at

  pub relaxed_all : X.end ≤ at → expanded_from X at s ≡ s
  unfolding edges expanded
  relaxed_all h = let e : X.end - at ≡ 0 = omega arith in rw e

  -- a row that leads to no lane
  pub relaxed_none : at < X.end → X.count ≤ next → expanded_from X (at + 1) s ≡ expanded_from X at s
  unfolding edges
  relaxed_none l h = let e : X.end - at ≡ suc (X.end - (at + 1)) = omega arith in rw (e, le-ltb next X.count h)

  pub relaxed_one : at < X.end → next < X.count
      → expanded_from X (at + 1) (relaxed f32_costs X.lane next (add binary32 X.cost X.step) s) ≡ expanded_from X at s
  unfolding edges expanded
  relaxed_one l h = let e : X.end - at ≡ suc (X.end - (at + 1)) = omega arith in rw (e, lt-ltb next X.count h)

-- ---- `expand`: the successors, then the neighbours
expanded_append : (u : ℕ) (c : Float) (xs ys : List (Edge Float)) (s : State Float)
    → expanded f32_costs u c (xs ++ ys) s ≡ expanded f32_costs u c ys (expanded f32_costs u c xs s)
unfolding expanded
expanded_append u c [] ys s = refl
expanded_append u c (e ∷ xs) ys s = expanded_append u c xs ys (relaxed f32_costs u e.to (add binary32 c e.cost) s)

module _ (G : LaneGraph) (u : ℕ) (cost : Float) where
  abbrev pub successors_relaxed : State Float → State Float
  successors_relaxed s =
      let first = first_link G.fans u in
      expanded_from (link_rows G.links G.count u cost (length_of G u) first (first + successors G.fans u)) first s

  abbrev pub neighbours_relaxed : State Float → State Float
  neighbours_relaxed s =
      let first = first_neighbour G.fans u in
      expanded_from (link_rows G.links G.count u cost lane_change first (first + neighbours G.fans u)) first s

  pub expanded_out : (s : State Float) → neighbours_relaxed (successors_relaxed s) ≡ expanded_in G u cost s
  unfolding out
  expanded_out s =
      rw (back (first_link G.fans u) (successors G.fans u), back (first_neighbour G.fans u) (neighbours G.fans u))
      (sym (expanded_append u cost
      (edges G.links G.count (length_of G u) (first_link G.fans u) (successors G.fans u))
      (edges G.links G.count lane_change (first_neighbour G.fans u) (neighbours G.fans u)) s))
    where
      back : (a b : ℕ) → a + b - a ≡ b
      back a b = omega arith

-- ---- `least`
-- the row of the best lane so far, 256 where there is none
abbrev pub row_of : Option ℕ → ℕ
row_of best = unwrap_or best 256

pub record Scan (lanes : List ℕ) (s : Search) (i : ℕ) (best : Option ℕ) (cost : Float) (number : ℕ) : Type 0 where
  pub is : row_of best ≡ least_open f32_costs (lane_number lanes) 256 (state_of s) i
  pub within : IfSome best (λ u. u < i)
  pub cost_is : cost ≡ dist_of f32_costs (state_of s) (row_of best)
  pub number_is : (row_of best ≡ 256) ⊎ (number ≡ lane_number lanes (row_of best))

-- against a lane without an entry the numbers do not matter
precedes_unreached : (m : ℕ) (d : Float) (x y z : ℕ) → precedes f32_costs m d x (inf false) y ≡ precedes f32_costs m d x (inf false) z
precedes_unreached m d x y z = go (lt d (inf false))
  where
    go : (b : Bool)
        → (eqb m 0 && (b && (b || (not (lt (inf false) d) && ltb y x)))) ≡ (eqb m 0 && (b && (b || (not (lt (inf false) d) && ltb z x))))
    go true = refl
    go false = refl

module _ (lanes : List ℕ) (s : Search) (i : ℕ) (best : Option ℕ) (cost : Float) (number : ℕ) (S : Scan lanes s i best cost number)
    (l : i < 256) (b : Bool)
    (e : b ≡ precedes f32_costs (mark (get_or s.closed i false)) (get_or s.dist i nan) (lane_number lanes i) cost number) where
  dist_at_law : get_or s.dist i nan ≡ dist_of f32_costs (state_of s) i
  dist_at_law = get_d_any s.dist i nan (inf false) (omega (arith, s.dists))

  mark_at_law : mark (get_or s.closed i false) ≡ get_or (map mark s.closed) i 1
  mark_at_law = sym (get_or-map mark s.closed i false 1 (omega (arith, s.marks)))

  -- the test of the definition
  abbrev test : ℕ → Bool
  test y =
      precedes f32_costs (get_or (map mark s.closed) i 1) (dist_of f32_costs (state_of s) i) (lane_number lanes i)
      (dist_of f32_costs (state_of s) (row_of best)) y

  test_is : (row_of best ≡ 256) ⊎ (number ≡ lane_number lanes (row_of best)) → test number ≡ test (lane_number lanes (row_of best))
  test_is (inr q) = ap test q
  test_is (inl q) =
      let far : dist_of f32_costs (state_of s) (row_of best) ≡ inf false = get_or-eq_default s.dist (inf false) (omega (arith, s.dists)) in
      rw far (precedes_unreached (get_or (map mark s.closed) i 1) (dist_of f32_costs (state_of s) i) (lane_number lanes i) number
      (lane_number lanes (row_of best)))

  scanned : cond b i (row_of best) ≡ least_open f32_costs (lane_number lanes) 256 (state_of s) (i + 1)
  unfolding least_open
  scanned =
      let t : b ≡ test (lane_number lanes (row_of best)) = rw (e, mark_at_law, dist_at_law, S.cost_is) (test_is S.number_is) in
      rw (add-one, t, S.is)

  pub scan_takes : b ≡ true → Scan lanes s (i + 1) (Some i) (get_or s.dist i nan) (lane_number lanes i)
  scan_takes t =
      record {
        is = ap (λ (y : Bool). cond y i (row_of best)) (sym t) ∙ scanned;
        within = omega arith;
        cost_is = dist_at_law;
        number_is = inr refl;
      }

  pub scan_skips : b ≡ false → Scan lanes s (i + 1) best cost number
  scan_skips t =
      record {
        is = ap (λ (y : Bool). cond y i (row_of best)) (sym t) ∙ scanned;
        within = later best S.within;
        cost_is = S.cost_is;
        number_is = S.number_is;
      }
    where
      later : (o : Option ℕ) → IfSome o (λ u. u < i) → IfSome o (λ u. u < i + 1)
      later None h = tt
      later (Some u) h = omega arith

pub scan_starts : (lanes : List ℕ) (s : Search) → Scan lanes s 0 None (inf false) 0
unfolding least_open
scan_starts lanes s =
    record { is = refl; within = tt; cost_is = sym (get_or-eq_default s.dist (inf false) (omega (arith, s.dists))); number_is = inl refl }

-- a lane below the count, or none
pub least_below : (lanes : List ℕ) (s : State Float) (k : ℕ) → least_open f32_costs (lane_number lanes) 256 s k ≢ 256
    → least_open f32_costs (lane_number lanes) 256 s k < k
unfolding least_open
least_below lanes s zero h = absurd (h refl)
least_below lanes s (suc k) h =
    go (precedes f32_costs (get_or s.closed k 1) (dist_of f32_costs s k) (lane_number lanes k) (dist_of f32_costs s b) (lane_number lanes b))
    (least_below lanes s k) h
  where
    b : ℕ
    b = least_open f32_costs (lane_number lanes) 256 s k

    go : (t : Bool) → (b ≢ 256 → b < k) → cond t k b ≢ 256 → cond t k b < suc k
    go true i h = omega arith
    go false i h = omega (arith, i h)

-- ---- `find`
module _ (g : Graph) (goal : ℕ) where
  abbrev pub run_from : ℕ → ℕ → State Float → Result Float
  run_from start k s = run f32_costs (lane_number g.lanes.now) (out (graph_of g)) 256 g.count start goal k s

  -- what the definition answers where the search ends at the goal in a state, or without it
  abbrev pub outcome : Option Search → ℕ → Result Float
  outcome None start = refused
  outcome (Some s) start = found (rebuild 256 s.prev start goal (goal ∷ [])) (dist_of f32_costs (state_of s) goal)

  -- where the search ends, for every start
  abbrev pub Found : Search → Option Search → Type 0
  Found s₀ r = (start : ℕ) → outcome r start ≡ run_from start 257 (state_of s₀)

  -- a turn of the search from the state s
  module _ (start k : ℕ) (s : State Float) where
    pub run_none : least_in g s ≡ 256 → run_from start (suc k) s ≡ refused
    unfolding run
    run_none h = rw (eq-eqb (least_in g s) 256 h)

    pub run_goal : least_in g s ≢ 256 → least_in g s ≡ goal
        → run_from start (suc k) s ≡ found (rebuild 256 s.prev start goal (goal ∷ [])) (dist_of f32_costs s goal)
    unfolding run
    run_goal h e = rw (ne_eqb (least_in g s) 256 h, eq-eqb (least_in g s) goal e)

    pub run_next : least_in g s ≢ 256 → least_in g s ≢ goal
        → run_from start (suc k) s ≡ run_from start k (settled_in (graph_of g) (least_in g s) s)
    unfolding run
    run_next h e = rw (ne_eqb (least_in g s) 256 h, ne_eqb (least_in g s) goal e)

  pub run_spent : (start : ℕ) (s : State Float) → run_from start 0 s ≡ refused
  unfolding run
  run_spent start s = refl

-- the search from a start whose links are relaxed
pub searched_is : (g : Graph) (start goal : ℕ) (s : State Float)
    → s ≡ expanded_in (graph_of g) start (of_bits binary32 0) (blank f32_costs 256)
    → run_from g goal start 257 s ≡ searched_in g.lanes.now (graph_of g) start goal
unfolding searched
searched_is g start goal s e = ap (run_from g goal start 257) e

-- ---- `reconstruct`
-- what is left adds to the lanes on the way back what the whole adds to the goal
pub rebuilt_whole : (prev : List ℕ) (start cur : ℕ) (back chain : List ℕ) → rebuild 0 prev start cur (reverse back) ≡ chain → reverse back ≡ chain
unfolding rebuild
rebuilt_whole prev start cur back chain e = e

module _ (prev : List ℕ) (start cur k : ℕ) (back chain : List ℕ) (e : rebuild (suc k) prev start cur (reverse back) ≡ chain) where
  abbrev before : ℕ
  before = get_or prev cur 0

  turned : reverse (back ++ (before ∷ [])) ≡ before ∷ reverse back
  turned = reverse-append back (before ∷ [])

  pub rebuilt_here : before ≡ start → reverse (back ++ (before ∷ [])) ≡ chain
  unfolding rebuild
  rebuilt_here h = turned ∙ (rw (eq-eqb before start h) at e)

  pub rebuilt_next : before ≢ start → rebuild k prev start before (reverse (back ++ (before ∷ []))) ≡ chain
  unfolding rebuild
  rebuilt_next h = ap (rebuild k prev start before) turned ∙ (rw (ne_eqb before start h) at e)

-- ---- `settle`
pub marked_is : (s : Search) (u : ℕ) → map mark (set s.closed u true) ≡ set (map mark s.closed) u 1
marked_is s u = map-set mark s.closed u true

pub settled_expanded : (G : LaneGraph) (u : ℕ) (s : Search) → u < 256
    → expanded_in G u (get_or s.dist u nan) (marked f32_costs u (state_of s)) ≡ settled_in G u (state_of s)
unfolding settled
settled_expanded G u s l = rw (get_d_any s.dist u nan (inf false) (omega (arith, s.dists)))
