-- The search as route.rs has it: maps for distances and predecessors, and a heap of entries, in which those that are stale stay until they
-- are popped. A lane is its number, a `LaneId`. A link may lead to a lane that is missing from the plan: it is relaxed and pushed as any
-- other, its entry is popped, and `expand` finds no lane for it. That this has no effect (document 03, point 28) is proved in proofs/HeapSame.antt.
use Rattle.std.specs.Prelude.{Bool, cond, false, true, ◌≢◌, ◌≡◌, ℕ, eqb, ltb, Float, get_or, length}
use mathlib.Core.List.{List, Memᴰ, [], map, ◌++◌, ◌∷◌}
use Rattle.std.proofs.Math.Option
use Rattle.std.proofs.Math.Option.{Option, none, some}
use Rattle.std.specs.Float.{nan}
use Rattle.float.specs.Choose.{pick, total_of}
use Rattle.std.specs.declared.cmp.Ordering.{Ordering}
use Rattle.std.specs.declared.cmp.Ordering.TheVariants.{Equal, Greater, Less}
use Rattle.plan_format.specs.Plan.{index_of}
use Rattle.plan_format.specs.Records.{Link}
use Rattle.plan_format.specs.Tables.{linked}
use Rattle.search.specs.LaneGraph.{lane_change}
use Rattle.search.specs.Search.{Costs, Edge, Result, found, refused}

-- `HashMap<LaneId, A>`, by what `get` finds, and its `insert`
abbrev pub Map : Type 0 → Type 0
Map A = ℕ → Option A

abbrev pub insert : {A : Type 0} → Map A → ℕ → A → Map A
insert m k v = λ x. cond (eqb x k) (some v) (m x)

-- `State` of route.rs (the `State` of crate search is the Rust's `Search`)
pub record Entry (C : Type 0) : Type 0 where
  pub cost : C
  pub lane : ℕ

-- `Search`
pub record Frontier (C : Type 0) : Type 0 where
  pub dist : Map C
  pub prev : Map ℕ
  pub heap : List (Entry C)

-- ---- `Ord for State`
-- `usize::cmp`
abbrev pub compare_numbers : ℕ → ℕ → Ordering
compare_numbers m n = pick (ltb m n) Less (pick (ltb n m) Greater Equal)

-- `then_with`
abbrev pub then_with : Ordering → Ordering → Ordering
then_with Less o = Less
then_with Equal o = o
then_with Greater o = Greater

-- the smaller cost by `total_cmp` is the greater entry; among equals the larger number
abbrev pub compare_entries : Entry Float → Entry Float → Ordering
compare_entries a b = then_with (total_of b.cost a.cost) (compare_numbers a.lane b.lane)

-- ---- the heap
-- e is taken out of a heap, which leaves another
pub data Taken {C : Type 0} (e : Entry C) : List (Entry C) → List (Entry C) → Type 0 where
  first : {xs : List (Entry C)} → Taken e (e ∷ xs) xs
  later : {x : Entry C} {xs ys : List (Entry C)} → Taken e xs ys → Taken e (x ∷ xs) (x ∷ ys)

-- `pop`: e is a greatest entry
pub record Pops {C : Type 0} (cmp : Entry C → Entry C → Ordering) (heap : List (Entry C)) (e : Entry C) (rest : List (Entry C)) : Type 0 where
  pub taken : Taken e heap rest
  pub greatest : (x : Entry C) → Memᴰ x heap → cmp x e ≢ Greater

-- ---- the edges that `expand` goes through
-- one to the lane t at the cost w
abbrev pub toward : Float → ℕ → Edge Float
toward w t = record { to = t; cost = w }

-- over lanes with these numbers and lengths and over their link records. Where `net.lane` finds x: its successors at its length, then its
-- neighbours at `LANE_CHANGE_COST`, each in file order and missing or not. Where it does not: none
unfoldable pub edges_from : List ℕ → List Float → List Link → ℕ → List (Edge Float)
edges_from numbers lengths links x =
    let row = index_of x numbers 0 256 in
    let step = get_or lengths row nan in
    cond (ltb row (length numbers)) (map (toward step) (linked links x 0) ++ map (toward lane_change) (linked links x 2)) []

-- `reconstruct`: `prev[&cur]`, which has to be there, goes before the chain, until it is the start
pub data Rebuilds {C : Type 0} (f : Frontier C) (start : ℕ) : ℕ → List ℕ → List ℕ → Type 0 where
  back : {cur : ℕ} {chain : List ℕ} → f.prev cur ≡ some start → Rebuilds f start cur chain (start ∷ chain)
  further : {cur p : ℕ} {chain l : List ℕ} → f.prev cur ≡ some p → p ≢ start → Rebuilds f start p (p ∷ chain) l
      → Rebuilds f start cur chain l

-- ---- the loop
module _ {C : Type 0} (K : Costs C) where
  abbrev pub front : Map C → Map ℕ → List (Entry C) → Frontier C
  front dist prev heap = record { dist = dist; prev = prev; heap = heap }

  -- `*dist.get(&x).unwrap_or(&f32::INFINITY)`
  abbrev pub dist_at : Frontier C → ℕ → C
  dist_at f x = Option.get_or (f.dist x) K.infinite

  -- `expand`: one edge, which reaches v from u at the cost d, and all of them
  unfoldable pub push : ℕ → ℕ → C → Frontier C → Frontier C
  push u v d f =
      let improves = K.lt d (dist_at f v) in
      cond improves (front (insert f.dist v d) (insert f.prev v u) (record { cost = d; lane = v } ∷ f.heap)) f

  unfoldable pub push_all : ℕ → C → List (Edge C) → Frontier C → Frontier C
  push_all u c [] f = f
  push_all u c (e ∷ es) f = push_all u c es (push u e.to (K.add c e.cost) f)

  -- a popped entry is stale where its lane has a smaller distance
  abbrev pub is_stale : Frontier C → Entry C → Bool
  is_stale f e = K.lt (dist_at f e.lane) e.cost

  -- the frontier without the popped entry
  abbrev pub skipped : Frontier C → List (Entry C) → Frontier C
  skipped f rest = front f.dist f.prev rest

  module _ (cmp : Entry C → Entry C → Ordering) (edges : ℕ → List (Edge C)) (start goal : ℕ) where
    -- and with its lane expanded
    abbrev pub expanded_from : Frontier C → Entry C → List (Entry C) → Frontier C
    expanded_from f e rest = push_all e.lane e.cost (edges e.lane) (skipped f rest)

    -- the loop of `lane_path`, from a frontier to an answer
    pub data Runs : Frontier C → Result C → Type 0 where
      empty : {f : Frontier C} → f.heap ≡ [] → Runs f refused
      reached : {f : Frontier C} {e : Entry C} {rest : List (Entry C)} {chain : List ℕ} → Pops cmp f.heap e rest → e.lane ≡ goal
          → Rebuilds f start goal (goal ∷ []) chain → Runs f (found chain e.cost)
      stale : {f : Frontier C} {e : Entry C} {rest : List (Entry C)} {r : Result C} → Pops cmp f.heap e rest → e.lane ≢ goal
          → is_stale f e ≡ true → Runs (skipped f rest) r → Runs f r
      fresh : {f : Frontier C} {e : Entry C} {rest : List (Entry C)} {r : Result C} → Pops cmp f.heap e rest → e.lane ≢ goal
          → is_stale f e ≡ false → Runs (expanded_from f e rest) r → Runs f r

    -- the loop ends, whichever of several greatest entries is popped, and where that is the goal's, `reconstruct` finds each predecessor
    pub data Ends : Frontier C → Type 0 where
      ends : {f : Frontier C}
          → ((e : Entry C) (rest : List (Entry C)) → Pops cmp f.heap e rest → e.lane ≡ goal
          → (chain : List ℕ) × Rebuilds f start goal (goal ∷ []) chain)
          → ((e : Entry C) (rest : List (Entry C)) → Pops cmp f.heap e rest → e.lane ≢ goal → is_stale f e ≡ true
          → Ends (skipped f rest))
          → ((e : Entry C) (rest : List (Entry C)) → Pops cmp f.heap e rest → e.lane ≢ goal → is_stale f e ≡ false
          → Ends (expanded_from f e rest))
          → Ends f

    -- where it begins: no entries, `Search::default()`, and the start expanded at no cost
    abbrev pub begun : Frontier C
    begun = push_all start K.none (edges start) (front (λ x. none) (λ x. none) [])

    -- a run from f ends with r and none with anything else, whichever of several greatest entries is popped
    pub record Gives (f : Frontier C) (r : Result C) : Type 0 where
      pub runs : Runs f r
      pub only : {other : Result C} → Runs f other → other ≡ r
      pub ends : Ends f

-- an answer by rows, with the numbers of its lanes
abbrev pub numbered : {C : Type 0} → (ℕ → ℕ) → Result C → Result C
numbered num refused = refused
numbered num (found chain cost) = found (map num chain) cost
