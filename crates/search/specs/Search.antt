-- The search for a cheapest chain of lanes: `Search`, `lane_path` and `reconstruct` of route.rs, with arrays for its maps and its heap.
-- A lane is its row in the plan's tables. Costs are of any type: what the search asks of them stands in crate optimality.
use Rattle.std.specs.Prelude.{Bool, cond, not, ◌&&◌, ◌||◌, List, [], ◌∷◌, suc, zero, ℕ, eqb, ltb, get_or, replicate, set}

-- costs: their order, a sum, the cost of no step, and the distance of a lane without an entry
pub record Costs (C : Type 0) : Type 0 where
  pub lt : C → C → Bool
  pub add : C → C → C
  pub none : C
  pub infinite : C

-- a link out of a lane: the lane led to, and what the step costs
pub record Edge (C : Type 0) : Type 0 where
  pub to : ℕ
  pub cost : C

-- a distance, a predecessor and a mark for each lane; the mark is 1 where the lane is closed: its links are relaxed
pub record State (C : Type 0) : Type 0 where
  pub dist : List C
  pub prev : List ℕ
  pub closed : List ℕ

-- a chain of lanes and its cost, or none
pub data Result (C : Type 0) : Type 0 where
  refused : Result C
  found : List ℕ → C → Result C

module _ {C : Type 0} (K : Costs C) where
  abbrev pub dist_of : State C → ℕ → C
  dist_of s v = get_or s.dist v K.infinite

  -- no lane has an entry, the start neither
  unfoldable pub blank : ℕ → State C
  blank size = record { dist = replicate size K.infinite; prev = replicate size 0; closed = replicate size 0 }

  -- lane v is reached from u at the cost d: kept only where d is less than what stands
  unfoldable pub relaxed : ℕ → ℕ → C → State C → State C
  relaxed u v d s =
      cond (K.lt d (dist_of s v)) (record { dist = set s.dist v d; prev = set s.prev v u; closed = s.closed }) s

  -- `expand`: the links out of u, which is reached at the cost c, in order
  unfoldable pub expanded : ℕ → C → List (Edge C) → State C → State C
  expanded u c [] s = s
  expanded u c (e ∷ es) s = expanded u c es (relaxed u e.to (K.add c e.cost) s)

  -- whether a lane with the mark m, the distance d and the number x is open and goes before one with the distance e and the number y:
  -- the smaller cost first, and the larger number among equals
  abbrev pub precedes : ℕ → C → ℕ → C → ℕ → Bool
  precedes m d x e y = eqb m 0 && (K.lt d K.infinite && (K.lt d e || (not (K.lt e d) && ltb y x)))

  -- of the lanes below k, the open one that goes before every other; `size`, the length of the lists, where none is open
  unfoldable pub least_open : (ℕ → ℕ) → ℕ → State C → ℕ → ℕ
  least_open num size s zero = size
  least_open num size s (suc k) =
      let b = least_open num size s k in cond (precedes (get_or s.closed k 1) (dist_of s k) (num k) (dist_of s b) (num b)) k b

  unfoldable pub marked : ℕ → State C → State C
  marked u s = record { dist = s.dist; prev = s.prev; closed = set s.closed u 1 }

  unfoldable pub settled : (ℕ → List (Edge C)) → ℕ → State C → State C
  settled out u s = expanded u (dist_of s u) (out u) (marked u s)

-- `reconstruct`: the chain that the predecessors give from `cur`, which stands first in `chain`, back to the start
unfoldable pub rebuild : ℕ → List ℕ → ℕ → ℕ → List ℕ → List ℕ
rebuild zero prev start cur chain = chain
rebuild (suc k) prev start cur chain =
    let p = get_or prev cur 0 in
    let more = rebuild k prev start p (p ∷ chain) in
    cond (eqb p start) (p ∷ chain) more

-- `lane_path` from the start to the goal, of n lanes with these numbers and links, in lists of length `size`
module _ {C : Type 0} (K : Costs C) (num : ℕ → ℕ) (out : ℕ → List (Edge C)) (size n start goal : ℕ) where
  unfoldable pub run : ℕ → State C → Result C
  run zero s = refused
  run (suc k) s =
      let u = least_open K num size s n in
      let next = run k (settled K out u s) in
      cond (eqb u size) refused
      (cond (eqb u goal) (found (rebuild size s.prev start goal (goal ∷ [])) (dist_of K s goal)) next)

  -- the start's links are relaxed at no cost, and it is not settled by that: a closed chain leads back to it
  unfoldable pub searched : Result C
  searched = run (suc size) (expanded K start K.none (out start) (blank K size))
