-- Document 01, "The reader's chains": chains of link records and what they cost. Lanes go by their numbers; nothing here is of
-- the search.
use Rattle.std.specs.Prelude.{Bool, cond, false, true, ◌&&◌, ◌||◌, List, [], map, ◌∷◌, ◌≡◌, ℕ, ◌≤◌, eqb, Float, get_or, length}
use Rattle.std.specs.Float.Ieee.{add, le, lt, of_bits}
use Rattle.std.specs.Float.{binary32, nan}
use Rattle.geometry.specs.Polyline.{arc_length}
use Rattle.plan_format.specs.Plan.{Plan, index_of, number_of}
use Rattle.plan_format.specs.Records.{Lane, Link}
use Rattle.tables.specs.LaneTables.{cumulative_row}

-- there is a link record of this role from lane u to lane v
unfoldable pub has_link : List Link → ℕ → ℕ → ℕ → Bool
has_link [] role u v = false
has_link (x ∷ xs) role u v = (eqb x.from u && (eqb x.role role && eqb x.to v)) || has_link xs role u v

-- a step of a chain: a link record of role 0, successor, or 2, neighbour
abbrev pub is_step : List Link → ℕ → ℕ → Bool
is_step links u v = has_link links 0 u v || has_link links 2 u v

-- from u through the lanes that follow, step by step, to the goal
unfoldable pub leads_to : List Link → ℕ → ℕ → List ℕ → Bool
leads_to links goal u [] = eqb u goal
leads_to links goal u (v ∷ vs) = is_step links u v && leads_to links goal v vs

-- a chain of links: a list of two or more lanes, from the start to the goal; a lane may stand again
unfoldable pub is_chain : List Link → ℕ → ℕ → List ℕ → Bool
is_chain links start goal [] = false
is_chain links start goal (u ∷ []) = false
is_chain links start goal (u ∷ (v ∷ vs)) = eqb u start && leads_to links goal u (v ∷ vs)

-- 30, what a step of role 2 costs
abbrev pub change_cost : Float
change_cost = of_bits binary32 0x41f00000

-- the plan's lanes have these numbers and, in the same order, these f32 lengths
module _ (numbers : List ℕ) (lengths : List Float) (links : List Link) where
  abbrev pub lane_length : ℕ → Float
  lane_length u = get_or lengths (index_of u numbers 0 256) nan

  -- a step costs the length of the lane left for role 0 and 30 for role 2, the cheaper where both stand
  unfoldable pub step_cost : ℕ → ℕ → Float
  step_cost u v =
      cond (has_link links 0 u v)
      (cond (has_link links 2 u v) (cond (lt change_cost (lane_length u)) change_cost (lane_length u)) (lane_length u))
      change_cost

  -- a chain's cost adds its steps in f32, first to last, from 0
  unfoldable pub add_steps : Float → ℕ → List ℕ → Float
  add_steps c u [] = c
  add_steps c u (v ∷ vs) = add_steps (add binary32 c (step_cost u v)) v vs

  unfoldable pub chain_cost : List ℕ → Float
  chain_cost [] = of_bits binary32 0
  chain_cost (u ∷ vs) = add_steps (of_bits binary32 0) u vs

  -- what an answer owes, `ok` or refused, for all chains however long
  pub record Optimal (start goal : ℕ) (ok : Bool) (chain : List ℕ) (cost : Float) : Type 0 where
    pub is_chain_law : ok ≡ true → is_chain links start goal chain ≡ true
    pub cost_is : ok ≡ true → cost ≡ chain_cost chain
    pub least : ok ≡ true → (other : List ℕ) → is_chain links start goal other ≡ true → le cost (chain_cost other) ≡ true
    -- a list of 257 lanes, as `plan-run` lends, holds it
    pub fits : ok ≡ true → length chain ≤ 257
    pub refused : ok ≡ false → (other : List ℕ) → is_chain links start goal other ≡ false

-- ---- for a plan
-- the numbers of its lanes and their f32 lengths, in file order
abbrev pub numbers_of : Plan → List ℕ
numbers_of p = map number_of p.lanes

abbrev pub length_of : Lane → Float
length_of l = arc_length (cumulative_row l)

abbrev pub lengths_of : Plan → List Float
lengths_of p = map length_of p.lanes

abbrev pub chain_cost_in : Plan → List ℕ → Float
chain_cost_in p chain = chain_cost (numbers_of p) (lengths_of p) p.links chain

abbrev pub OptimalIn : Plan → ℕ → ℕ → Bool → List ℕ → Float → Type 0
OptimalIn p start goal ok chain cost = Optimal (numbers_of p) (lengths_of p) p.links start goal ok chain cost
