-- What the search finds over tables that hold a plan's lanes and links is optimal among all chains of link records (`optimal`), and what the
-- heap form gives over these records (`heap_chain`).
use mathlib.Core.Bool.{Bool, cond, false, true, true≢false, ◌&&◌, ◌||◌}
use mathlib.Core.List.Memᴰ
use mathlib.Core.List.{List, Memᴰ, append-nil, map, []}
use mathlib.Core.List.{◌++◌, ◌∷◌}
use mathlib.Core.Logic.{inl, inr, ⊎_elim, ◌⊎◌}
use mathlib.Core.Path.{ap, ap₂, refl, subst, sym, ◌∙◌, ◌≡◌}
use Prim.Native.Nat.{suc, ℕ, ◌*◌, ◌+◌, ◌^◌, ◌<◌, ◌≤◌}
use native.Mathlib.Nat.{le_antisymm, le_refl, mul-le-mul_right}
use native.Mathlib.Omega.{arith}
use lib.Dec.{T, eqb, ltb, lit≤}
use lib.Ieee.{Float, add, binary32, eq, fits, inf, le, lt, nan, of_bits}
use lib.ListN.{get_or, length, length-map}
use borrow.Author.Tests.{eq-eqb, eqb-true, le-ltb, lt-ltb, ltb-false, ltb-true}
use Rattle.exact.specs.Fractions.{eq_units}
use Rattle.exact.specs.Sums.{Cost, LinkCost, cost_lt, cost_unique, link_cost, link_cost_finite, up_to}
use Rattle.exact.specs.Values.{U, U_pos, size_of}
use Rattle.plan_format.specs.Laws.{and_both, and_fst, and_snd}
use Rattle.plan_format.specs.Plan.{index_of, repeats}
use Rattle.plan_format.specs.Records.{Link}
use Rattle.plan_format.specs.Tables.{linked}
use Rattle.rows.specs.Rows.{first_link, first_neighbour, lane_number, neighbours, successors}
use Rattle.rows.specs.Rows as rows
use Rattle.search.specs.LaneGraph.{LaneGraph, edges, f32_costs, lane_change, length_of, out, searched_in}
use Rattle.search.specs.Search.{Edge, Result, found, refused}
use Rattle.optimality.specs.Chains.{Optimal, add_steps, chain_cost, has_link, is_chain, is_step, lane_length, leads_to, step_cost}
use Rattle.optimality.proofs.Correct.{search_correct}
use Rattle.optimality.specs.Heap.{Gives, begun, compare_entries, edges_from, numbered, toward}
use Rattle.optimality.proofs.HeapMatch.{Numbering, Restricts, kept}
use Rattle.optimality.proofs.HeapOrder.{entries_ordered}
use Rattle.optimality.proofs.HeapSame.{heap_gives}
use Rattle.optimality.proofs.Invariant.{Linking}
use Rattle.optimality.proofs.Laws.{f32_laws}
use Rattle.optimality.proofs.Rows.{ChainsOk, Tabled, cheapest_steps, edges_are, number_at, or_right, row, row_below, row_link_law}
use Rattle.optimality.proofs.Rows.{row_number, row_link, steps_are, steps_linked, steps_to}
use Rattle.optimality.proofs.Walks.{Correct, IsWalk, Linked, Walk, cheapest, cost_from, walk_cost_law, walk_cost}

-- ---- costs
change_cost_law : LinkCost lane_change
unfolding of_bits fits
change_cost_law = up_to (2 ^ 27 * U) (30 * U) lane_change tt (refl, value U) (mul-le-mul_right U (lit≤ tt))
  where
    value : (u : ℕ) → 15 * 2 * u ≡ 30 * u * 1
    value u = omega arith

equal_itself : (a : Float) → Cost a → eq a a ≡ true
unfolding eq
equal_itself a (inl p) = rw p refl
equal_itself a (inr p) =
    eq_units false false (size_of a) (size_of a) U U_pos a a p.value p.value ∙ rw (eq-eqb (size_of a) (size_of a) refl) refl

-- costs of no greater size are no greater
cost_le : (a b : Float) → Cost a → Cost b → size_of a ≤ size_of b → le a b ≡ true
unfolding le
cost_le a b p q h = go (ltb (size_of a) (size_of b)) refl
  where
    go : (t : Bool) → ltb (size_of a) (size_of b) ≡ t → (lt a b || eq a b) ≡ true
    go true e = rw (cost_lt a b p q, e) refl
    go false e =
        let same : a ≡ b = cost_unique a b p q (le_antisymm h (ltb-false _ _ e)) in
        rw (cost_lt a b p q, e) (ap (eq a) (sym same) ∙ equal_itself a p)

not_less_itself : (w : Float) → LinkCost w → lt w w ≡ false
not_less_itself w p = let c = inr (link_cost w p) in cost_lt w w c c ∙ le-ltb (size_of w) (size_of w) (le_refl (size_of w))

-- the smaller of two costs, asked either way
either_way : (a b : Float) → Cost a → Cost b → cond (lt a b) a b ≡ cond (lt b a) b a
either_way a b p q = go (lt a b) (lt b a) refl refl
  where
    go : (x y : Bool) → lt a b ≡ x → lt b a ≡ y → cond x a b ≡ cond y b a
    go true true e f =
        absurd (no (size_of a) (size_of b) (ltb-true _ _ (sym (cost_lt a b p q) ∙ e)) (ltb-true _ _ (sym (cost_lt b a q p) ∙ f)))
      where
        no : (m n : ℕ) → m < n → n < m → ⊥
        no m n h k = omega arith
    go true false e f = refl
    go false true e f = refl
    go false false e f =
        cost_unique b a q p (le_antisymm (ltb-false _ _ (sym (cost_lt a b p q) ∙ e)) (ltb-false _ _ (sym (cost_lt b a q p) ∙ f)))

-- ---- tests
and_true : (a b : Bool) → (a && b) ≡ true → (a ≡ true) × (b ≡ true)
and_true a b e = (and_fst a b e, and_snd a b e)

or_cases : (a b : Bool) → (a || b) ≡ true → (a ≡ true) ⊎ (b ≡ true)
or_cases true b e = inl refl
or_cases false b e = inr e

or_left : (a b : Bool) → a ≡ true → (a || b) ≡ true
or_left a b p = ap (λ (x : Bool). x || b) p

-- ---- edges
-- those of a role, which lead to these numbers, by their rows
kept_steps : (numbers : List ℕ) (few : length numbers ≤ 256) (distinct : repeats numbers ≡ false) (w : Float) (ts : List ℕ)
    → kept (length numbers) (row numbers few) (map (toward w) ts) ≡ steps_to numbers few distinct w ts
unfolding kept steps_to
kept_steps numbers few distinct w [] = refl
kept_steps numbers few distinct w (t ∷ ts) = rw (kept_steps numbers few distinct w ts)

kept_append : (n : ℕ) (row_of : ℕ → ℕ) (xs ys : List (Edge Float)) → kept n row_of (xs ++ ys) ≡ kept n row_of xs ++ kept n row_of ys
unfolding kept
kept_append n row_of [] ys = refl
kept_append n row_of (x ∷ xs) ys = go (ltb (row_of x.to) n) (kept_append n row_of xs ys)
  where
    edge : Edge Float
    edge = record { to = row_of x.to; cost = x.cost }

    go : (b : Bool) → kept n row_of (xs ++ ys) ≡ kept n row_of xs ++ kept n row_of ys
        → cond b (edge ∷ kept n row_of (xs ++ ys)) (kept n row_of (xs ++ ys))
        ≡ cond b (edge ∷ kept n row_of xs) (kept n row_of xs) ++ kept n row_of ys
    go true e = ap (λ (es : List (Edge Float)). edge ∷ es) e
    go false e = e

-- a link record leaves a lane that is there
lane_left : (numbers : List ℕ) (xs : List Link) (role x y : ℕ)
    → ((i : ℕ) (d : Link) → i < length xs → index_of (get_or xs i d).from numbers 0 256 < length numbers) → has_link xs role x y ≡ true
    → index_of x numbers 0 256 < length numbers
unfolding has_link
lane_left numbers [] role x y there h = absurd (true≢false (sym h))
lane_left numbers (z ∷ zs) role x y there h =
    go (eqb z.from x) refl (lane_left numbers zs role x y (λ i d l. there (suc i) d (omega arith))) h
  where
    Here : ℕ → Type 0
    Here w = index_of w numbers 0 256 < length numbers

    go : (b : Bool) → eqb z.from x ≡ b → (has_link zs role x y ≡ true → Here x)
        → ((b && (eqb z.role role && eqb z.to y)) || has_link zs role x y) ≡ true → Here x
    go true e ih h = subst Here (eqb-true z.from x e) (there 0 z (omega arith))
    go false e ih h = ih h

module _ (numbers : List ℕ) (lengths : List Float) (links : List Link) (lanes : List ℕ) (G : LaneGraph)
    (A : ChainsOk numbers lengths links) (T : Tabled numbers lengths links lanes G) where
  abbrev n : ℕ
  n = length numbers

  abbrev N : ℕ → ℕ
  N u = number_at numbers A.few u

  abbrev R : ℕ → ℕ
  R x = row numbers A.few x

  abbrev link_at : ℕ → ℕ → ℕ → Bool
  link_at role u v = row_link numbers A.few A.distinct links role u v

  abbrev len : ℕ → Float
  len u = get_or lengths u nan

  abbrev steps_at : ℕ → ℕ → Float → List (Edge Float)
  steps_at role u w = steps_to numbers A.few A.distinct w (linked links (N u) role)

  -- ---- the links of the tables are the link records
  out_are : (u : ℕ) → u < n → out G u ≡ steps_at 0 u (len u) ++ steps_at 2 u lane_change
  unfolding out
  out_are u l = ap₂ ◌++◌ firsts lasts
    where
      of_rows : (w : Float) (ts : List ℕ) (first : ℕ)
          → ((j : ℕ) → j < length ts → rows.leads_to G.links (first + j) ≡ R (get_or ts j 0))
          → edges G.links G.count w first (length ts) ≡ steps_to numbers A.few A.distinct w ts
      of_rows w ts first h = edges_are numbers A.few A.distinct G.links G.count w ts first T.count h

      firsts : edges G.links G.count (length_of G u) (first_link G.fans u) (successors G.fans u) ≡ steps_at 0 u (len u)
      firsts =
          ap₂ (λ (w : Float) (k : ℕ). edges G.links G.count w (first_link G.fans u) k) (T.long u l) (T.successors_count u l)
          ∙ of_rows (len u) (linked links (N u) 0) (first_link G.fans u) (λ j h. T.successor_row u j l h)

      lasts : edges G.links G.count lane_change (first_neighbour G.fans u) (neighbours G.fans u) ≡ steps_at 2 u lane_change
      lasts =
          ap (λ (k : ℕ). edges G.links G.count lane_change (first_neighbour G.fans u) k) (T.neighbours_count u l)
          ∙ of_rows lane_change (linked links (N u) 2) (first_neighbour G.fans u) (λ j h. T.neighbour_row u j l h)

  of_step : (u : ℕ) → u < n → (e : Edge Float) → Memᴰ e (out G u)
      → ((link_at 0 u e.to ≡ true) ⊎ (link_at 2 u e.to ≡ true)) × LinkCost e.cost × (e.to < n)
  of_step u l e m =
      ⊎_elim
      (λ m'. let p = steps_are numbers A.few A.distinct 0 u (len u) links e m' in
      (inl p.0, subst LinkCost (sym p.1) (A.long u l), p.2))
      (λ m'. let p = steps_are numbers A.few A.distinct 2 u lane_change links e m' in
      (inr p.0, subst LinkCost (sym p.1) change_cost_law, p.2))
      (Memᴰ.append_cases (steps_at 0 u (len u)) (subst (λ (es : List (Edge Float)). Memᴰ e es) (out_are u l) m))

  lane : (u : ℕ) → u < G.count → u < n
  lane u l = subst (λ (k : ℕ). u < k) T.count l

  linking : Linking f32_costs f32_laws (out G) G.count
  unfolding f32_laws
  linking =
      record {
        costs = λ u l e m. (of_step u (lane u l) e m).1;
        inside = λ u l e m. subst (λ (k : ℕ). e.to < k) (sym T.count) (of_step u (lane u l) e m).2;
      }

  step_linked : (u v : ℕ) → u < n → v < n → is_step links (N u) (N v) ≡ true → Linked (out G u) v
  step_linked u v lu lv h = subst (λ (es : List (Edge Float)). Linked es v) (sym (out_are u lu)) (go (or_cases _ _ h))
    where
      at : (role : ℕ) (w : Float) → has_link links role (N u) (N v) ≡ true → Linked (steps_at role u w) v
      at role w p =
          steps_linked numbers A.few A.distinct role u w links v lv (row_link_law numbers A.few A.distinct links role u v lv ∙ p)

      go : (has_link links 0 (N u) (N v) ≡ true) ⊎ (has_link links 2 (N u) (N v) ≡ true)
          → Linked (steps_at 0 u (len u) ++ steps_at 2 u lane_change) v
      go (inl p) = let r = at 0 (len u) p in record { edge = r.edge; mem = Memᴰ.append_left _ r.mem; leads = r.leads }
      go (inr p) =
          let r = at 2 lane_change p in record { edge = r.edge; mem = Memᴰ.append_right (steps_at 0 u (len u)) r.mem; leads = r.leads }

  linked_inside : (u v : ℕ) → u < n → Linked (out G u) v → v < n
  linked_inside u v lu l = subst (λ (x : ℕ). x < n) l.leads (of_step u lu l.edge l.mem).2

  linked_step : (u v : ℕ) → u < n → Linked (out G u) v → is_step links (N u) (N v) ≡ true
  linked_step u v lu l = go (of_step u lu l.edge l.mem).0
    where
      at : (role : ℕ) → link_at role u l.edge.to ≡ true → has_link links role (N u) (N v) ≡ true
      at role p =
          sym (row_link_law numbers A.few A.distinct links role u v (linked_inside u v lu l))
          ∙ subst (λ (x : ℕ). link_at role u x ≡ true) l.leads p

      go : (link_at 0 u l.edge.to ≡ true) ⊎ (link_at 2 u l.edge.to ≡ true) → is_step links (N u) (N v) ≡ true
      go (inl p) = or_left (has_link links 0 (N u) (N v)) (has_link links 2 (N u) (N v)) (at 0 p)
      go (inr p) = or_right (has_link links 0 (N u) (N v)) (has_link links 2 (N u) (N v)) (at 2 p)

  -- ---- a step costs the cheapest link
  neighbour_cost : (u v : ℕ) → v < n → cheapest f32_costs (steps_at 2 u lane_change) v ≡ cond (link_at 2 u v) lane_change (inf false)
  unfolding cheapest lt of_bits
  neighbour_cost u v lv =
      ap (λ (x : List (Edge Float)). cheapest f32_costs x v) (sym (append-nil (steps_at 2 u lane_change)))
      ∙ cheapest_steps numbers A.few A.distinct 2 u lane_change [] v lv (not_less_itself lane_change change_cost_law) links ∙ go (link_at 2 u v)
    where
      go : (b : Bool) → cond (b && true) lane_change (inf false) ≡ cond b lane_change (inf false)
      go true = refl
      go false = refl

  lane_length_law : (u : ℕ) → u < n → lane_length numbers lengths links (N u) ≡ len u
  lane_length_law u l = ap len (row_number numbers A.few A.distinct u l)

  cheapest_is : (u v : ℕ) → u < n → v < n → is_step links (N u) (N v) ≡ true
      → cheapest f32_costs (out G u) v ≡ step_cost numbers lengths links (N u) (N v)
  unfolding step_cost
  cheapest_is u v lu lv h =
      ap (λ (es : List (Edge Float)). cheapest f32_costs es v) (out_are u lu)
      ∙ cheapest_steps numbers A.few A.distinct 0 u w (steps_at 2 u lane_change) v lv (not_less_itself w (A.long u lu)) links
      ∙ ap (λ (y : Float). cond (link_at 0 u v && lt w y) w y) (neighbour_cost u v lv)
      ∙ ap₂ (λ (a b : Bool). cond (a && lt w (cond b lane_change (inf false))) w (cond b lane_change (inf false))) (same 0) (same 2)
      ∙ go (has_link links 0 (N u) (N v)) (has_link links 2 (N u) (N v)) h
      ∙ ap (λ (y : Float). cond (has_link links 0 (N u) (N v)) (cond (has_link links 2 (N u) (N v)) (cond (lt lane_change y) lane_change y) y)
      lane_change) (sym (lane_length_law u lu))
    where
      w : Float
      w = len u

      cost : Cost w
      cost = inr (link_cost w (A.long u lu))

      finite : lt w (inf false) ≡ true
      finite = cost_lt w (inf false) cost (inl refl) ∙ lt-ltb (size_of w) (size_of (inf false)) (link_cost_finite w (A.long u lu))

      same : (role : ℕ) → link_at role u v ≡ has_link links role (N u) (N v)
      same role = row_link_law numbers A.few A.distinct links role u v lv

      go : (a b : Bool) → (a || b) ≡ true
          → cond (a && lt w (cond b lane_change (inf false))) w (cond b lane_change (inf false))
          ≡ cond a (cond b (cond (lt lane_change w) lane_change w) w) lane_change
      go true true p = either_way w lane_change cost (inr (link_cost lane_change change_cost_law))
      go true false p = rw finite refl
      go false true p = refl
      go false false p = absurd (true≢false (sym p))

  -- ---- the edges of `expand`, by number, are the links of the tables and those to missing lanes
  abbrev edges_at : ℕ → List (Edge Float)
  edges_at x = edges_from numbers lengths links x

  numbering : Numbering G.count (lane_number lanes) R
  numbering =
      record {
        number = λ x l. T.number (R x) (lane (R x) l) ∙ row_below numbers A.few x (lane (R x) l);
        row = λ u l. ap R (T.number u (lane u l)) ∙ row_number numbers A.few A.distinct u (lane u l);
      }

  edges_there : (u : ℕ) → u < n
      → edges_at (lane_number lanes u) ≡ map (toward (len u)) (linked links (N u) 0) ++ map (toward lane_change) (linked links (N u) 2)
  unfolding edges_from
  edges_there u l =
      let there : R (N u) < n = subst (λ (k : ℕ). k < n) (sym (row_number numbers A.few A.distinct u l)) l in
      rw (T.number u l, lt-ltb (R (N u)) n there, lane_length_law u l)

  edge_cost : (u : ℕ) → u < n → (e : Edge Float) → Memᴰ e (edges_at (lane_number lanes u)) → LinkCost e.cost
  edge_cost u l e m =
      ⊎_elim (of_role (len u) (linked links (N u) 0) (A.long u l)) (of_role lane_change (linked links (N u) 2) change_cost_law)
      (Memᴰ.append_cases (map (toward (len u)) (linked links (N u) 0))
      (subst (λ (es : List (Edge Float)). Memᴰ e es) (edges_there u l) m))
    where
      of_role : (w : Float) (ts : List ℕ) → LinkCost w → Memᴰ e (map (toward w) ts) → LinkCost e.cost
      of_role w ts c m = subst LinkCost (ap (λ (x : Edge Float). x.cost) (Memᴰ.of_map (toward w) ts m).2) c

  edges_kept : (u : ℕ) → u < n → out G u ≡ kept G.count R (edges_at (lane_number lanes u))
  edges_kept u l =
      out_are u l
      ∙ sym (ap₂ ◌++◌ (kept_steps numbers A.few A.distinct (len u) (linked links (N u) 0))
      (kept_steps numbers A.few A.distinct lane_change (linked links (N u) 2)))
      ∙ sym (kept_append n R (map (toward (len u)) (linked links (N u) 0)) (map (toward lane_change) (linked links (N u) 2)))
      ∙ ap₂ (λ (k : ℕ) (es : List (Edge Float)). kept k R es) (sym T.count) (sym (edges_there u l))

  restricts : Restricts f32_costs f32_laws G.count (lane_number lanes) R edges_at (out G)
  unfolding f32_laws edges_from
  restricts =
      record {
        costs = λ u l. edge_cost u (lane u l);
        rows = λ u l. edges_kept u (lane u l);
        missing = λ x l. rw (le-ltb (R x) n (subst (λ (k : ℕ). k ≤ R x) T.count l));
      }

  -- ---- chains of numbers are walks of rows
  step_lane : (x y : ℕ) → is_step links x y ≡ true → R x < n
  step_lane x y h =
      ⊎_elim (lane_left numbers links 0 x y A.from_there) (lane_left numbers links 2 x y A.from_there) (or_cases _ _ h)

  module _ (start goal : ℕ) (ls : start < n) (lg : goal < n) where
    to_goal : (x : ℕ) → eqb x (N goal) ≡ true → R x ≡ goal
    to_goal x h = ap R (eqb-true x (N goal) h) ∙ row_number numbers A.few A.distinct goal lg

    lane_of : (xs : List ℕ) (x : ℕ) → leads_to links (N goal) x xs ≡ true → R x < n
    unfolding leads_to
    lane_of [] x h = subst (λ (k : ℕ). k < n) (sym (to_goal x h)) lg
    lane_of (y ∷ ys) x h = step_lane x y (and_true (is_step links x y) (leads_to links (N goal) y ys) h).0

    to_walk : (xs : List ℕ) (x : ℕ) → leads_to links (N goal) x xs ≡ true → Walk (out G) goal (R x) (map R xs)
    unfolding leads_to
    to_walk [] x h = to_goal x h
    to_walk (y ∷ ys) x h =
        let p = and_true (is_step links x y) (leads_to links (N goal) y ys) h in
        let lx = step_lane x y p.0 in
        let ly = lane_of ys y p.1 in
        let q : is_step links (N (R x)) (N (R y)) ≡ true =
        ap₂ (is_step links) (row_below numbers A.few x lx) (row_below numbers A.few y ly) ∙ p.0 in
        (step_linked (R x) (R y) lx ly q, to_walk ys y p.1)

    -- the rows of a chain have its numbers
    numbers_back : (xs : List ℕ) (x : ℕ) → leads_to links (N goal) x xs ≡ true → map N (map R (x ∷ xs)) ≡ x ∷ xs
    unfolding leads_to
    numbers_back [] x h = ap (λ (y : ℕ). y ∷ []) (row_below numbers A.few x (lane_of [] x h))
    numbers_back (y ∷ ys) x h =
        let p = and_true (is_step links x y) (leads_to links (N goal) y ys) h in
        ap₂ ◌∷◌ (row_below numbers A.few x (step_lane x y p.0)) (numbers_back ys y p.1)

    of_walk : (vs : List ℕ) (u : ℕ) → u < n → Walk (out G) goal u vs → leads_to links (N goal) (N u) (map N vs) ≡ true
    unfolding leads_to
    of_walk [] u lu h = eq-eqb (N u) (N goal) (ap N h)
    of_walk (v ∷ vs) u lu h =
        and_both (is_step links (N u) (N v)) _ (linked_step u v lu h.0) (of_walk vs v (linked_inside u v lu h.0) h.1)

    cost_rows : (vs : List ℕ) (u : ℕ) (c : Float) → u < n → Walk (out G) goal u vs
        → cost_from f32_costs (out G) c u vs ≡ add_steps numbers lengths links c (N u) (map N vs)
    unfolding add_steps
    cost_rows [] u c lu h = refl
    cost_rows (v ∷ vs) u c lu h =
        let lv = linked_inside u v lu h.0 in
        cost_rows vs v (add binary32 c (cheapest f32_costs (out G u) v)) lv h.1
        ∙ ap (λ (y : Float). add_steps numbers lengths links (add binary32 c y) (N v) (map N vs))
        (cheapest_is u v lu lv (linked_step u v lu h.0))

    chain_walk : (l : List ℕ) → is_chain links (N start) (N goal) l ≡ true → IsWalk (out G) start goal (map R l) × (map N (map R l) ≡ l)
    unfolding is_chain
    chain_walk [] h = absurd (true≢false (sym h))
    chain_walk (x ∷ []) h = absurd (true≢false (sym h))
    chain_walk (x ∷ (y ∷ ys)) h =
        let p = and_true (eqb x (N start)) (leads_to links (N goal) x (y ∷ ys)) h in
        let e : R x ≡ start = ap R (eqb-true x (N start) p.0) ∙ row_number numbers A.few A.distinct start ls in
        ((e, to_walk (y ∷ ys) x p.1), numbers_back (y ∷ ys) x p.1)

    walk_chain : (l : List ℕ) → IsWalk (out G) start goal l → is_chain links (N start) (N goal) (map N l) ≡ true
    unfolding is_chain
    walk_chain [] h = absurd h
    walk_chain (u ∷ []) h = absurd h
    walk_chain (u ∷ (v ∷ vs)) h =
        and_both (eqb (N u) (N start)) _ (eq-eqb (N u) (N start) (ap N h.0)) (of_walk (v ∷ vs) u (rw h.0 ls) h.1)

    walk_cost_is : (l : List ℕ) → IsWalk (out G) start goal l → walk_cost f32_costs (out G) l ≡ chain_cost numbers lengths links (map N l)
    unfolding chain_cost
    walk_cost_is [] h = absurd h
    walk_cost_is (u ∷ []) h = absurd h
    walk_cost_is (u ∷ (v ∷ vs)) h = cost_rows (v ∷ vs) u (of_bits binary32 0) (rw h.0 ls) h.1

    -- ---- the answer, with the numbers of its lanes
    abbrev pub OptimalResult : Result Float → Type 0
    OptimalResult refused = Optimal numbers lengths links (N start) (N goal) false [] (of_bits binary32 0)
    OptimalResult (found l c) = Optimal numbers lengths links (N start) (N goal) true (map N l) c

    by_result : (r : Result Float) → Correct f32_costs f32_laws (out G) 256 start goal r → OptimalResult r
    unfolding f32_laws
    by_result refused none =
        record {
          is_chain_law = λ e. absurd (true≢false (sym e));
          cost_is = λ e. absurd (true≢false (sym e));
          least = λ e. absurd (true≢false (sym e));
          fits = λ e. absurd (true≢false (sym e));
          refused = λ e other. no_chain other (is_chain links (N start) (N goal) other) refl;
        }
      where
        no_chain : (other : List ℕ) (b : Bool) → is_chain links (N start) (N goal) other ≡ b → b ≡ false
        no_chain other true h = absurd (none (map R other) (chain_walk other h).0)
        no_chain other false h = refl
    by_result (found l c) best =
        record {
          is_chain_law = λ e. walk_chain l best.walk;
          cost_is = λ e. sym best.cost ∙ walk_cost_is l best.walk;
          least = λ e other h. no_less other h;
          fits = λ e. rw (length-map l N) best.short;
          refused = λ e. absurd (true≢false e);
        }
      where
        cost_of : (m : List ℕ) → IsWalk (out G) start goal m → Cost (walk_cost f32_costs (out G) m)
        cost_of m w = walk_cost_law f32_costs f32_laws (out G) G.count start goal (rw T.count ls) linking m w

        no_less : (other : List ℕ) → is_chain links (N start) (N goal) other ≡ true → le c (chain_cost numbers lengths links other) ≡ true
        no_less other h =
            let p = chain_walk other h in
            let e : walk_cost f32_costs (out G) (map R other) ≡ chain_cost numbers lengths links other =
            walk_cost_is (map R other) p.0 ∙ ap (chain_cost numbers lengths links) p.1 in
            subst (λ (y : Float). le c y ≡ true) e
            (cost_le c (walk_cost f32_costs (out G) (map R other)) (subst Cost best.cost (cost_of l best.walk))
            (cost_of (map R other) p.0)
            (best.least (map R other) p.0))

    pub optimal : OptimalResult (searched_in lanes G start goal)
    optimal =
        let right = search_correct f32_costs f32_laws (out G) 256 G.count start goal (rw T.count A.few) (rw T.count ls) linking in
        by_result (searched_in lanes G start goal) (right (lane_number lanes))

    -- ---- the heap form of route.rs gives this chain at this cost
    pub heap_chain : Gives f32_costs compare_entries edges_at (lane_number lanes start) (lane_number lanes goal)
        (begun f32_costs compare_entries edges_at (lane_number lanes start) (lane_number lanes goal))
        (numbered (lane_number lanes) (searched_in lanes G start goal))
    heap_chain =
        heap_gives f32_costs f32_laws (lane_number lanes) R edges_at (out G) 256 G.count start goal (rw T.count A.few)
        (rw T.count ls) (rw T.count lg) numbering restricts linking compare_entries entries_ordered
