-- Rows and numbers of lanes: in an accepted plan each lane has one number, and the links that the tables keep by row are the link records.
use mathlib.Core.Bool.{Bool, cond, false, true, true≢false, ◌&&◌, ◌||◌}
use mathlib.Core.List.Memᴰ
use mathlib.Core.List.{List, Memᴰ, [], ◌++◌, ◌∷◌}
use mathlib.Core.Logic.{⊎_elim}
use mathlib.Core.Path.{refl, sym, ◌∙◌, ◌≡◌}
use Prim.Native.Nat.{suc, ℕ, ◌+◌, ◌<◌, ◌≤◌}
use native.Mathlib.Omega.{arith}
use lib.Dec.{eqb, ltb}
use lib.Ieee.{Float, lt, nan}
use lib.ListN.{get_or, length}
use borrow.Author.Tests.{eq-eqb, eqb-true, ltb-false, ltb-true}
use Rattle.exact.specs.Sums.{LinkCost}
use Rattle.plan_format.specs.Lookup.{index_get, index_own, index_same}
use Rattle.plan_format.specs.Plan.{index_of, repeats}
use Rattle.plan_format.specs.Records.{Link}
use Rattle.plan_format.specs.Tables.{linked}
use Rattle.rows.specs.Rows.{first_link, first_neighbour, lane_number, leads_to, neighbours, successors}
use Rattle.search.specs.LaneGraph.{LaneGraph, edges, f32_costs, length_of}
use Rattle.search.specs.Search.{Edge}
use Rattle.optimality.specs.Chains.{has_link}
use Rattle.optimality.proofs.Walks.{Linked, cheapest}

-- ---- what is known of an accepted plan: no lane's number stands twice, each link leaves a lane, and each length is the cost of a link
pub record ChainsOk (numbers : List ℕ) (lengths : List Float) (links : List Link) : Type 0 where
  pub few : length numbers ≤ 256
  pub distinct : repeats numbers ≡ false
  pub from_there : (i : ℕ) (d : Link) → i < length links → index_of (get_or links i d).from numbers 0 256 < length numbers
  pub long : (u : ℕ) → u < length numbers → LinkCost (get_or lengths u nan)

-- the tables hold its lanes and links: for each lane and role, the rows of the lanes led to, in file order
pub record Tabled (numbers : List ℕ) (lengths : List Float) (links : List Link) (lanes : List ℕ) (G : LaneGraph) : Type 0 where
  pub count : G.count ≡ length numbers
  pub number : (u : ℕ) → u < length numbers → lane_number lanes u ≡ get_or numbers u 0
  pub long : (u : ℕ) → u < length numbers → length_of G u ≡ get_or lengths u nan
  pub successors_count : (u : ℕ) → u < length numbers → successors G.fans u ≡ length (linked links (get_or numbers u 0) 0)
  pub neighbours_count : (u : ℕ) → u < length numbers → neighbours G.fans u ≡ length (linked links (get_or numbers u 0) 2)
  pub successor_row : (u j : ℕ) → u < length numbers → j < length (linked links (get_or numbers u 0) 0)
      → leads_to G.links (first_link G.fans u + j) ≡ index_of (get_or (linked links (get_or numbers u 0) 0) j 0) numbers 0 256
  pub neighbour_row : (u j : ℕ) → u < length numbers → j < length (linked links (get_or numbers u 0) 2)
      → leads_to G.links (first_neighbour G.fans u + j) ≡ index_of (get_or (linked links (get_or numbers u 0) 2) j 0) numbers 0 256

pub or_right : (a b : Bool) → b ≡ true → (a || b) ≡ true
or_right true b h = refl
or_right false b h = h

module _ (numbers : List ℕ) (few : length numbers ≤ 256) where
  -- the row of a number, and the number of a row
  abbrev pub row : ℕ → ℕ
  row x = index_of x numbers 0 256

  abbrev pub number_at : ℕ → ℕ
  number_at u = get_or numbers u 0

  pub row_below : (x : ℕ) → row x < length numbers → number_at (row x) ≡ x
  row_below x l = index_get x numbers 0 (row x) 256 (omega arith) (λ e. absurd (omega (arith, few)))

  module _ (distinct : repeats numbers ≡ false) where
    pub row_number : (u : ℕ) → u < length numbers → row (number_at u) ≡ u
    row_number u l = let e : 0 + u ≡ u = omega arith in index_own numbers 0 u 256 distinct l ∙ e

    row_test : (x u : ℕ) → u < length numbers → eqb (row x) u ≡ eqb x (number_at u)
    row_test x u l = sym (index_same numbers x u distinct l few)

    -- ---- link records by row
    unfoldable pub row_link : List Link → ℕ → ℕ → ℕ → Bool
    row_link [] role u v = false
    row_link (x ∷ xs) role u v = (eqb x.from (number_at u) && (eqb x.role role && eqb (row x.to) v)) || row_link xs role u v

    pub row_link_law : (xs : List Link) (role u v : ℕ) → v < length numbers
        → row_link xs role u v ≡ has_link xs role (number_at u) (number_at v)
    unfolding row_link has_link
    row_link_law [] role u v lv = refl
    row_link_law (x ∷ xs) role u v lv = rw (row_test x.to v lv, row_link_law xs role u v lv)

    -- the links that lead to these numbers, each at the cost w; those of missing lanes have no effect
    unfoldable pub steps_to : Float → List ℕ → List (Edge Float)
    steps_to w [] = []
    steps_to w (t ∷ ts) = cond (ltb (row t) (length numbers)) (record { to = row t; cost = w } ∷ steps_to w ts) (steps_to w ts)

    pub edges_are : (rows : List ℕ) (n : ℕ) (w : Float) (ts : List ℕ) (first : ℕ) → n ≡ length numbers
        → ((j : ℕ) → j < length ts → leads_to rows (first + j) ≡ row (get_or ts j 0))
        → edges rows n w first (length ts) ≡ steps_to w ts
    unfolding edges steps_to
    edges_are rows n w [] first e h = refl
    edges_are rows n w (t ∷ ts) first e h =
        let z : first + 0 ≡ first = omega arith in
        let here : leads_to rows first ≡ row t = rw z at (h 0 (omega arith)) in
        let more : edges rows n w (first + 1) (length ts) ≡ steps_to w ts = edges_are rows n w ts (first + 1) e (λ j l. later j l) in
        rw (here, more, e)
      where
        later : (j : ℕ) → j < length ts → leads_to rows (first + 1 + j) ≡ row (get_or ts j 0)
        later j l = let z : first + 1 + j ≡ first + suc j = omega arith in rw z (h (suc j) (omega arith))

    -- ---- one role's links out of the lane u
    module _ (role u : ℕ) (w : Float) where
      abbrev pub steps : List Link → List (Edge Float)
      steps xs = steps_to w (linked xs (number_at u) role)

      linked_weaker : (e : Edge Float) (es : List (Edge Float)) (v : ℕ) → Linked es v → Linked (e ∷ es) v
      linked_weaker e es v l = record { edge = l.edge; mem = Memᴰ.tail l.mem; leads = l.leads }

      pub steps_linked : (xs : List Link) (v : ℕ) → v < length numbers → row_link xs role u v ≡ true → Linked (steps xs) v
      unfolding row_link steps_to linked
      steps_linked [] v lv h = absurd (true≢false (sym h))
      steps_linked (x ∷ xs) v lv h =
          go (eqb x.from (number_at u)) (eqb x.role role) (eqb (row x.to) v) (ltb (row x.to) (length numbers)) refl refl
          (steps_linked xs v lv) h
        where
          go : (a b m c : Bool) → eqb (row x.to) v ≡ m → ltb (row x.to) (length numbers) ≡ c
              → (row_link xs role u v ≡ true → Linked (steps xs) v)
              → ((a && (b && m)) || row_link xs role u v) ≡ true
              → Linked (steps_to w (cond (a && b) (x.to ∷ linked xs (number_at u) role) (linked xs (number_at u) role))) v
          go true true true true pm pc ih h =
              rw pc (record { edge = record { to = row x.to; cost = w }; mem = Memᴰ.head refl; leads = eqb-true _ _ pm })
          go true true true false pm pc ih h = absurd (no (row x.to) (length numbers) (eqb-true _ _ pm) (ltb-false _ _ pc) lv)
            where
              no : (r n : ℕ) → r ≡ v → n ≤ r → v < n → ⊥
              no r n p q k = omega arith
          go true true false true pm pc ih h = rw pc (linked_weaker _ (steps xs) v (ih h))
          go true true false false pm pc ih h = rw pc (ih h)
          go true false m c pm pc ih h = ih h
          go false b m c pm pc ih h = ih h

      -- what stands among them
      abbrev pub IsStep : List Link → Edge Float → Type 0
      IsStep xs e = (row_link xs role u e.to ≡ true) × (e.cost ≡ w) × (e.to < length numbers)

      pub steps_are : (xs : List Link) (e : Edge Float) → Memᴰ e (steps xs) → IsStep xs e
      unfolding row_link steps_to linked
      steps_are [] e m = absurd (Memᴰ.not-nil m)
      steps_are (x ∷ xs) e m =
          go (eqb x.from (number_at u)) (eqb x.role role) (ltb (row x.to) (length numbers)) refl refl refl (steps_are xs e) m
        where
          kept : (t : Bool) → IsStep xs e → ((t || row_link xs role u e.to) ≡ true) × (e.cost ≡ w) × (e.to < length numbers)
          kept t p = (or_right t (row_link xs role u e.to) p.0, p.1, p.2)

          go : (a b c : Bool) → eqb x.from (number_at u) ≡ a → eqb x.role role ≡ b → ltb (row x.to) (length numbers) ≡ c
              → (Memᴰ e (steps xs) → IsStep xs e)
              → Memᴰ e (steps_to w (cond (a && b) (x.to ∷ linked xs (number_at u) role) (linked xs (number_at u) role)))
              → (((a && (b && eqb (row x.to) e.to)) || row_link xs role u e.to) ≡ true) × (e.cost ≡ w) × (e.to < length numbers)
          go true true true pa pb pc ih m =
              ⊎_elim (λ q. rw q (rw (eq-eqb (row x.to) (row x.to) refl) refl, refl, ltb-true _ _ pc))
              (λ m'. kept (eqb (row x.to) e.to) (ih m'))
              (Memᴰ.cases_cons (rw pc at m))
          go true true false pa pb pc ih m = kept (eqb (row x.to) e.to) (ih (rw pc at m))
          go true false c pa pb pc ih m = kept false (ih m)
          go false b c pa pb pc ih m = kept false (ih m)

      -- the cheapest of them and of others
      pub cheapest_steps : (ys : List (Edge Float)) (v : ℕ) → v < length numbers → lt w w ≡ false → (xs : List Link)
          → cheapest f32_costs (steps xs ++ ys) v ≡ cond (row_link xs role u v && lt w (cheapest f32_costs ys v)) w (cheapest f32_costs ys v)
      unfolding row_link steps_to linked cheapest
      cheapest_steps ys v lv ww [] = refl
      cheapest_steps ys v lv ww (x ∷ xs) =
          go (eqb x.from (number_at u)) (eqb x.role role) (eqb (row x.to) v) (ltb (row x.to) (length numbers)) refl refl
          (cheapest_steps ys v lv ww xs)
        where
          Y : Float
          Y = cheapest f32_costs ys v

          absorb : (R : Float) (p q : Bool) → lt w Y ≡ q → R ≡ cond (p && q) w Y → cond (lt w R) w R ≡ cond q w Y
          absorb R true true py r = rw (r, ww)
          absorb R true false py r = rw (r, py)
          absorb R false true py r = rw (r, py)
          absorb R false false py r = rw (r, py)

          go : (a b m c : Bool) → eqb (row x.to) v ≡ m → ltb (row x.to) (length numbers) ≡ c
              → cheapest f32_costs (steps xs ++ ys) v ≡ cond (row_link xs role u v && lt w Y) w Y
              → cheapest f32_costs (steps_to w (cond (a && b) (x.to ∷ linked xs (number_at u) role) (linked xs (number_at u) role)) ++ ys) v
              ≡ cond (((a && (b && m)) || row_link xs role u v) && lt w Y) w Y
          go false b m c pm pc ih = ih
          go true false m c pm pc ih = ih
          go true true true true pm pc ih =
              rw (pc, pm) (absorb (cheapest f32_costs (steps xs ++ ys) v) (row_link xs role u v) (lt w Y) refl ih)
          go true true true false pm pc ih = absurd (no (row x.to) (length numbers) (eqb-true _ _ pm) (ltb-false _ _ pc) lv)
            where
              no : (r n : ℕ) → r ≡ v → n ≤ r → v < n → ⊥
              no r n p q k = omega arith
          go true true false true pm pc ih = rw (pc, pm) ih
          go true true false false pm pc ih = rw pc ih
