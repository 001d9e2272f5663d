-- When a frontier of the heap form, by lane numbers, matches a state of the array form, by rows, and that relaxing keeps this.
-- They agree on each lane that is there. Of missing lanes the array form has nothing: an edge to one changes nothing that is matched.
use mathlib.Core.Bool.{Bool, cond, false, true}
use mathlib.Core.List.Memᴰ
use mathlib.Core.List.{List, Memᴰ, [], ◌∷◌}
use mathlib.Core.Logic.{inl, inr, ⊎_elim, ◌⊎◌, ◌≢◌}
use mathlib.Core.Option
use mathlib.Core.Option.{Option, some}
use mathlib.Core.Path.{ap, refl, subst, sym, ◌∙◌, ◌≡◌}
use Prim.Native.Nat.{suc, ℕ, ◌<◌, ◌≤◌}
use native.Mathlib.Decide.{ℕ_discrete}
use native.Mathlib.Nat.{le_of_eq, le_trans}
use native.Mathlib.Omega.{arith}
use lib.Dec.{ltb}
use lib.ListN.{get_or, length, set}
use lib.Seq.{get_or-set_other, get_or-set_same}
use borrow.Author.Tests.{eq-eqb, ltb-false, ltb-true, ne_eqb}
use Rattle.search.specs.Search.{Costs, Edge, State, dist_of, expanded, relaxed}
use Rattle.optimality.specs.Heap.{Entry, Frontier, Map, Taken, dist_at, first, front, insert, later, push, push_all}
use Rattle.optimality.proofs.HeapOrder.{taken_in}
use Rattle.optimality.proofs.Laws.{Laws}
use Rattle.optimality.proofs.Least.{Open}
use Rattle.optimality.proofs.Relaxing.{AllCosts, Expanded, LinkCosts, distances_fall, limit, prev_of, relaxed_is, size_at}

-- ---- numbers and rows
-- each of the n rows has a number of its own; a number of none of them has no row below n: its lane is missing
pub record Numbering (n : ℕ) (num row_of : ℕ → ℕ) : Type 0 where
  pub number : (x : ℕ) → row_of x < n → num (row_of x) ≡ x
  pub row : (v : ℕ) → v < n → row_of (num v) ≡ v

pub distinct : {n : ℕ} {num row_of : ℕ → ℕ} → Numbering n num row_of → (a b : ℕ) → a < n → b < n → num a ≡ num b → a ≡ b
distinct {row_of = row_of} N a b la lb e = sym (N.row a la) ∙ ap row_of e ∙ N.row b lb

-- the edges to lanes that are there, by their rows
unfoldable pub kept : {C : Type 0} → ℕ → (ℕ → ℕ) → List (Edge C) → List (Edge C)
kept n row_of [] = []
kept n row_of (e ∷ es) =
    cond (ltb (row_of e.to) n) (record { to = row_of e.to; cost = e.cost } ∷ kept n row_of es) (kept n row_of es)

-- the links `out` of rows are the edges of their numbers but for those to missing lanes, and a missing lane has no edges
pub record Restricts {C : Type 0} (K : Costs C) (L : Laws K) (n : ℕ) (num row_of : ℕ → ℕ) (edges out : ℕ → List (Edge C)) : Type 0 where
  pub costs : (u : ℕ) → u < n → LinkCosts K L (edges (num u))
  pub rows : (u : ℕ) → u < n → out u ≡ kept n row_of (edges (num u))
  pub missing : (x : ℕ) → n ≤ row_of x → edges x ≡ []

-- ---- maps
insert_same : {A : Type 0} (m : Map A) (k x : ℕ) (v : A) → x ≡ k → insert m k v x ≡ some v
insert_same m k x v e = rw (eq-eqb x k e)

insert_other : {A : Type 0} (m : Map A) (k x : ℕ) (v : A) → x ≢ k → insert m k v x ≡ m x
insert_other m k x v ne = rw (ne_eqb x k ne)

-- ---- taking an entry out
pub taken_cases : {C : Type 0} {e x : Entry C} {xs ys : List (Entry C)} → Taken e xs ys → Memᴰ x xs → (x ≡ e) ⊎ Memᴰ x ys
taken_cases first m = Memᴰ.cases_cons m
taken_cases (later t) m =
    ⊎_elim (λ p. inr (Memᴰ.head p)) (λ m'. ⊎_elim (λ p. inl p) (λ q. inr (Memᴰ.tail q)) (taken_cases t m'))
    (Memᴰ.cases_cons m)

pub rest_in : {C : Type 0} {e x : Entry C} {xs ys : List (Entry C)} → Taken e xs ys → Memᴰ x ys → Memᴰ x xs
rest_in first m = Memᴰ.tail m
rest_in (later t) m = ⊎_elim (λ p. Memᴰ.head p) (λ q. Memᴰ.tail (rest_in t q)) (Memᴰ.cases_cons m)

pub rest_shorter : {C : Type 0} {e : Entry C} {xs ys : List (Entry C)} → Taken e xs ys → length xs ≡ suc (length ys)
rest_shorter first = refl
rest_shorter (later t) = ap suc (rest_shorter t)

-- the entry of lane v at its distance
abbrev pub entry : {C : Type 0} → Costs C → (ℕ → ℕ) → State C → ℕ → Entry C
entry K num s v = record { cost = dist_of K s v; lane = num v }

module _ {C : Type 0} (K : Costs C) (L : Laws K) (num row_of : ℕ → ℕ) (n : ℕ) where
  abbrev far : ℕ
  far = limit K L

  abbrev at : State C → ℕ → ℕ
  at s v = size_at K L s v

  abbrev IsThere : ℕ → Type 0
  IsThere x = row_of x < n

  -- entries of one lane that is there have different costs
  abbrev Differs : Entry C → Entry C → Type 0
  Differs x y = IsThere x.lane → x.lane ≡ y.lane → L.size x.cost ≡ L.size y.cost → ⊥

  abbrev Apart : List (Entry C) → Type 0
  Apart [] = Unit {0}
  Apart (x ∷ xs) = ((y : Entry C) → Memᴰ y xs → Differs x y) × Apart xs

  pub apart_taken : {e : Entry C} {xs ys : List (Entry C)} → Taken e xs ys → Apart xs
      → Apart ys × ((y : Entry C) → Memᴰ y ys → Differs e y)
  apart_taken first a = (a.1, a.0)
  apart_taken {e} (later {x = x} t) a =
      let r = apart_taken t a.1 in
      let there : Differs x e = a.0 e (taken_in t) in (
        (λ y m. a.0 y (rest_in t m), r.0),
        λ y m l p q. ⊎_elim
            (λ z. let same : e.lane ≡ x.lane = p ∙ ap (λ (w : Entry C). w.lane) z in
            there (subst IsThere same l) (sym same) (sym (q ∙ ap (λ (w : Entry C). L.size w.cost) z)))
            (λ m'. r.1 y m' l p q)
            (Memᴰ.cases_cons m),
      )

  -- ---- a state of the array form and a frontier of the heap form
  -- an entry of lane v at the cost c is stale, or that of an open lane
  abbrev pub Current : State C → ℕ → C → Type 0
  Current s v c = (at s v < L.size c) ⊎ ((c ≡ dist_of K s v) × Open s v)

  pub record Listed (s : State C) (v : ℕ) (c : C) : Type 0 where
    pub finite : L.size c < far
    pub current : Current s v c

  -- the maps have the distance and the predecessor of each lane that is there, the heap has the entry of each that is open and reached, and
  -- its other entries of such lanes are stale. Of a missing lane it is only known that its entries are costs
  pub record Matches (s : State C) (f : Frontier C) : Type 0 where
    pub dist : (v : ℕ) → v < n → dist_at K f (num v) ≡ dist_of K s v
    pub prev : (v : ℕ) → v < n → at s v < far → f.prev (num v) ≡ some (num (prev_of s v))
    pub full : (v : ℕ) → v < n → Open s v → at s v < far → Memᴰ (entry K num s v) f.heap
    pub costs : (x : Entry C) → Memᴰ x f.heap → L.Cost x.cost
    pub each : (x : Entry C) → Memᴰ x f.heap → IsThere x.lane → Listed s (row_of x.lane) x.cost
    pub apart : Apart f.heap

  -- no entry is below its lane's distance
  listed_least : (s : State C) (v : ℕ) (c : C) → Listed s v c → at s v ≤ L.size c
  listed_least s v c l = go l.current
    where
      go : Current s v c → at s v ≤ L.size c
      go (inl l) = omega arith
      go (inr p) = le_of_eq (ap L.size (sym p.0))

  -- a closed lane has no greater distance than a
  abbrev pub ClosedLow : State C → ℕ → Type 0
  ClosedLow s a = (w : ℕ) → w < n → Open s w ⊎ (at s w ≤ a)

  module _ (N : Numbering n num row_of) where
    -- ---- one edge, to a lane that is there
    module _ (u v : ℕ) (d : C) (s : State C) (f : Frontier C) (M : Matches s f) (costs : AllCosts K L s)
        (in-dist : v < length s.dist) (in-prev : v < length s.prev) (lv : v < n)
        (cost : L.Cost d) (low : ClosedLow s (L.size d)) where
      abbrev t : State C
      t = record { dist = set s.dist v d; prev = set s.prev v u; closed = s.closed }

      abbrev new : Entry C
      new = record { cost = d; lane = num v }

      abbrev grown : Frontier C
      grown = front K (insert f.dist (num v) d) (insert f.prev (num v) (num u)) (new ∷ f.heap)

      there : dist_of K t v ≡ d
      there = get_or-set_same s.dist v d K.infinite in-dist

      elsewhere : (w : ℕ) → w ≢ v → dist_of K t w ≡ dist_of K s w
      elsewhere w ne = get_or-set_other s.dist v w d K.infinite ne

      other : (w : ℕ) → w < n → w ≢ v → num w ≢ num v
      other w lw ne e = ne (distinct N w v lw lv e)

      module _ (less : L.size d < at s v) where
        open_there : Open s v
        open_there = ⊎_elim (λ o. o) (λ l. absurd (no (at s v) (L.size d) less l)) (low v lv)
          where
            no : (a b : ℕ) → b < a → a ≤ b → ⊥
            no a b x y = omega arith

        dist_at_law : (w : ℕ) → w < n → Dec (w ≡ v) → dist_at K grown (num w) ≡ dist_of K t w
        dist_at_law w lw (yes p) =
            ap (λ (o : Option C). Option.get_or o K.infinite) (insert_same f.dist (num v) (num w) d (ap num p))
            ∙ sym there ∙ ap (dist_of K t) (sym p)
        dist_at_law w lw (no ne) =
            ap (λ (o : Option C). Option.get_or o K.infinite) (insert_other f.dist (num v) (num w) d (other w lw ne))
            ∙ M.dist w lw ∙ sym (elsewhere w ne)

        prev_at : (w : ℕ) → w < n → at t w < far → Dec (w ≡ v) → grown.prev (num w) ≡ some (num (prev_of t w))
        prev_at w lw r (yes p) =
            insert_same f.prev (num v) (num w) (num u) (ap num p)
            ∙ ap (λ (x : ℕ). some (num x)) (sym (get_or-set_same s.prev v u 0 in-prev) ∙ ap (prev_of t) (sym p))
        prev_at w lw r (no ne) =
            insert_other f.prev (num v) (num w) (num u) (other w lw ne)
            ∙ M.prev w lw (subst (λ (a : C). L.size a < far) (elsewhere w ne) r)
            ∙ ap (λ (x : ℕ). some (num x)) (sym (get_or-set_other s.prev v w u 0 ne))

        full_at : (w : ℕ) → w < n → Open s w → at t w < far → Dec (w ≡ v) → Memᴰ (entry K num t w) (new ∷ f.heap)
        full_at w lw o r (yes p) = Memᴰ.head (λ i. record { cost = (ap (dist_of K t) p ∙ there) i; lane = num (p i) })
        full_at w lw o r (no ne) =
            Memᴰ.tail (subst (λ (a : C). Memᴰ (record { cost = a; lane = num w }) f.heap) (sym (elsewhere w ne))
            (M.full w lw o (subst (λ (a : C). L.size a < far) (elsewhere w ne) r)))

        new_listed : Listed t v d
        new_listed = record { finite = omega (arith, less, L.most _ (costs v)); current = inr (sym there, open_there) }

        current_at : (w : ℕ) (c : C) → Listed s w c → Current s w c → Dec (w ≡ v) → Current t w c
        current_at w c l e (yes p) =
            inl (below (at t w) (L.size d) (at s v) (L.size c) (ap (at t) p ∙ ap L.size there) less known)
          where
            known : at s v ≤ L.size c
            known = subst (λ (y : ℕ). at s y ≤ L.size c) p (listed_least s w c l)

            below : (a b c e : ℕ) → a ≡ b → b < c → c ≤ e → a < e
            below a b c e p q r = omega arith
        current_at w c l (inl e) (no ne) = inl (subst (λ (a : C). L.size a < L.size c) (sym (elsewhere w ne)) e)
        current_at w c l (inr q) (no ne) = inr (q.0 ∙ sym (elsewhere w ne), q.1)

        listed_at : (w : ℕ) (c : C) → Listed s w c → Listed t w c
        listed_at w c l = record { finite = l.finite; current = current_at w c l l.current (ℕ_discrete w v) }

        new_apart : (y : Entry C) → Memᴰ y f.heap → Differs new y
        new_apart y m l p q =
            no (L.size d) (at s v) (L.size y.cost) less
            (subst (λ (w : ℕ). at s w ≤ L.size y.cost) (ap row_of (sym p) ∙ N.row v lv)
            (listed_least s (row_of y.lane) y.cost (M.each y m (subst IsThere p l)))) q
          where
            no : (a b c : ℕ) → a < b → b ≤ c → a ≡ c → ⊥
            no a b c x y z = omega arith

        each_at : (x : Entry C) → (x ≡ new) ⊎ Memᴰ x f.heap → IsThere x.lane → Listed t (row_of x.lane) x.cost
        each_at x (inl p) l =
            subst (λ (y : Entry C). Listed t (row_of y.lane) y.cost) (sym p)
            (subst (λ (w : ℕ). Listed t w d) (sym (N.row v lv)) new_listed)
        each_at x (inr m) l = listed_at (row_of x.lane) x.cost (M.each x m l)

        grown_matches : Matches t grown
        grown_matches =
            record {
              dist = λ w lw. dist_at_law w lw (ℕ_discrete w v);
              prev = λ w lw r. prev_at w lw r (ℕ_discrete w v);
              full = λ w lw o r. full_at w lw o r (ℕ_discrete w v);
              costs = λ x m. ⊎_elim (λ p. subst (λ (y : Entry C). L.Cost y.cost) (sym p) cost) (M.costs x) (Memᴰ.cases_cons m);
              each = λ x m. each_at x (Memᴰ.cases_cons m);
              apart = (new_apart, M.apart);
            }

      push_there : Matches (relaxed K u v d s) (push K (num u) (num v) d f)
      unfolding push relaxed
      push_there = rw (M.dist v lv) (go (K.lt d (dist_of K s v)) refl)
        where
          go : (b : Bool) → K.lt d (dist_of K s v) ≡ b → Matches (cond b t s) (cond b grown f)
          go true b = grown_matches (ltb-true _ _ (sym (L.lt_size d (dist_of K s v) cost (costs v)) ∙ b))
          go false b = M

    -- ---- one edge, to a missing lane: nothing is changed for those that are there
    push_missing : (u x : ℕ) (d : C) (s : State C) (f : Frontier C) → Matches s f → n ≤ row_of x → L.Cost d → Matches s (push K u x d f)
    unfolding push
    push_missing u x d s f M lx cost = go (K.lt d (dist_at K f x))
      where
        grown : Frontier C
        grown = front K (insert f.dist x d) (insert f.prev x u) (record { cost = d; lane = x } ∷ f.heap)

        other : (w : ℕ) → w < n → num w ≢ x
        other w lw e = omega (arith, N.row w lw, ap row_of e)

        gone : IsThere x → ⊥
        gone l = omega arith

        go : (b : Bool) → Matches s (cond b grown f)
        go true =
            record {
              dist =
                  λ w lw. ap (λ (o : Option C). Option.get_or o K.infinite) (insert_other f.dist x (num w) d (other w lw))
                  ∙ M.dist w lw;
              prev = λ w lw r. insert_other f.prev x (num w) u (other w lw) ∙ M.prev w lw r;
              full = λ w lw o r. Memᴰ.tail (M.full w lw o r);
              costs = λ y m. ⊎_elim (λ p. subst (λ (z : Entry C). L.Cost z.cost) (sym p) cost) (M.costs y) (Memᴰ.cases_cons m);
              each =
                  λ y m l. ⊎_elim (λ p. absurd (gone (subst (λ (z : Entry C). IsThere z.lane) p l))) (λ m'. M.each y m' l)
                  (Memᴰ.cases_cons m);
              apart = (λ y m l. absurd (gone l), M.apart);
            }
        go false = M

    -- ---- a list of edges
    pub push_all_law : (size : ℕ) → n ≤ size → (es : List (Edge C)) (u : ℕ) (c : C) (s : State C) (f : Frontier C) → Matches s f → L.Cost c
        → LinkCosts K L es → AllCosts K L s → length s.dist ≡ size → length s.prev ≡ size → ClosedLow s (L.size c)
        → Matches (expanded K u c (kept n row_of es) s) (push_all K (num u) c es f)
    unfolding push_all expanded kept
    push_all_law size few [] u c s f M cost links costs ld lp low = M
    push_all_law size few (e ∷ es) u c s f M cost links costs ld lp low =
        go (ltb v n) refl (λ s' f' M'. push_all_law size few es u c s' f' M' cost (λ x m. links x (Memᴰ.tail m)))
      where
        v : ℕ
        v = row_of e.to

        d : C
        d = K.add c e.cost

        link : L.LinkCost e.cost
        link = links e (Memᴰ.head refl)

        d_cost : L.Cost d
        d_cost = L.add_cost c e.cost cost link

        Rest : State C → Frontier C → Type 0
        Rest s' f' = Matches (expanded K u c (kept n row_of es) s') (push_all K (num u) c es f')

        t : State C
        t = relaxed K u v d s

        low_there : ClosedLow s (L.size d)
        low_there w lw = ⊎_elim (λ o. inl o) (λ l. inr (le_trans l (L.add_grows c e.cost cost link))) (low w lw)

        go : (b : Bool) → ltb v n ≡ b
            → ((s' : State C) (f' : Frontier C) → Matches s' f' → AllCosts K L s' → length s'.dist ≡ size → length s'.prev ≡ size
            → ClosedLow s' (L.size c) → Rest s' f')
            → Matches (expanded K u c (cond b (record { to = v; cost = e.cost } ∷ kept n row_of es) (kept n row_of es)) s)
            (push_all K (num u) c es (push K (num u) e.to d f))
        go true b more = more t (push K (num u) e.to d f) pushed E.costs (E.dist_length ∙ ld) (E.prev_length ∙ lp) low'
          where
            lv : v < n
            lv = ltb-true v n b

            edge : Edge C
            edge = record { to = v; cost = e.cost }

            E : Expanded K L u c (edge ∷ []) s t
            E = relaxed_is K L u c edge s cost link costs (omega (arith, lv, ld)) (omega (arith, lv, lp))

            pushed : Matches t (push K (num u) e.to d f)
            pushed =
                subst (λ (x : ℕ). Matches t (push K (num u) x d f)) (N.number e.to lv)
                (push_there u v d s f M costs (omega (arith, lv, ld)) (omega (arith, lv, lp)) lv d_cost low_there)

            low' : ClosedLow t (L.size c)
            low' w lw =
                ⊎_elim (λ o. inl (subst (λ (m : List ℕ). get_or m w 1 ≡ 0) (sym E.same_marks) o))
                (λ l. inr (le_trans (distances_fall K L u c (edge ∷ []) s t E w) l)) (low w lw)
        go false b more =
            more s (push K (num u) e.to d f) (push_missing (num u) e.to d s f M (ltb-false v n b) d_cost) costs ld lp low
