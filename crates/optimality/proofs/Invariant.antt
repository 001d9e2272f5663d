-- What holds of the search's state whenever the least open lane is taken. `order` has the closed lanes, the last one first.
use mathlib.Core.List.{List, Memᴰ, [], ◌∷◌}
use mathlib.Core.Logic.{inl, inr, ⊎_elim, ◌⊎◌, ◌≢◌}
use mathlib.Core.Path.{ap, refl, subst, sym, ◌∙◌, ◌≡◌}
use Prim.Native.Nat.{suc, zero, ℕ, ◌+◌, ◌<◌, ◌≤◌}
use native.Mathlib.Decide.{ℕ_discrete}
use native.Mathlib.Nat.{le_of_eq, le_trans, suc-ne-zero}
use native.Mathlib.Omega.{arith}
use lib.ListN.{get_or, get_or-replicate, length, length-replicate, replicate, set}
use lib.Seq.{get_or-set_other}
use Rattle.search.specs.Loops.{replicate_all}
use Rattle.search.specs.Search.{Costs, Edge, State, blank, dist_of, expanded, marked, settled}
use Rattle.optimality.proofs.Laws.{Laws}
use Rattle.optimality.proofs.Least.{Open}
use Rattle.optimality.proofs.Relaxing.{AllCosts, Each, Expanded, Kept, Lowered, distances_fall, expanded_is, limit, prev_of, size_at}
use Rattle.optimality.proofs.Relaxing.{size_via}

-- ---- marks
-- how many are 0
abbrev pub zeros : List ℕ → ℕ
zeros [] = 0
zeros (zero ∷ xs) = suc (zeros xs)
zeros (suc x ∷ xs) = zeros xs

pub zeros_set : (xs : List ℕ) (i : ℕ) → get_or xs i 1 ≡ 0 → suc (zeros (set xs i 1)) ≡ zeros xs
zeros_set [] i e = absurd (suc-ne-zero 0 e)
zeros_set (zero ∷ xs) zero e = refl
zeros_set (suc x ∷ xs) zero e = absurd (suc-ne-zero x e)
zeros_set (zero ∷ xs) (suc i) e = ap suc (zeros_set xs i e)
zeros_set (suc x ∷ xs) (suc i) e = zeros_set xs i e

zeros_replicate : (n : ℕ) → zeros (replicate n 0) ≡ n
zeros_replicate zero = refl
zeros_replicate (suc n) = ap suc (zeros_replicate n)

set_one : (xs : List ℕ) (i : ℕ) → get_or (set xs i 1) i 1 ≡ 1
set_one [] i = refl
set_one (x ∷ xs) zero = refl
set_one (x ∷ xs) (suc i) = set_one xs i

-- a lane that is open after u is marked was open, and is not u
pub open_unmarked : (xs : List ℕ) (u v : ℕ) → get_or (set xs u 1) v 1 ≡ 0 → (get_or xs v 1 ≡ 0) × (v ≢ u)
open_unmarked xs u v o = (sym (get_or-set_other xs u v 1 1 ne) ∙ o, ne)
  where
    ne : v ≢ u
    ne e = suc-ne-zero 0 (sym (set_one xs u) ∙ subst (λ (x : ℕ). get_or (set xs u 1) x 1 ≡ 0) e o)

-- ---- each link out of one of the n lanes leads to one of them, at the cost of a link
pub record Linking {C : Type 0} (K : Costs C) (L : Laws K) (out : ℕ → List (Edge C)) (n : ℕ) : Type 0 where
  pub costs : (u : ℕ) → u < n → Each (out u) (λ e. L.LinkCost e.cost)
  pub inside : (u : ℕ) → u < n → Each (out u) (λ e. e.to < n)

-- ---- where a distance comes from
module _ {C : Type 0} (K : Costs C) (out : ℕ → List (Edge C)) (start : ℕ) where
  -- by a link out of the start, taken at no cost, or out of a closed lane that is not the start
  abbrev pub ByStart : State C → ℕ → C → Type 0
  ByStart s v w = (prev_of s v ≡ start) × (dist_of K s v ≡ K.add K.none w)

  abbrev pub ByClosed : State C → List ℕ → ℕ → C → Type 0
  ByClosed s order v w = (prev_of s v ≢ start) × Memᴰ (prev_of s v) order × (dist_of K s v ≡ K.add (dist_of K s (prev_of s v)) w)

  pub record Origin (s : State C) (order : List ℕ) (v : ℕ) : Type 0 where
    pub edge : Edge C
    pub mem : Memᴰ edge (out (prev_of s v))
    pub leads : edge.to ≡ v
    pub how : ByStart s v edge.cost ⊎ ByClosed s order v edge.cost

-- the predecessor of v is the start, or one of `us`
abbrev pub From : List ℕ → ℕ → List ℕ → ℕ → Type 0
From prev start us v = (get_or prev v 0 ≡ start) ⊎ Memᴰ (get_or prev v 0) us

pub origin_from : {C : Type 0} (K : Costs C) (out : ℕ → List (Edge C)) (start : ℕ) (s : State C) (order : List ℕ) (v : ℕ)
    → Origin K out start s order v → From s.prev start order v
origin_from K out start s order v O = ⊎_elim (λ x. inl x.0) (λ x. inr x.1) O.how

-- each lane's predecessor is the start or was closed before it. Costs may stop growing, so they do not show it
abbrev pub Ranked : List ℕ → ℕ → List ℕ → Type 0
Ranked prev start [] = Unit {0}
Ranked prev start (u ∷ us) = From prev start us u × Ranked prev start us

ranked_same : (p q : List ℕ) (start : ℕ) (us : List ℕ) → ((x : ℕ) → Memᴰ x us → get_or q x 0 ≡ get_or p x 0) → Ranked p start us
    → Ranked q start us
ranked_same p q start [] h r = tt
ranked_same p q start (u ∷ us) h r = (
  rw (h u (mathlib.Core.List.Memᴰ.head refl)) r.0,
  ranked_same p q start us (λ x m. h x (mathlib.Core.List.Memᴰ.tail m)) r.1,
)

module _ {C : Type 0} (K : Costs C) (L : Laws K) (out : ℕ → List (Edge C)) (size n start goal : ℕ) where
  pub record Invariant (s : State C) (order : List ℕ) : Type 0 where
    pub dist_length : length s.dist ≡ size
    pub prev_length : length s.prev ≡ size
    -- as many lanes are open as are left to close
    pub marks : length order + zeros s.closed ≡ size
    pub costs : AllCosts K L s
    pub cover : (v : ℕ) → v < n → Open s v ⊎ Memᴰ v order
    pub goal_open : Memᴰ goal order → ⊥
    pub lanes : (v : ℕ) → Memᴰ v order → v < n
    pub reached : (v : ℕ) → Memᴰ v order → size_at K L s v < limit K L
    -- no link of the start, nor of a closed lane, improves on a distance
    pub from_start : Each (out start) (λ e. size_at K L s e.to ≤ size_via K L K.none e)
    pub from_closed : (u : ℕ) → Memᴰ u order → Each (out u) (λ e. size_at K L s e.to ≤ size_via K L (dist_of K s u) e)
    pub sorted : (u v : ℕ) → Memᴰ u order → v < n → Open s v → size_at K L s u ≤ size_at K L s v
    pub origin : (v : ℕ) → size_at K L s v < limit K L → Origin K out start s order v
    pub ranked : Ranked s.prev start order

module _ {C : Type 0} (K : Costs C) (L : Laws K) (out : ℕ → List (Edge C)) (size n start goal : ℕ) (few : n ≤ size) (in_start : start < n)
    (G : Linking K L out n) where
  abbrev Inv : State C → List ℕ → Type 0
  Inv s order = Invariant K L out size n start goal s order

  abbrev far : ℕ
  far = limit K L

  in_size : (u : ℕ) → u < n → Each (out u) (λ e. e.to < size)
  in_size u l e m = let i = G.inside u l e m in omega arith

  -- ---- the start's links are relaxed at no cost
  abbrev none : State C
  none = blank K size

  abbrev first : State C
  first = expanded K start K.none (out start) none

  first_is : Expanded K L start K.none (out start) none first
  unfolding blank
  first_is =
      expanded_is K L (out start) start size K.none none L.none_cost (G.costs start in_start)
      (λ v. subst L.Cost (sym (replicate_all size v K.infinite)) L.infinite_cost) (in_size start in_start)
      (length-replicate size K.infinite) (length-replicate size 0)

  first_origin : (v : ℕ) → size_at K L first v < far → Kept K L none first v ⊎ Lowered K L start K.none (out start) none first v
      → Origin K out start first [] v
  unfolding blank
  first_origin v h (inl p) = absurd (no far (subst (λ (a : C). L.size a < far) (p.0 ∙ replicate_all size v K.infinite) h))
    where
      no : (k : ℕ) → k < k → ⊥
      no k l = omega arith
  first_origin v h (inr q) =
      record {
        edge = q.edge;
        mem = subst (λ (x : ℕ). Memᴰ q.edge (out x)) (sym q.from) q.mem;
        leads = q.leads;
        how = inl (q.from, q.now);
      }

  pub first_invariant : Invariant K L out size n start goal first []
  unfolding blank
  first_invariant =
      record {
        dist_length = first_is.dist_length ∙ length-replicate size K.infinite;
        prev_length = first_is.prev_length ∙ length-replicate size 0;
        marks = omega (arith, ap zeros first_is.same_marks, zeros_replicate size);
        costs = first_is.costs;
        cover = λ v l. inl (subst (λ (d : List ℕ). get_or d v 1 ≡ 0) (sym first_is.same_marks) (get_or-replicate size v 0 1 (omega arith)));
        goal_open = λ m. mathlib.Core.List.Memᴰ.not-nil m;
        lanes = λ v m. absurd (mathlib.Core.List.Memᴰ.not-nil m);
        reached = λ v m. absurd (mathlib.Core.List.Memᴰ.not-nil m);
        from_start = first_is.under;
        from_closed = λ u m. absurd (mathlib.Core.List.Memᴰ.not-nil m);
        sorted = λ u v m. absurd (mathlib.Core.List.Memᴰ.not-nil m);
        origin = λ v h. first_origin v h (first_is.either v);
        ranked = tt;
      }

  -- ---- a turn: the least open lane u is closed
  module _ (s : State C) (order : List ℕ) (I : Invariant K L out size n start goal s order) (u : ℕ) (lu : u < n) (ou : Open s u)
      (reach : size_at K L s u < limit K L) (not-goal : u ≢ goal) (least : (v : ℕ) → v < n → Open s v → size_at K L s u ≤ size_at K L s v)
    where
      turned : State C
      turned = settled K out u s

      turn_is : Expanded K L u (dist_of K s u) (out u) (marked K u s) turned
      unfolding turned settled marked
      turn_is =
          expanded_is K L (out u) u size (dist_of K s u) (marked K u s) (I.costs u) (G.costs u lu) I.costs (in_size u lu)
          I.dist_length I.prev_length

      abbrev at : ℕ → ℕ
      at v = size_at K L s v

      abbrev at' : ℕ → ℕ
      at' v = size_at K L turned v

      abbrev Moved : ℕ → Type 0
      Moved v = Lowered K L u (dist_of K s u) (out u) (marked K u s) turned v

      either_way : (v : ℕ) → Kept K L s turned v ⊎ Moved v
      unfolding marked
      either_way v = turn_is.either v

      moved_less : (v : ℕ) (q : Moved v) → size_via K L (dist_of K s u) q.edge < at v
      unfolding marked
      moved_less v q = q.less

      turn_falls : (v : ℕ) → at' v ≤ at v
      unfolding marked
      turn_falls v = distances_fall K L u (dist_of K s u) (out u) (marked K u s) turned turn_is v

      grows : Each (out u) (λ e. at u ≤ size_via K L (dist_of K s u) e)
      grows e m = L.add_grows (dist_of K s u) e.cost (I.costs u) (G.costs u lu e m)

      -- what is closed costs no more than u, so nothing less is found
      closed_low : (x : ℕ) → Memᴰ x (u ∷ order) → at x ≤ at u
      closed_low x m = ⊎_elim (λ e. le_of_eq (ap at e)) (λ m'. I.sorted x u m' lu ou) (mathlib.Core.List.Memᴰ.cases_cons m)

      closed_kept : (x : ℕ) → Memᴰ x (u ∷ order) → Kept K L s turned x
      closed_kept x m = ⊎_elim (λ p. p) (λ q. absurd (no q (closed_low x m) (grows q.edge q.mem) (moved_less x q))) (either_way x)
        where
          no : (q : Moved x) → at x ≤ at u → at u ≤ size_via K L (dist_of K s u) q.edge → size_via K L (dist_of K s u) q.edge < at x → ⊥
          no q a b c = omega arith

      open_before : (v : ℕ) → Open turned v → Open s v × (v ≢ u)
      unfolding marked
      open_before v o = open_unmarked s.closed u v (subst (λ (d : List ℕ). get_or d v 1 ≡ 0) turn_is.same_marks o)

      turn_cover : (v : ℕ) → v < n → Open turned v ⊎ Memᴰ v (u ∷ order)
      unfolding marked
      turn_cover v l = go (ℕ_discrete v u) (I.cover v l)
        where
          go : Dec (v ≡ u) → Open s v ⊎ Memᴰ v order → Open turned v ⊎ Memᴰ v (u ∷ order)
          go (yes e) c = inr (mathlib.Core.List.Memᴰ.head e)
          go (no ne) (inl o) = inl (rw turn_is.same_marks (get_or-set_other s.closed u v 1 1 ne ∙ o))
          go (no ne) (inr m) = inr (mathlib.Core.List.Memᴰ.tail m)

      turn_closed : (x : ℕ) → Memᴰ x (u ∷ order) → Each (out x) (λ e. at' e.to ≤ size_via K L (dist_of K turned x) e)
      turn_closed x m e me =
          subst (λ (a : C). at' e.to ≤ size_via K L a e) (sym (closed_kept x m).0) (go (mathlib.Core.List.Memᴰ.cases_cons m))
        where
          go : (x ≡ u) ⊎ Memᴰ x order → at' e.to ≤ size_via K L (dist_of K s x) e
          go (inl p) = rw p (turn_is.under e (subst (λ (y : ℕ). Memᴰ e (out y)) p me))
          go (inr m') = le_trans (turn_falls e.to) (I.from_closed x m' e me)

      turn_sorted : (x v : ℕ) → Memᴰ x (u ∷ order) → v < n → Open turned v → at' x ≤ at' v
      turn_sorted x v m l o = subst (λ (a : C). L.size a ≤ at' v) (sym (closed_kept x m).0) (le_trans (closed_low x m) (go (either_way v)))
        where
          go : Kept K L s turned v ⊎ Moved v → at u ≤ at' v
          go (inl p) = subst (λ (a : C). at u ≤ L.size a) (sym p.0) (least v l (open_before v o).0)
          go (inr q) = subst (λ (a : C). at u ≤ L.size a) (sym q.now) (grows q.edge q.mem)

      -- a link out of the start improves on nothing when the start is closed in its turn
      not_start : (v : ℕ) → Moved v → u ≢ start
      not_start v q e = no via_here (at v) via_start (moved_less v q) known more
        where
          w : C
          w = q.edge.cost

          via_here : ℕ
          via_here = L.size (K.add (dist_of K s u) w)

          via_start : ℕ
          via_start = L.size (K.add K.none w)

          known : at v ≤ via_start
          known =
              subst (λ (x : ℕ). at x ≤ via_start) q.leads
              (I.from_start q.edge (subst (λ (x : ℕ). Memᴰ q.edge (out x)) e q.mem))

          more : via_start ≤ via_here
          more =
              L.add_mono_left K.none (dist_of K s u) w L.none_cost (I.costs u) (G.costs u lu q.edge q.mem)
              (omega (arith, L.none_size))

          no : (a b c : ℕ) → a < b → b ≤ c → c ≤ a → ⊥
          no a b c x y z = omega arith

      -- the distance by which v is reached through a closed lane does not change with it
      via_closed : (v x : ℕ) (w : C) → Memᴰ x (u ∷ order) → prev_of turned v ≡ x
          → K.add (dist_of K s x) w ≡ K.add (dist_of K turned (prev_of turned v)) w
      via_closed v x w m p = rw p (ap (λ (a : C). K.add a w) (sym (closed_kept x m).0))

      turn_origin : (v : ℕ) → at' v < far → Origin K out start turned (u ∷ order) v
      turn_origin v h = ⊎_elim stays moves (either_way v)
        where
          old : Kept K L s turned v → (w : C) → ByStart K out start s v w ⊎ ByClosed K out start s order v w
              → ByStart K out start turned v w ⊎ ByClosed K out start turned (u ∷ order) v w
          old p w (inl x) = inl (p.1 ∙ x.0, p.0 ∙ x.1)
          old p w (inr x) =
              let m : Memᴰ (prev_of s v) (u ∷ order) = mathlib.Core.List.Memᴰ.tail x.1 in
              inr (λ e. x.0 (sym p.1 ∙ e), rw p.1 m, p.0 ∙ x.2 ∙ via_closed v (prev_of s v) w m p.1)

          stays : Kept K L s turned v → Origin K out start turned (u ∷ order) v
          stays p =
              let O : Origin K out start s order v = I.origin v (subst (λ (a : C). L.size a < far) p.0 h) in
              record {
                edge = O.edge;
                mem = subst (λ (y : ℕ). Memᴰ O.edge (out y)) (sym p.1) O.mem;
                leads = O.leads;
                how = old p O.edge.cost O.how;
              }

          moves : Moved v → Origin K out start turned (u ∷ order) v
          moves q =
              record {
                edge = q.edge;
                mem = subst (λ (y : ℕ). Memᴰ q.edge (out y)) (sym q.from) q.mem;
                leads = q.leads;
                how = inr (
                  λ e. not_start v q (sym q.from ∙ e),
                  mathlib.Core.List.Memᴰ.head q.from,
                  q.now ∙ via_closed v u q.edge.cost (mathlib.Core.List.Memᴰ.head refl) q.from,
                );
              }

      turn_reached : (v : ℕ) → Memᴰ v (u ∷ order) → at' v < far
      turn_reached v m =
          subst (λ (a : C). L.size a < far) (sym (closed_kept v m).0)
          (⊎_elim (λ e. subst (λ (y : ℕ). at y < far) (sym e) reach) (λ m'. I.reached v m') (mathlib.Core.List.Memᴰ.cases_cons m))

      pub turn_invariant : Invariant K L out size n start goal (settled K out u s) (u ∷ order)
      unfolding turned marked
      turn_invariant =
          record {
            dist_length = turn_is.dist_length ∙ I.dist_length;
            prev_length = turn_is.prev_length ∙ I.prev_length;
            marks = omega (arith, ap zeros turn_is.same_marks, zeros_set s.closed u ou, I.marks);
            costs = turn_is.costs;
            cover = turn_cover;
            goal_open = λ m. ⊎_elim (λ e. not-goal (sym e)) I.goal_open (mathlib.Core.List.Memᴰ.cases_cons m);
            lanes = λ v m. ⊎_elim (λ e. rw e lu) (λ m'. I.lanes v m') (mathlib.Core.List.Memᴰ.cases_cons m);
            reached = turn_reached;
            from_start = λ e m. le_trans (turn_falls e.to) (I.from_start e m);
            from_closed = turn_closed;
            sorted = turn_sorted;
            origin = turn_origin;
            ranked =
                ranked_same s.prev turned.prev start (u ∷ order) (λ x m. (closed_kept x m).1)
                (origin_from K out start s order u (I.origin u reach), I.ranked);
          }
