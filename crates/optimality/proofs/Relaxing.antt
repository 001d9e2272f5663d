-- What relaxing the links of a lane makes of the search's state: distances only fall, each by one of the links.
use mathlib.Core.Bool.{Bool, cond, false, true}
use mathlib.Core.List.Memᴰ
use mathlib.Core.List.{List, Memᴰ, [], ◌∷◌}
use mathlib.Core.Logic.{inl, inr, ⊎_elim, ◌⊎◌, ◌≢◌}
use mathlib.Core.Path.{ap, refl, subst, sym, ◌∙◌, ◌≡◌}
use Prim.Native.Nat.{ℕ, ◌<◌, ◌≤◌}
use native.Mathlib.Decide.{ℕ_discrete}
use native.Mathlib.Nat.{le_of_eq}
use native.Mathlib.Omega.{arith}
use lib.ListN.{get_or, length, length-set, set}
use lib.Seq.{get_or-set_other, get_or-set_same}
use borrow.Author.Tests.{ltb-false, ltb-true}
use Rattle.search.specs.Search.{Costs, Edge, State, dist_of, expanded, marked, relaxed, settled}
use Rattle.optimality.proofs.Laws.{Laws}

abbrev pub prev_of : {C : Type 0} → State C → ℕ → ℕ
prev_of s v = get_or s.prev v 0

-- each of the links has a property
abbrev pub Each : {C : Type 0} → List (Edge C) → (Edge C → Type 0) → Type 0
Each {C} es P = (e : Edge C) → Memᴰ e es → P e

module _ {C : Type 0} (K : Costs C) (L : Laws K) where
  -- the size of a lane's distance, of the infinity, and of a cost with one link more
  abbrev pub size_at : State C → ℕ → ℕ
  size_at s v = L.size (dist_of K s v)

  abbrev pub limit : ℕ
  limit = L.size K.infinite

  abbrev pub size_via : C → Edge C → ℕ
  size_via c e = L.size (K.add c e.cost)

  abbrev pub LinkCosts : List (Edge C) → Type 0
  LinkCosts es = Each es (λ e. L.LinkCost e.cost)

  abbrev pub AllCosts : State C → Type 0
  AllCosts s = (v : ℕ) → L.Cost (dist_of K s v)

  abbrev pub Kept : State C → State C → ℕ → Type 0
  Kept s t v = (dist_of K t v ≡ dist_of K s v) × (prev_of t v ≡ prev_of s v)

  -- lane v has a new, smaller distance by one of the links es out of u, which is reached at c
  pub record Lowered (u : ℕ) (c : C) (es : List (Edge C)) (s t : State C) (v : ℕ) : Type 0 where
    pub edge : Edge C
    pub mem : Memᴰ edge es
    pub leads : edge.to ≡ v
    pub now : dist_of K t v ≡ K.add c edge.cost
    pub from : prev_of t v ≡ u
    pub less : size_via c edge < size_at s v

  -- what the links es out of u, which is reached at c, make of s
  pub record Expanded (u : ℕ) (c : C) (es : List (Edge C)) (s t : State C) : Type 0 where
    pub dist_length : length t.dist ≡ length s.dist
    pub prev_length : length t.prev ≡ length s.prev
    pub same_marks : t.closed ≡ s.closed
    pub costs : AllCosts t
    pub under : Each es (λ e. size_at t e.to ≤ size_via c e)
    pub either : (v : ℕ) → Kept s t v ⊎ Lowered u c es s t v

  pub distances_fall : (u : ℕ) (c : C) (es : List (Edge C)) (s t : State C) → Expanded u c es s t → (v : ℕ) → size_at t v ≤ size_at s v
  distances_fall u c es s t R v = go (R.either v)
    where
      go : Kept s t v ⊎ Lowered u c es s t v → size_at t v ≤ size_at s v
      go (inl p) = omega (arith, ap L.size p.0)
      go (inr q) = omega (arith, ap L.size q.now, q.less)

  only : (e x : Edge C) → Memᴰ x (e ∷ []) → x ≡ e
  only e x m = ⊎_elim (λ p. p) (λ q. absurd (Memᴰ.not-nil q)) (Memᴰ.cases_cons m)

  -- ---- one link
  module _ (u : ℕ) (c : C) (e : Edge C) (s : State C) (cost : L.Cost c) (link : L.LinkCost e.cost) (costs : AllCosts s)
      (in-dist : e.to < length s.dist) (in-prev : e.to < length s.prev) where
    abbrev v : ℕ
    v = e.to

    abbrev d : C
    d = K.add c e.cost

    abbrev t : State C
    t = record { dist = set s.dist v d; prev = set s.prev v u; closed = s.closed }

    d_cost : L.Cost d
    d_cost = L.add_cost c e.cost cost link

    dist_there : dist_of K t v ≡ d
    dist_there = get_or-set_same s.dist v d K.infinite in-dist

    prev_there : prev_of t v ≡ u
    prev_there = get_or-set_same s.prev v u 0 in-prev

    elsewhere : (x : ℕ) → x ≢ v → Kept s t x
    elsewhere x ne = (get_or-set_other s.dist v x d K.infinite ne, get_or-set_other s.prev v x u 0 ne)

    cost_at : (x : ℕ) → Dec (x ≡ v) → L.Cost (dist_of K t x)
    cost_at x (yes p) = subst (λ (y : ℕ). L.Cost (dist_of K t y)) (sym p) (subst L.Cost (sym dist_there) d_cost)
    cost_at x (no ne) = subst L.Cost (sym (elsewhere x ne).0) (costs x)

    lowered : L.size d < size_at s v → Lowered u c (e ∷ []) s t v
    lowered l = record { edge = e; mem = Memᴰ.head refl; leads = refl; now = dist_there; from = prev_there; less = l }

    either_at : L.size d < size_at s v → (x : ℕ) → Dec (x ≡ v) → Kept s t x ⊎ Lowered u c (e ∷ []) s t x
    either_at l x (yes p) = inr (subst (Lowered u c (e ∷ []) s t) (sym p) (lowered l))
    either_at l x (no ne) = inl (elsewhere x ne)

    by_size : (b : Bool) → K.lt d (dist_of K s v) ≡ b → Expanded u c (e ∷ []) s (cond b t s)
    by_size true b =
        let l = ltb-true _ _ (sym (L.lt_size d (dist_of K s v) d_cost (costs v)) ∙ b) in
        record {
          dist_length = length-set s.dist v d;
          prev_length = length-set s.prev v u;
          same_marks = refl;
          costs = λ x. cost_at x (ℕ_discrete x v);
          under = λ x m. rw (only e x m) (le_of_eq (ap L.size dist_there));
          either = λ x. either_at l x (ℕ_discrete x v);
        }
    by_size false b =
        let l = ltb-false _ _ (sym (L.lt_size d (dist_of K s v) d_cost (costs v)) ∙ b) in
        record {
          dist_length = refl;
          prev_length = refl;
          same_marks = refl;
          costs = costs;
          under = λ x m. rw (only e x m) l;
          either = λ x. inl (refl, refl);
        }

    pub relaxed_is : Expanded u c (e ∷ []) s (relaxed K u e.to (K.add c e.cost) s)
    unfolding relaxed
    relaxed_is = by_size (K.lt d (dist_of K s v)) refl

  -- ---- one link, then the others
  module _ (u : ℕ) (c : C) (e : Edge C) (es : List (Edge C)) (s t t' : State C) (R : Expanded u c (e ∷ []) s t)
      (R' : Expanded u c es t t') where
    later : (v : ℕ) → Kept t t' v ⊎ Lowered u c es t t' v → Kept s t v ⊎ Lowered u c (e ∷ []) s t v
        → Kept s t' v ⊎ Lowered u c (e ∷ es) s t' v
    later v (inl p) (inl q) = inl (p.0 ∙ q.0, p.1 ∙ q.1)
    later v (inl p) (inr q) =
        inr (record {
          edge = q.edge;
          mem = Memᴰ.head (only e q.edge q.mem);
          leads = q.leads;
          now = p.0 ∙ q.now;
          from = p.1 ∙ q.from;
          less = q.less;
        })
    later v (inr q) p =
        inr (record {
          edge = q.edge;
          mem = Memᴰ.tail q.mem;
          leads = q.leads;
          now = q.now;
          from = q.from;
          less = omega (arith, q.less, distances_fall u c (e ∷ []) s t R v);
        })

    under_both : (x : Edge C) → (x ≡ e) ⊎ Memᴰ x es → size_at t' x.to ≤ size_via c x
    under_both x (inl p) =
        rw p (omega (arith, distances_fall u c es t t' R' e.to, R.under e (Memᴰ.head refl)))
    under_both x (inr m) = R'.under x m

    both : Expanded u c (e ∷ es) s t'
    both =
        record {
          dist_length = R'.dist_length ∙ R.dist_length;
          prev_length = R'.prev_length ∙ R.prev_length;
          same_marks = R'.same_marks ∙ R.same_marks;
          costs = R'.costs;
          under = λ x m. under_both x (Memᴰ.cases_cons m);
          either = λ v. later v (R'.either v) (R.either v);
        }

  -- ---- a list of links
  pub expanded_is : (es : List (Edge C)) (u size : ℕ) (c : C) (s : State C) → L.Cost c → LinkCosts es → AllCosts s
      → Each es (λ e. e.to < size)
      → length s.dist ≡ size → length s.prev ≡ size → Expanded u c es s (expanded K u c es s)
  unfolding expanded
  expanded_is [] u size c s cost links costs inside ld lp =
      record {
        dist_length = refl;
        prev_length = refl;
        same_marks = refl;
        costs = costs;
        under = λ e m. absurd (Memᴰ.not-nil m);
        either = λ v. inl (refl, refl);
      }
  expanded_is (e ∷ es) u size c s cost links costs inside ld lp =
      both u c e es s t (expanded K u c es t) R
      (expanded_is es u size c t cost (λ x m. links x (Memᴰ.tail m)) R.costs (λ x m. inside x (Memᴰ.tail m))
      (R.dist_length ∙ ld) (R.prev_length ∙ lp))
    where
      t : State C
      t = relaxed K u e.to (K.add c e.cost) s

      into : e.to < size
      into = inside e (Memᴰ.head refl)

      R : Expanded u c (e ∷ []) s t
      R = relaxed_is u c e s cost (links e (Memᴰ.head refl)) costs (omega (arith, ld, into)) (omega (arith, lp, into))

-- ---- the marks
module _ {C : Type 0} (K : Costs C) where
  relaxed_marks : (u v : ℕ) (d : C) (s : State C) → (relaxed K u v d s).closed ≡ s.closed
  unfolding relaxed
  relaxed_marks u v d s = go (K.lt d (dist_of K s v))
    where
      go : (b : Bool) → (cond b (record { dist = set s.dist v d; prev = set s.prev v u; closed = s.closed }) s).closed ≡ s.closed
      go true = refl
      go false = refl

  expanded_marks : (es : List (Edge C)) (u : ℕ) (c : C) (s : State C) → (expanded K u c es s).closed ≡ s.closed
  unfolding expanded
  expanded_marks [] u c s = refl
  expanded_marks (e ∷ es) u c s =
      expanded_marks es u c (relaxed K u e.to (K.add c e.cost) s) ∙ relaxed_marks u e.to (K.add c e.cost) s

  pub settled_marks : (out : ℕ → List (Edge C)) (u : ℕ) (s : State C) → (settled K out u s).closed ≡ set s.closed u 1
  unfolding settled marked
  settled_marks out u s = expanded_marks (out u) u (dist_of K s u) (marked K u s)
