-- Walks along the links of a search: their cost with the cheapest link at each step, and what a right answer is.
use mathlib.Core.Bool.{Bool, cond, false, true, ◌&&◌}
use mathlib.Core.List.Memᴰ
use mathlib.Core.List.{List, Memᴰ, [], ◌∷◌}
use mathlib.Core.Logic.{inl, inr, ◌⊎◌}
use mathlib.Core.Path.{ap, refl, subst, sym, ◌∙◌, ◌≡◌}
use Prim.Native.Nat.{suc, ℕ, ◌<◌, ◌≤◌}
use native.Mathlib.Nat.{le_of_eq, le_refl, le_trans}
use native.Mathlib.Omega.{arith}
use lib.Dec.{eqb}
use lib.ListN.{length}
use borrow.Author.Tests.{eqb-false, eqb-true, ltb-false, ltb-true}
use Rattle.search.specs.Search.{Costs, Edge, Result, found, refused}
use Rattle.optimality.proofs.Invariant.{Linking}
use Rattle.optimality.proofs.Laws.{Laws}
use Rattle.optimality.proofs.Relaxing.{LinkCosts, limit}

-- one of the links es leads to v
pub record Linked {C : Type 0} (es : List (Edge C)) (v : ℕ) : Type 0 where
  pub edge : Edge C
  pub mem : Memᴰ edge es
  pub leads : edge.to ≡ v

-- from u through vs, link by link, to the goal
abbrev pub Walk : {C : Type 0} → (ℕ → List (Edge C)) → ℕ → ℕ → List ℕ → Type 0
Walk out goal u [] = u ≡ goal
Walk out goal u (v ∷ vs) = Linked (out u) v × Walk out goal v vs

-- two or more lanes, from the start to the goal
abbrev pub IsWalk : {C : Type 0} → (ℕ → List (Edge C)) → ℕ → ℕ → List ℕ → Type 0
IsWalk out start goal [] = ⊥
IsWalk out start goal (u ∷ []) = ⊥
IsWalk out start goal (u ∷ (v ∷ vs)) = (u ≡ start) × Walk out goal u (v ∷ vs)

module _ {C : Type 0} (K : Costs C) where
  -- the least cost of those of the links es that lead to v
  unfoldable pub cheapest : List (Edge C) → ℕ → C
  cheapest [] v = K.infinite
  cheapest (e ∷ es) v = cond (eqb e.to v && K.lt e.cost (cheapest es v)) e.cost (cheapest es v)

  abbrev pub cost_from : (ℕ → List (Edge C)) → C → ℕ → List ℕ → C
  cost_from out c u [] = c
  cost_from out c u (v ∷ vs) = cost_from out (K.add c (cheapest (out u) v)) v vs

  abbrev pub walk_cost : (ℕ → List (Edge C)) → List ℕ → C
  walk_cost out [] = K.none
  walk_cost out (u ∷ vs) = cost_from out K.none u vs

-- a found walk is one, costs what is said, no more than any other, and is not too long; there is none where the search refuses
pub record Best {C : Type 0} (K : Costs C) (L : Laws K) (out : ℕ → List (Edge C)) (size start goal : ℕ) (l : List ℕ) (c : C) : Type 0 where
  pub walk : IsWalk out start goal l
  pub cost : walk_cost K out l ≡ c
  pub least : (other : List ℕ) → IsWalk out start goal other → L.size c ≤ L.size (walk_cost K out other)
  pub short : length l ≤ suc size

abbrev pub Correct : {C : Type 0} (K : Costs C) → Laws K → (ℕ → List (Edge C)) → ℕ → ℕ → ℕ → Result C → Type 0
Correct K L out size start goal refused = (l : List ℕ) → IsWalk out start goal l → ⊥
Correct K L out size start goal (found l c) = Best K L out size start goal l c

module _ {C : Type 0} (K : Costs C) (L : Laws K) where
  -- ---- the cheapest link
  cheapest_cost : (es : List (Edge C)) (v : ℕ) → LinkCosts K L es → L.Cost (cheapest K es v)
  unfolding cheapest
  cheapest_cost [] v links = L.infinite_cost
  cheapest_cost (e ∷ es) v links =
      go (eqb e.to v && K.lt e.cost (cheapest K es v)) (cheapest_cost es v (λ x m. links x (Memᴰ.tail m)))
    where
      go : (b : Bool) → L.Cost (cheapest K es v) → L.Cost (cond b e.cost (cheapest K es v))
      go true g = L.link_cost e.cost (links e (Memᴰ.head refl))
      go false g = g

  pub cheapest_least : (es : List (Edge C)) (v : ℕ) → LinkCosts K L es → (e : Edge C) → Memᴰ e es → e.to ≡ v
      → L.size (cheapest K es v) ≤ L.size e.cost
  unfolding cheapest
  cheapest_least [] v links e m p = absurd (Memᴰ.not-nil m)
  cheapest_least (x ∷ es) v links e m p =
      go (eqb x.to v) (K.lt x.cost rest) refl refl (Memᴰ.cases_cons m) (λ m'. cheapest_least es v links' e m' p)
    where
      rest : C
      rest = cheapest K es v

      links' : LinkCosts K L es
      links' y m' = links y (Memᴰ.tail m')

      order : (b : Bool) → K.lt x.cost rest ≡ b → lib.Dec.ltb (L.size x.cost) (L.size rest) ≡ b
      order b q = sym (L.lt_size _ _ (L.link_cost x.cost (links x (Memᴰ.head refl))) (cheapest_cost es v links')) ∙ q

      go : (a b : Bool) → eqb x.to v ≡ a → K.lt x.cost rest ≡ b → (e ≡ x) ⊎ Memᴰ e es
          → (Memᴰ e es → L.size rest ≤ L.size e.cost)
          → L.size (cond (a && b) x.cost rest) ≤ L.size e.cost
      go true true pa pb (inl q) ih = le_of_eq (ap (λ (y : Edge C). L.size y.cost) (sym q))
      go true true pa pb (inr m') ih = let h : L.size x.cost < L.size rest = ltb-true _ _ (order true pb) in omega (arith, h, ih m')
      go true false pa pb (inl q) ih = subst (λ (y : Edge C). L.size rest ≤ L.size y.cost) (sym q) (ltb-false _ _ (order false pb))
      go true false pa pb (inr m') ih = ih m'
      go false b pa pb (inl q) ih = absurd (eqb-false _ _ pa (ap (λ (y : Edge C). y.to) (sym q) ∙ p))
      go false b pa pb (inr m') ih = ih m'

  -- it is one of the links
  pub record IsCheapest (es : List (Edge C)) (v : ℕ) : Type 0 where
    pub edge : Edge C
    pub mem : Memᴰ edge es
    pub leads : edge.to ≡ v
    pub cost : edge.cost ≡ cheapest K es v

  cheapest_or_none : (es : List (Edge C)) (v : ℕ) → (cheapest K es v ≡ K.infinite) ⊎ IsCheapest es v
  unfolding cheapest
  cheapest_or_none [] v = inl refl
  cheapest_or_none (x ∷ es) v = go (eqb x.to v) (K.lt x.cost (cheapest K es v)) refl refl (cheapest_or_none es v)
    where
      keep : eqb x.to v && K.lt x.cost (cheapest K es v) ≡ false → (cheapest K es v ≡ K.infinite) ⊎ IsCheapest es v
          → (cheapest K (x ∷ es) v ≡ K.infinite) ⊎ IsCheapest (x ∷ es) v
      keep f (inl p) = inl (rw f p)
      keep f (inr i) = inr (record { edge = i.edge; mem = Memᴰ.tail i.mem; leads = i.leads; cost = rw f i.cost })

      go : (a b : Bool) → eqb x.to v ≡ a → K.lt x.cost (cheapest K es v) ≡ b → (cheapest K es v ≡ K.infinite) ⊎ IsCheapest es v
          → (cheapest K (x ∷ es) v ≡ K.infinite) ⊎ IsCheapest (x ∷ es) v
      go true true pa pb ih = inr (record { edge = x; mem = Memᴰ.head refl; leads = eqb-true _ _ pa; cost = rw (pa, pb) })
      go true false pa pb ih = keep (rw (pa, pb)) ih
      go false b pa pb ih = keep (rw pa) ih

  pub linked_cheapest : (es : List (Edge C)) (v : ℕ) → LinkCosts K L es → Linked es v → IsCheapest es v
  linked_cheapest es v links l = go (cheapest_or_none es v)
    where
      no : (a b c : ℕ) → a ≡ b → a ≤ c → c < b → ⊥
      no a b c x y z = omega arith

      go : (cheapest K es v ≡ K.infinite) ⊎ IsCheapest es v → IsCheapest es v
      go (inl p) =
          absurd (no (L.size (cheapest K es v)) (limit K L) (L.size l.edge.cost) (ap L.size p)
          (cheapest_least es v links l.edge l.mem l.leads) (L.link_finite l.edge.cost (links l.edge l.mem)))
      go (inr i) = i

  -- ---- the cost of a walk
  module _ (out : ℕ → List (Edge C)) (n start goal : ℕ) (in_start : start < n) (G : Linking K L out n) where
    pub linked_inside : (u v : ℕ) → u < n → Linked (out u) v → v < n
    linked_inside u v lu l = subst (λ (x : ℕ). x < n) l.leads (G.inside u lu l.edge l.mem)

    pub step_link : (u v : ℕ) → u < n → Linked (out u) v → L.LinkCost (cheapest K (out u) v)
    step_link u v lu l =
        let i = linked_cheapest (out u) v (G.costs u lu) l in subst L.LinkCost i.cost (G.costs u lu i.edge i.mem)

    pub step_cost_law : (u v : ℕ) (c : C) → u < n → L.Cost c → Linked (out u) v → L.Cost (K.add c (cheapest K (out u) v))
    step_cost_law u v c lu g l = L.add_cost c _ g (step_link u v lu l)

    costs_from : (vs : List ℕ) (u : ℕ) (c : C) → u < n → L.Cost c → Walk out goal u vs → L.Cost (cost_from K out c u vs)
    costs_from [] u c lu g h = g
    costs_from (v ∷ vs) u c lu g h = costs_from vs v _ (linked_inside u v lu h.0) (step_cost_law u v c lu g h.0) h.1

    pub walk_cost_law : (l : List ℕ) → IsWalk out start goal l → L.Cost (walk_cost K out l)
    walk_cost_law [] h = absurd h
    walk_cost_law (u ∷ []) h = absurd h
    walk_cost_law (u ∷ (v ∷ vs)) h = costs_from (v ∷ vs) u K.none (rw h.0 in_start) L.none_cost h.1

    pub cost_grows : (vs : List ℕ) (u : ℕ) (c : C) → u < n → L.Cost c → Walk out goal u vs → L.size c ≤ L.size (cost_from K out c u vs)
    cost_grows [] u c lu g h = le_refl _
    cost_grows (v ∷ vs) u c lu g h =
        le_trans (L.add_grows c _ g (step_link u v lu h.0))
        (cost_grows vs v _ (linked_inside u v lu h.0) (step_cost_law u v c lu g h.0) h.1)

    finite_from : (vs : List ℕ) (u : ℕ) (c : C) → u < n → L.Cost c → Walk out goal u vs → L.size c < limit K L
        → L.size (cost_from K out c u vs) < limit K L
    finite_from [] u c lu g h l = l
    finite_from (v ∷ vs) u c lu g h l =
        finite_from vs v _ (linked_inside u v lu h.0) (step_cost_law u v c lu g h.0) h.1
        (L.add_finite c _ g (step_link u v lu h.0) l)

    pub walk_finite : (l : List ℕ) → IsWalk out start goal l → L.size (walk_cost K out l) < limit K L
    walk_finite [] h = absurd h
    walk_finite (u ∷ []) h = absurd h
    walk_finite (u ∷ (v ∷ vs)) h = finite_from (v ∷ vs) u K.none (rw h.0 in_start) L.none_cost h.1 L.none_finite
