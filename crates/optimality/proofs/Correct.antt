-- The search is correct: what it finds is a walk at its cost, no walk costs less, and it refuses only where there is none.
use mathlib.Core.Bool.{Bool, cond, false, true}
use mathlib.Core.List.Memᴰ
use mathlib.Core.List.{List, Memᴰ, [], ◌∷◌}
use mathlib.Core.Logic.{inl, inr, ⊎_elim, ◌⊎◌, ◌≢◌}
use mathlib.Core.Path.{ap, refl, subst, sym, ◌≡◌}
use Prim.Native.Nat.{suc, zero, ℕ, ◌+◌, ◌<◌, ◌≤◌}
use native.Mathlib.Nat.{le_antisymm, le_refl, le_trans, not-suc-le-zero}
use native.Mathlib.Omega.{arith}
use lib.Dec.{eqb}
use lib.ListN.{get_or-eq_default, length}
use borrow.Author.Tests.{eq-eqb, eqb-false, eqb-true}
use Rattle.search.specs.Search.{Costs, Edge, Result, State, dist_of, found, least_open, rebuild, refused, run, searched, settled}
use Rattle.optimality.proofs.Invariant.{ByClosed, ByStart, From, Invariant, Linking, Origin, Ranked, first_invariant, origin_from}
use Rattle.optimality.proofs.Invariant.{turn_invariant, zeros, zeros_set}
use Rattle.optimality.proofs.Laws.{Laws}
use Rattle.optimality.proofs.Least.{IsLeast, Open, least_is}
use Rattle.optimality.proofs.Relaxing.{Each, limit, prev_of, settled_marks, size_at, size_via}
use Rattle.optimality.proofs.Walks.{Best, Correct, IsWalk, Linked, Walk, cheapest, cheapest_least, cost_grows, cost_from}
use Rattle.optimality.proofs.Walks.{linked_cheapest, linked_inside, step_cost_law, step_link, walk_finite, walk_cost}

module _ {C : Type 0} (K : Costs C) (L : Laws K) (out : ℕ → List (Edge C)) (size n start goal : ℕ) (few : n ≤ size) (in_start : start < n)
    (G : Linking K L out n) where
  abbrev far : ℕ
  far = limit K L

  abbrev cost_from_law : C → ℕ → List ℕ → C
  cost_from_law c u vs = cost_from K out c u vs

  abbrev via : C → ℕ → ℕ → C
  via c u v = K.add c (cheapest K (out u) v)

  inside : (u v : ℕ) → u < n → Linked (out u) v → v < n
  inside = linked_inside K L out n start goal in_start G

  link : (u v : ℕ) → u < n → Linked (out u) v → L.LinkCost (cheapest K (out u) v)
  link = step_link K L out n start goal in_start G

  via_cost : (u v : ℕ) (c : C) → u < n → L.Cost c → Linked (out u) v → L.Cost (via c u v)
  via_cost = step_cost_law K L out n start goal in_start G

  module _ (s : State C) (order : List ℕ) (I : Invariant K L out size n start goal s order) where
    abbrev at : ℕ → ℕ
    at v = size_at K L s v

    -- no link out of u, which is reached at a, improves on a distance
    abbrev Under : ℕ → C → Type 0
    Under u a = Each (out u) (λ e. at e.to ≤ size_via K L a e)

    -- so no step from u at a cost of no less does
    step_under : (u v : ℕ) (c a : C) → u < n → L.Cost c → L.Cost a → Linked (out u) v → Under u a → L.size a ≤ L.size c
        → at v ≤ L.size (via c u v)
    step_under u v c a lu gc ga l under h =
        let i = linked_cheapest K L (out u) v (G.costs u lu) l in
        let w = i.edge.cost in
        let here : at v ≤ L.size (K.add a w) = subst (λ (x : ℕ). at x ≤ L.size (K.add a w)) i.leads (under i.edge i.mem) in
        let there : L.size (K.add a w) ≤ L.size (K.add c w) = L.add_mono_left a c w ga gc (G.costs u lu i.edge i.mem) h in
        subst (λ (y : C). at v ≤ L.size (K.add c y)) i.cost (le_trans here there)

    -- ---- no walk costs less than the least open lane
    module _ (d : ℕ) (low : (v : ℕ) → v < n → Open s v → d ≤ at v) where
      after : (vs : List ℕ) (v : ℕ) (c : C) → L.Cost c → v < n → at v ≤ L.size c → Walk out goal v vs → d ≤ L.size (cost_from_law c v vs)
      after [] v c g lv h walk =
          ⊎_elim (λ o. le_trans (low v lv o) h) (λ m. absurd (I.goal_open (Memᴰ.cast (sym walk) m))) (I.cover v lv)
      after (x ∷ vs) v c g lv h walk =
          go (I.cover v lv) (λ h'. after vs x (via c v x) (via_cost v x c lv g walk.0) (inside v x lv walk.0) h' walk.1)
        where
          go : Open s v ⊎ Memᴰ v order → (at x ≤ L.size (via c v x) → d ≤ L.size (cost_from_law c v (x ∷ vs)))
              → d ≤ L.size (cost_from_law c v (x ∷ vs))
          go (inl o) rest = le_trans (low v lv o) (le_trans h (cost_grows K L out n start goal in_start G (x ∷ vs) v c lv g walk))
          go (inr m) rest = rest (step_under v x c (dist_of K s v) lv g (I.costs v) walk.0 (I.from_closed v m) h)

      no_less : (l : List ℕ) → IsWalk out start goal l → d ≤ L.size (walk_cost K out l)
      no_less [] h = absurd h
      no_less (u ∷ []) h = absurd h
      no_less (u ∷ (v ∷ vs)) h =
          let lu : u < n = rw h.0 in_start in
          let lk = h.1.0 in
          let under : Under u K.none = rw h.0 I.from_start in
          after vs v (via K.none u v) (via_cost u v K.none lu L.none_cost lk) (inside u v lu lk)
          (step_under u v K.none K.none lu L.none_cost L.none_cost lk under (le_refl _)) h.1.1

    -- ---- the walk of the predecessors
    -- a distance by one link out of p, on which none improves, is that by the cheapest
    by_cheapest : (p v : ℕ) (a : C) → p < n → L.Cost a → (e : Edge C) → Memᴰ e (out p) → e.to ≡ v → dist_of K s v ≡ K.add a e.cost
        → Under p a → dist_of K s v ≡ via a p v
    by_cheapest p v a lp ga e m le d under =
        let l : Linked (out p) v = record { edge = e; mem = m; leads = le } in
        let w = link p v lp l in
        let more = L.add_mono_right a _ e.cost ga w (G.costs p lp e m) (cheapest_least K L (out p) v (G.costs p lp) e m le) in
        L.unique _ _ (I.costs v) (L.add_cost a _ ga w)
        (le_antisymm (step_under p v a a lp ga ga l under (le_refl _)) (subst (λ (y : C). L.size (via a p v) ≤ L.size y) (sym d) more))

    record Back (bound : ℕ) (c : C) (l : List ℕ) : Type 0 where
      walk : IsWalk out start goal l
      cost : walk_cost K out l ≡ c
      short : length l ≤ bound

    longer : (a b : ℕ) (c : C) (l : List ℕ) → a ≤ b → Back a c l → Back b c l
    longer a b c l h r = record { walk = r.walk; cost = r.cost; short = le_trans r.short h }

    abbrev From-here : ℕ → Type 0
    From-here v = Origin K out start s order v

    link_of : (v : ℕ) → From-here v → Linked (out (prev_of s v)) v
    link_of v O = record { edge = O.edge; mem = O.mem; leads = O.leads }

    -- the predecessor is the start: the walk is whole
    finish : (v : ℕ) (vs : List ℕ) (k : ℕ) → prev_of s v ≡ start → From-here v → Walk out goal v vs
        → Back (suc (suc (length vs))) (cost_from_law (dist_of K s v) v vs) (rebuild (suc k) s.prev start v (v ∷ vs))
    unfolding rebuild
    finish v vs k e O walk =
        rw (eq-eqb (prev_of s v) start e) (record {
          walk = (e, (link_of v O, walk));
          cost = ap (λ (y : C). cost_from_law y v vs)
              (sym (go O.how));
          short = le_refl _;
        })
      where
        p : ℕ
        p = prev_of s v

        go : ByStart K out start s v O.edge.cost ⊎ ByClosed K out start s order v O.edge.cost → dist_of K s v ≡ via K.none p v
        go (inl x) =
            by_cheapest p v K.none (subst (λ (y : ℕ). y < n) (sym e) in_start) L.none_cost O.edge O.mem O.leads x.1
            (subst (λ (y : ℕ). Under y K.none) (sym e) I.from_start)
        go (inr x) = absurd (x.0 e)

    -- it is not: one lane more
    onward : (v : ℕ) → prev_of s v ≢ start → From-here v
        → (dist_of K s v ≡ via (dist_of K s (prev_of s v)) (prev_of s v) v) × Memᴰ (prev_of s v) order
    onward v ne O = go O.how
      where
        p : ℕ
        p = prev_of s v

        go : ByStart K out start s v O.edge.cost ⊎ ByClosed K out start s order v O.edge.cost
            → (dist_of K s v ≡ via (dist_of K s p) p v) × Memᴰ p order
        go (inl x) = absurd (ne x.0)
        go (inr x) = (
          by_cheapest p v (dist_of K s p) (I.lanes p x.1) (I.costs p) O.edge O.mem O.leads x.2
              (I.from_closed p x.1),
          x.1,
        )

    -- back from v, whose predecessor is the start or one of the lanes `us`, with k steps of fuel
    abbrev Backward : List ℕ → ℕ → List ℕ → ℕ → Type 0
    Backward us v vs k = Back (length us + suc (suc (length vs))) (cost_from_law (dist_of K s v) v vs) (rebuild k s.prev start v (v ∷ vs))

    abbrev BackFrom : List ℕ → Type 0
    BackFrom us =
        (v : ℕ) (vs : List ℕ) (k : ℕ) → length us < k → at v < far → Walk out goal v vs → From s.prev start us v → Backward us v vs k

    ends : (us : List ℕ) (v : ℕ) (vs : List ℕ) (k : ℕ) → length us < k → at v < far → Walk out goal v vs → prev_of s v ≡ start
        → Backward us v vs k
    ends us v vs zero lk lv walk e = absurd (not-suc-le-zero lk)
    ends us v vs (suc k) lk lv walk e = longer _ _ _ _ (omega arith) (finish v vs k e (I.origin v lv) walk)

    earlier : (u : ℕ) (us : List ℕ) → From s.prev start us u → BackFrom us → (v : ℕ) (vs : List ℕ) (k : ℕ) → suc (length us) < suc k
        → at v < far
        → Walk out goal v vs → Memᴰ (prev_of s v) (u ∷ us) → (b : Bool) → eqb (prev_of s v) start ≡ b → Backward (u ∷ us) v vs (suc k)
    unfolding rebuild
    earlier u us fu back v vs k lk lv walk m true t = longer _ _ _ _ (omega arith) (finish v vs k (eqb-true _ _ t) (I.origin v lv) walk)
    earlier u us fu back v vs k lk lv walk m false t = go (Memᴰ.cases_cons m)
      where
        p : ℕ
        p = prev_of s v

        O : From-here v
        O = I.origin v lv

        on : (dist_of K s v ≡ via (dist_of K s p) p v) × Memᴰ p order
        on = onward v (eqb-false _ _ t) O

        go : (p ≡ u) ⊎ Memᴰ p us → Backward (u ∷ us) v vs (suc k)
        go (inl e) =
            rw (t, on.0)
            (longer _ _ _ _ (omega arith)
            (back p (v ∷ vs) k (omega arith) (I.reached p on.1) (link_of v O, walk) (subst (From s.prev start us) (sym e) fu)))
        go (inr m') = longer _ _ _ _ (omega arith) (back v vs (suc k) (omega arith) lv walk (inr m'))

    back_more : (u : ℕ) (us : List ℕ) → From s.prev start us u → BackFrom us → BackFrom (u ∷ us)
    back_more u us fu back v vs k lk lv walk (inl e) = ends (u ∷ us) v vs k lk lv walk e
    back_more u us fu back v vs zero lk lv walk (inr m) = absurd (not-suc-le-zero lk)
    back_more u us fu back v vs (suc k) lk lv walk (inr m) = earlier u us fu back v vs k lk lv walk m (eqb (prev_of s v) start) refl

    back_none : BackFrom []
    back_none v vs k lk lv walk (inl e) = ends [] v vs k lk lv walk e
    back_none v vs k lk lv walk (inr m) = absurd (Memᴰ.not-nil m)

    back : (us : List ℕ) → Ranked s.prev start us → BackFrom us
    back [] r = back_none
    back (u ∷ us) r = back_more u us r.0 (back us r.1)

    answered : at goal < far → Open s goal → ((v : ℕ) → v < n → Open s v → at goal ≤ at v)
        → Best K L out size start goal (rebuild size s.prev start goal (goal ∷ [])) (dist_of K s goal)
    answered d o low =
        let room : length order < size = omega (arith, I.marks, zeros_set s.closed goal o) in
        let b = back order I.ranked goal [] size room d refl (origin_from K out start s order goal (I.origin goal d)) in
        record { walk = b.walk; cost = b.cost; least = no_less (at goal) low; short = omega (arith, b.short, room) }

  -- ---- the turns
  module _ (num : ℕ → ℕ) where
    abbrev Run : ℕ → State C → Result C
    Run k s = run K num out size n start goal k s

    run_correct : (k : ℕ) (s : State C) (order : List ℕ) → Invariant K L out size n start goal s order → zeros s.closed < k
        → Correct K L out size start goal (Run k s)
    unfolding run
    run_correct zero s order I h = absurd (not-suc-le-zero h)
    run_correct (suc k) s order I h =
        go (eqb u size) (eqb u goal) refl refl i.is (λ order' I' h'. run_correct k (settled K out u s) order' I' h')
      where
        u : ℕ
        u = least_open K num size s n

        i : IsLeast K L num size s n u
        i = least_is K L num size s I.costs n

        next : Result C
        next = Run k (settled K out u s)

        answer : Result C
        answer = found (rebuild size s.prev start goal (goal ∷ [])) (dist_of K s goal)

        none : u ≡ size → (l : List ℕ) → IsWalk out start goal l → ⊥
        none e l w = no far (L.size (walk_cost K out l)) (no_less s order I far all_far l w) finite
          where
            unreached : dist_of K s u ≡ K.infinite
            unreached = get_or-eq_default s.dist K.infinite (omega (arith, I.dist_length))

            all_far : (v : ℕ) → v < n → Open s v → far ≤ size_at K L s v
            all_far v lv o = subst (λ (a : C). L.size a ≤ size_at K L s v) unreached (i.all v lv o)

            finite : L.size (walk_cost K out l) < far
            finite = walk_finite K L out n start goal in_start G l w

            no : (a b : ℕ) → a ≤ b → b < a → ⊥
            no a b x y = omega arith

        at_goal : u ≡ goal → Open s u → size_at K L s u < far
            → Best K L out size start goal (rebuild size s.prev start goal (goal ∷ [])) (dist_of K s goal)
        at_goal e o r =
            answered s order I (subst (λ (x : ℕ). size_at K L s x < far) e r) (subst (Open s) e o)
            (subst (λ (x : ℕ). (v : ℕ) → v < n → Open s v → size_at K L s x ≤ size_at K L s v) e i.all)

        go : (x y : Bool) → eqb u size ≡ x → eqb u goal ≡ y → (u ≡ size) ⊎ ((u < n) × Open s u × (size_at K L s u < far))
            → ((order' : List ℕ) → Invariant K L out size n start goal (settled K out u s) order' → zeros (settled K out u s).closed < k
            → Correct K L out size start goal next)
            → Correct K L out size start goal (cond x refused (cond y answer next))
        go true y px py q ih = none (eqb-true _ _ px)
        go false y px py (inl e) ih = absurd (eqb-false _ _ px e)
        go false true px py (inr q) ih = at_goal (eqb-true _ _ py) q.1 q.2
        go false false px py (inr q) ih =
            ih (u ∷ order) (turn_invariant K L out size n start goal few in_start G s order I u q.0 q.1 q.2 (eqb-false _ _ py)
            i.all)
            (omega (arith, zeros_set s.closed u q.1, ap zeros (settled_marks K out u s)))

    pub search_correct : Correct K L out size start goal (searched K num out size n start goal)
    unfolding searched
    search_correct =
        let I = first_invariant K L out size n start goal few in_start G in
        run_correct (suc size) _ [] I (omega (arith, I.marks))
