-- What the heap form answers is what the array form answers, with numbers for rows, and its loop ends.
-- Each open lane with an entry has it in the heap; every other entry is stale, or that of a missing lane. So a popped entry of a lane that
-- is there, and that is not stale, is that of the least open lane, the goal's is never stale, and no lane that is there is expanded twice
-- but the start, which is expanded first without an entry. A missing lane has no edges: whether its entry is stale or not, popping it
-- leaves all else as it is.
use mathlib.Core.Bool.{Bool, false, true}
use mathlib.Core.List.Memᴰ
use mathlib.Core.List.{List, Memᴰ, [], map, ◌∷◌}
use mathlib.Core.Logic.{inl, inr, ⊎_elim, ◌⊎◌, ◌≢◌}
use mathlib.Core.Option.{none}
use mathlib.Core.Path.{ap, ap₂, refl, subst, sym, ◌∙◌, ◌≡◌}
use Prim.Native.Nat.{suc, zero, ℕ, ◌<◌, ◌≤◌}
use native.Mathlib.Decide.{ℕ_discrete}
use native.Mathlib.Nat.{le_antisymm, le_of_eq, le_refl, le_trans}
use native.Mathlib.Omega.{arith}
use lib.Dec.{ltb}
use lib.ListN.{get_or-eq_default, get_or, get_or-replicate, length, length-replicate, replicate, set}
use lib.Seq.{get_or-set_other}
use borrow.Author.Tests.{eq-eqb, ltb-false, ltb-true, ne_eqb}
use Rattle.std.specs.declared.cmp.Ordering.{Ordering}
use Rattle.search.specs.Loops.{replicate_all}
use Rattle.search.specs.Search.{Costs, Edge, Result, State, blank, dist_of, expanded, found, least_open, marked, rebuild, refused, run}
use Rattle.search.specs.Search.{searched, settled}
use Rattle.optimality.specs.Heap.{Ends, Entry, Frontier, Gives, Pops, Rebuilds, Runs, begun, dist_at, empty, ends, expanded_from}
use Rattle.optimality.specs.Heap.{fresh, front, is_stale, numbered, push_all, reached, skipped, stale}
use Rattle.optimality.proofs.HeapChain.{goal_back, rebuilds_one}
use Rattle.optimality.proofs.HeapMatch.{ClosedLow, Current, Listed, Matches, Numbering, Restricts, apart_taken, distinct, entry, kept}
use Rattle.optimality.proofs.HeapMatch.{push_all_law, rest_in, rest_shorter, taken_cases}
use Rattle.optimality.proofs.HeapOrder.{NotBefore, Ordered, Popped, heap_pops, taken_in}
use Rattle.optimality.proofs.Invariant.{Invariant, Linking, first_invariant, open_unmarked, turn_invariant, zeros, zeros_set}
use Rattle.optimality.proofs.Laws.{Laws}
use Rattle.optimality.proofs.Least.{IsLeast, Open, least_is}
use Rattle.optimality.proofs.Relaxing.{limit, settled_marks, size_at}

module _ {C : Type 0} (K : Costs C) (L : Laws K) (num row_of : ℕ → ℕ) (edges out : ℕ → List (Edge C)) (size n start goal : ℕ)
    (few : n ≤ size) (in_start : start < n) (in-goal : goal < n)
    (N : Numbering n num row_of) (R : Restricts K L n num row_of edges out) (G : Linking K L out n)
    (cmp : Entry C → Entry C → Ordering) (O : Ordered K L cmp) where
  abbrev far : ℕ
  far = limit K L

  abbrev at : State C → ℕ → ℕ
  at s v = size_at K L s v

  abbrev IsThere : ℕ → Type 0
  IsThere x = row_of x < n

  abbrev Fits : State C → Frontier C → Type 0
  Fits s f = Matches K L num row_of n s f

  -- ---- the loop
  abbrev Inv : State C → List ℕ → Type 0
  Inv s order = Invariant K L out size n start goal s order

  abbrev least_now : State C → ℕ
  least_now s = least_open K num size s n

  abbrev Is : State C → Type 0
  Is s = (least_now s ≡ size) ⊎ ((least_now s < n) × Open s (least_now s) × (at s (least_now s) < far))

  abbrev grown_from : Frontier C → Entry C → List (Entry C) → Frontier C
  grown_from f e rest = expanded_from K cmp edges (num start) (num goal) f e rest

  module _ (s : State C) (f : Frontier C) (order : List ℕ) (I : Inv s order) (M : Fits s f) where
    least : IsLeast K L num size s n (least_now s)
    least = least_is K L num size s I.costs n

    -- nothing in the heap: no lane is open
    none_open : f.heap ≡ [] → least_now s ≡ size
    none_open p = go least.is
      where
        go : Is s → least_now s ≡ size
        go (inl e) = e
        go (inr q) =
            let m = M.full (least_now s) q.0 q.1 q.2 in
            absurd (Memᴰ.not-nil (subst (λ (h : List (Entry C)). Memᴰ (entry K num s (least_now s)) h) p m))

    module _ (e : Entry C) (rest : List (Entry C)) (P : Pops cmp f.heap e rest) where
      inn : Memᴰ e f.heap
      inn = taken_in P.taken

      cost : L.Cost e.cost
      cost = M.costs e inn

      abbrev u : ℕ
      u = row_of e.lane

      not_before : (x : Entry C) → Memᴰ x f.heap → NotBefore K L x e
      not_before x m = O.not_before x e (M.costs x m) cost (P.greatest x m)

      -- an entry that is stale, or whose lane is missing, goes
      dropped : (IsThere e.lane → at s u < L.size e.cost) → Fits s (skipped K f rest)
      dropped l =
          record {
            dist = M.dist;
            prev = M.prev;
            full = λ v lv o r. ⊎_elim (λ p. absurd (no v lv p)) (λ m. m) (taken_cases P.taken (M.full v lv o r));
            costs = λ x m. M.costs x (rest_in P.taken m);
            each = λ x m. M.each x (rest_in P.taken m);
            apart = (apart_taken K L num row_of n P.taken M.apart).0;
          }
        where
          no : (v : ℕ) → v < n → entry K num s v ≡ e → ⊥
          no v lv p =
              clash (at s u) (L.size e.cost) (l (subst (λ (w : ℕ). w < n) (sym row) lv))
              (ap (λ (x : Entry C). L.size x.cost) (sym p) ∙ ap (at s) (sym row))
            where
              row : u ≡ v
              row = ap (λ (x : Entry C). row_of x.lane) (sym p) ∙ N.row v lv

              clash : (a b : ℕ) → a < b → b ≡ a → ⊥
              clash a b x y = omega arith

      -- ---- an entry of a lane that is there
      module _ (lu : u < n) where
        number : num u ≡ e.lane
        number = N.number e.lane lu

        here : Listed K L num row_of n s u e.cost
        here = M.each e inn lu

        dist_here : dist_at K f e.lane ≡ dist_of K s u
        dist_here = subst (λ (x : ℕ). dist_at K f x ≡ dist_of K s u) number (M.dist u lu)

        -- one that is not stale is the least open lane's
        popped : e.cost ≡ dist_of K s u → Open s u → least_now s ≡ u
        popped ce o = go least.is
          where
            ke : L.size e.cost ≡ at s u
            ke = ap L.size ce

            ru : at s u < far
            ru = subst (λ (k : ℕ). k < far) ke here.finite

            go : Is s → least_now s ≡ u
            go (inl p) = absurd (no (at s (least_now s)) (at s u) far unreached (least.all u lu o) ru)
              where
                unreached : at s (least_now s) ≡ far
                unreached = ap L.size (get_or-eq_default s.dist K.infinite (omega (arith, I.dist_length)))

                no : (a b c : ℕ) → a ≡ c → a ≤ b → b < c → ⊥
                no a b c x y z = omega arith
            go (inr q) =
                let b = least_now s in
                let mb = M.full b q.0 q.1 q.2 in
                let same : L.size e.cost ≡ at s b =
                le_antisymm (not_before (entry K num s b) mb).0 (le_trans (least.all u lu o) (le_of_eq (sym ke))) in
                distinct N b u q.0 lu
                (le_antisymm (subst (λ (x : ℕ). num b ≤ x) (sym number) ((not_before (entry K num s b) mb).1 same))
                (least.largest u lu o ru (sym same ∙ ke)))

        -- the goal's entry is not stale
        goal_current : u ≡ goal → (e.cost ≡ dist_of K s u) × Open s u
        goal_current g = go here.current
          where
            open_goal : Open s u
            open_goal = ⊎_elim (λ o. o) (λ m. absurd (I.goal_open (subst (λ (x : ℕ). Memᴰ x order) g m))) (I.cover u lu)

            go : Current K L num row_of n s u e.cost → (e.cost ≡ dist_of K s u) × Open s u
            go (inl l) =
                let r : at s u < far = less (at s u) (L.size e.cost) far l here.finite in
                absurd (no (at s u) (L.size e.cost) l (not_before (entry K num s u) (M.full u lu open_goal r)).0)
              where
                less : (a b c : ℕ) → a < b → b < c → a < c
                less a b c x y = omega arith

                no : (a b : ℕ) → a < b → b ≤ a → ⊥
                no a b x y = omega arith
            go (inr q) = q

        -- and its chain is rebuilt
        popped_back : u ≡ goal
            → Rebuilds f (num start) (num goal) (num goal ∷ []) (map num (rebuild size s.prev start goal (goal ∷ [])))
        popped_back g =
            let q = goal_current g in
            goal_back K L num out size n start goal in_start in-goal (distinct N) s order I f M.prev (subst (Open s) g q.1)
            (subst (λ (x : ℕ). at s x < far) g (subst (λ (c : C). L.size c < far) q.0 here.finite))

        is_stale_law : is_stale K f e ≡ true → at s u < L.size e.cost
        is_stale_law t =
            ltb-true _ _ (sym (L.lt_size (dist_of K s u) e.cost (I.costs u) cost)
            ∙ ap (λ (c : C). K.lt c e.cost) (sym dist_here) ∙ t)

        is_current : is_stale K f e ≡ false → (e.cost ≡ dist_of K s u) × Open s u
        is_current t = go here.current
          where
            go : Current K L num row_of n s u e.cost → (e.cost ≡ dist_of K s u) × Open s u
            go (inl g) =
                absurd (no (L.size e.cost) (at s u)
                (ltb-false _ _ (sym (L.lt_size (dist_of K s u) e.cost (I.costs u) cost)
                ∙ ap (λ (c : C). K.lt c e.cost) (sym dist_here) ∙ t)) g)
              where
                no : (a b : ℕ) → a ≤ b → b < a → ⊥
                no a b x y = omega arith
            go (inr q) = q

        -- a closed lane goes with its entry
        closed : e.cost ≡ dist_of K s u → Fits (marked K u s) (skipped K f rest)
        unfolding marked
        closed ce =
            record {
              dist = M.dist;
              prev = M.prev;
              full = λ v lv o r. full_at v lv (open_unmarked s.closed u v o) r;
              costs = λ x m. M.costs x (rest_in P.taken m);
              each = λ x m l. let q = M.each x (rest_in P.taken m) l in
                  record { finite = q.finite; current = current_at x m l q.current (ℕ_discrete (row_of x.lane) u) };
              apart = (apart_taken K L num row_of n P.taken M.apart).0;
            }
          where
            full_at : (v : ℕ) → v < n → Open s v × (v ≢ u) → at s v < far → Memᴰ (entry K num s v) rest
            full_at v lv o r =
                ⊎_elim (λ p. absurd (o.1 (sym (N.row v lv) ∙ ap (λ (x : Entry C). row_of x.lane) p))) (λ m. m)
                (taken_cases P.taken (M.full v lv o.0 r))

            current_at : (x : Entry C) → Memᴰ x rest → IsThere x.lane → Current K L num row_of n s (row_of x.lane) x.cost
                → Dec (row_of x.lane ≡ u)
                → (at s (row_of x.lane) < L.size x.cost) ⊎ ((x.cost ≡ dist_of K s (row_of x.lane))
                × (get_or (set s.closed u 1) (row_of x.lane) 1 ≡ 0))
            current_at x m l (inl g) d = inl g
            current_at x m l (inr q) (yes p) =
                absurd ((apart_taken K L num row_of n P.taken M.apart).1 x m lu (sym number ∙ ap num (sym p) ∙ N.number x.lane l)
                (ap L.size (ce ∙ ap (dist_of K s) (sym p) ∙ sym q.0)))
            current_at x m l (inr q) (no ne) = inr (q.0, get_or-set_other s.closed u (row_of x.lane) 1 1 ne ∙ q.1)

        closed_low : e.cost ≡ dist_of K s u → Open s u → ClosedLow K L num row_of n (marked K u s) (L.size e.cost)
        unfolding marked
        closed_low ce o w lw = go (ℕ_discrete w u) (I.cover w lw)
          where
            go : Dec (w ≡ u) → Open s w ⊎ Memᴰ w order → (get_or (set s.closed u 1) w 1 ≡ 0) ⊎ (at s w ≤ L.size e.cost)
            go (yes p) c = inr (le_of_eq (ap (at s) p ∙ ap L.size (sym ce)))
            go (no ne) (inl a) = inl (get_or-set_other s.closed u w 1 1 ne ∙ a)
            go (no ne) (inr m) = inr (le_trans (I.sorted w u m lu o) (le_of_eq (ap L.size (sym ce))))

      -- ---- what a turn does
      -- a lane that is there and whose entry is not stale is closed in both forms
      record Closed : Type 0 where
        lane : u < n
        matches : Fits (settled K out u s) (grown_from f e rest)
        invariant : Inv (settled K out u s) (u ∷ order)
        was_open : Open s u
        was_least : least_now s ≡ u
        no_goal : u ≢ goal

      -- a missing lane goes
      record Gone : Type 0 where
        is : grown_from f e rest ≡ skipped K f rest
        matches : Fits s (skipped K f rest)

      close : (lu : u < n) → e.lane ≢ num goal → is_stale K f e ≡ false → Closed
      unfolding settled marked
      close lu ne t =
          let q = is_current lu t in
          let l = popped lu q.0 q.1 in
          let A =
          push_all_law K L num row_of n N size few (edges (num u)) u e.cost (marked K u s) (skipped K f rest) (closed lu q.0) cost
          (R.costs u lu) I.costs I.dist_length I.prev_length (closed_low lu q.0 q.1) in
          let same : expanded K u e.cost (kept n row_of (edges (num u))) (marked K u s) ≡ settled K out u s =
          ap₂ (λ (x : C) (es : List (Edge C)). expanded K u x es (marked K u s)) q.0 (sym (R.rows u lu)) in
          let low : (v : ℕ) → v < n → Open s v → at s u ≤ at s v =
          subst (λ (x : ℕ). (v : ℕ) → v < n → Open s v → at s x ≤ at s v) l least.all in
          let ng : u ≢ goal = λ g. ne (sym (number lu) ∙ ap num g) in
          record {
            lane = lu;
            matches =
                subst (λ (x : ℕ). Fits (settled K out u s) (push_all K x e.cost (edges x) (skipped K f rest))) (number lu)
                (subst (λ (x : State C). Fits x (push_all K (num u) e.cost (edges (num u)) (skipped K f rest))) same A);
            invariant =
                turn_invariant K L out size n start goal few in_start G s order I u lu q.1
                (subst (λ (x : C). L.size x < far) q.0 (here lu).finite) ng low;
            was_open = q.1;
            was_least = l;
            no_goal = ng;
          }

      gone : n ≤ u → Gone
      unfolding push_all
      gone l =
          record {
            is = ap (λ (es : List (Edge C)). push_all K e.lane e.cost es (skipped K f rest)) (R.missing e.lane l);
            matches = dropped (λ lu. absurd (no u lu l));
          }
        where
          no : (a : ℕ) → a < n → n ≤ a → ⊥
          no a x y = omega arith

      expands : e.lane ≢ num goal → is_stale K f e ≡ false → Gone ⊎ Closed
      expands ne t = go (ltb u n) refl
        where
          go : (b : Bool) → ltb u n ≡ b → Gone ⊎ Closed
          go true b = inr (close (ltb-true u n b) ne t)
          go false b = inl (gone (ltb-false u n b))

      skips : is_stale K f e ≡ true → Fits s (skipped K f rest)
      skips t = dropped (λ lu. is_stale_law lu t)

      -- the goal is there
      goal_row : e.lane ≡ num goal → u ≡ goal
      goal_row g = ap row_of g ∙ N.row goal in-goal

      goal_there : e.lane ≡ num goal → u < n
      goal_there g = subst (λ (x : ℕ). x < n) (sym (goal_row g)) in-goal

  -- ---- what one turn of the array form does
  abbrev Run : ℕ → State C → Result C
  Run k s = run K num out size n start goal k s

  below_size : (a b : ℕ) → a ≡ b → b < n → a ≡ size → ⊥
  below_size a b p q r = omega arith

  run_none : (k : ℕ) (s : State C) → least_now s ≡ size → refused ≡ Run (suc k) s
  unfolding run
  run_none k s e = rw (eq-eqb (least_now s) size e)

  run_goal : (k : ℕ) (s : State C) → least_now s ≡ goal
      → found (rebuild size s.prev start goal (goal ∷ [])) (dist_of K s goal) ≡ Run (suc k) s
  unfolding run
  run_goal k s e = rw (ne_eqb (least_now s) size (below_size (least_now s) goal e in-goal), eq-eqb (least_now s) goal e)

  run_next : (k u : ℕ) (s : State C) → least_now s ≡ u → u < n → u ≢ goal → Run k (settled K out u s) ≡ Run (suc k) s
  unfolding run
  run_next k u s e l ne =
      rw (ne_eqb (least_now s) size (below_size (least_now s) u e l), ne_eqb (least_now s) goal (λ p. ne (sym e ∙ p)))
      (ap (λ (x : ℕ). Run k (settled K out x s)) (sym e))

  -- one lane fewer is open after it
  fewer : (s : State C) (u k : ℕ) → Open s u → zeros s.closed ≤ suc k → zeros (settled K out u s).closed ≤ k
  fewer s u k o h = omega (arith, ap zeros (settled_marks K out u s), zeros_set s.closed u o)

  none_left : (s : State C) (u : ℕ) → Open s u → zeros s.closed ≤ 0 → ⊥
  none_left s u o h = omega (arith, zeros_set s.closed u o)

  abbrev Answer : ℕ → State C → Result C
  Answer k s = numbered num (Run k s)

  turn : (k : ℕ) (s : State C) (u : ℕ) (r : Result C) → least_now s ≡ u → u < n → Open s u → u ≢ goal → zeros s.closed ≤ k
      → ((k' : ℕ) → zeros (settled K out u s).closed ≤ k' → r ≡ Answer (suc k') (settled K out u s)) → r ≡ Answer (suc k) s
  turn zero s u r e l o ne h ih = absurd (none_left s u o h)
  turn (suc k) s u r e l o ne h ih = ih k (fewer s u k o h) ∙ ap (numbered num) (run_next (suc k) u s e l ne)

  -- ---- a run of the heap form
  abbrev RunsFrom : Frontier C → Result C → Type 0
  RunsFrom f r = Runs K cmp edges (num start) (num goal) f r

  runs_same : {f : Frontier C} {r : Result C} → RunsFrom f r → (s : State C) (order : List ℕ) (k : ℕ) → Inv s order → Fits s f
      → zeros s.closed ≤ k
      → r ≡ Answer (suc k) s
  runs_same {f} (empty z) s order k I M h = ap (numbered num) (run_none k s (none_open s f order I M z))
  runs_same {f} (reached {e = e} {rest = rest} P g B) s order k I M h =
      let lu = goal_there s f order I M e rest P g in
      let gu = goal_row s f order I M e rest P g in
      let q = goal_current s f order I M e rest P lu gu in
      ap₂ found (rebuilds_one B (popped_back s f order I M e rest P lu gu)) (q.0 ∙ ap (dist_of K s) gu)
      ∙ ap (numbered num) (run_goal k s (popped s f order I M e rest P lu q.0 q.1 ∙ gu))
  runs_same {f} (stale {e = e} {rest = rest} P ne t Q) s order k I M h = runs_same Q s order k I (skips s f order I M e rest P t) h
  runs_same {f} (fresh {e = e} {rest = rest} {r = r} P ne t Q) s order k I M h =
      ⊎_elim (λ g. runs_same Q s order k I (subst (Fits s) (sym g.is) g.matches) h)
      (λ c. turn k s (row_of e.lane) r c.was_least c.lane c.was_open c.no_goal h
      (λ k' h'. runs_same Q (settled K out (row_of e.lane) s) (row_of e.lane ∷ order) k' c.invariant c.matches h'))
      (expands s f order I M e rest P ne t)

  -- ---- every run ends: each turn takes an entry out of the heap or closes a lane
  abbrev EndsFrom : Frontier C → Type 0
  EndsFrom f = Ends K cmp edges (num start) (num goal) f

  abbrev AllEnd : ℕ → ℕ → Type 0
  AllEnd k j =
      (s : State C) (f : Frontier C) (order : List ℕ) → Inv s order → Fits s f → zeros s.closed ≤ k → length f.heap ≤ j
      → EndsFrom f

  -- from fewer open lanes, or from as many and a shorter heap
  one_turn : (k j : ℕ) → ((k' j' : ℕ) → k ≡ suc k' → AllEnd k' j') → ((j' : ℕ) → j ≡ suc j' → AllEnd k j') → AllEnd k j
  one_turn k j closing shorter s f order I M h g =
      ends (λ e rest P g. (_, popped_back s f order I M e rest P (goal_there s f order I M e rest P g) (goal_row s f order I M e rest P g)))
      (λ e rest P ne t. less e rest P (skips s f order I M e rest P t))
      (λ e rest P ne t. ⊎_elim (λ x. subst EndsFrom (sym x.is) (less e rest P x.matches)) (λ c. lower e rest P c)
      (expands s f order I M e rest P ne t))
    where
      less : (e : Entry C) (rest : List (Entry C)) → Pops cmp f.heap e rest → Fits s (skipped K f rest) → EndsFrom (skipped K f rest)
      less e rest P M' = go j refl
        where
          l : length f.heap ≡ suc (length rest)
          l = rest_shorter P.taken

          go : (i : ℕ) → j ≡ i → EndsFrom (skipped K f rest)
          go zero p = absurd (omega (arith, l))
          go (suc i) p = shorter i p s (skipped K f rest) order I M' h (omega (arith, l))

      lower : (e : Entry C) (rest : List (Entry C)) (P : Pops cmp f.heap e rest) → Closed s f order I M e rest P
          → EndsFrom (grown_from f e rest)
      lower e rest P c = go k refl
        where
          u : ℕ
          u = row_of e.lane

          go : (i : ℕ) → k ≡ i → EndsFrom (grown_from f e rest)
          go zero p = absurd (none_left s u c.was_open (omega arith))
          go (suc i) p =
              closing i (length (grown_from f e rest).heap) p (settled K out u s) (grown_from f e rest) (u ∷ order) c.invariant
              c.matches (fewer s u i c.was_open (omega arith)) (le_refl _)

  no_suc : (a : ℕ) → 0 ≡ suc a → ⊥
  no_suc a p = omega arith

  pred : (a b : ℕ) → suc a ≡ suc b → a ≡ b
  pred a b p = omega arith

  by_heap : (k : ℕ) → ((k' j' : ℕ) → k ≡ suc k' → AllEnd k' j') → (j : ℕ) → AllEnd k j
  by_heap k closing zero = one_turn k zero closing (λ j' p. absurd (no_suc j' p))
  by_heap k closing (suc j) = one_turn k (suc j) closing (λ j' p. subst (AllEnd k) (pred j j' p) (by_heap k closing j))

  all_end : (k j : ℕ) → AllEnd k j
  all_end zero j = by_heap zero (λ k' j' p. absurd (no_suc k' p)) j
  all_end (suc k) j = by_heap (suc k) (λ k' j' p. subst (λ (i : ℕ). AllEnd i j') (pred k k' p) (all_end k j')) j

  -- ---- a run: a heap that is not empty pops, and the turns come to an end
  record SomeRun (f : Frontier C) : Type 0 where
    result : Result C
    runs : RunsFrom f result

  abbrev Onward : Frontier C → Type 0
  Onward f = (s : State C) (order : List ℕ) → Inv s order → Fits s f → SomeRun f

  module _ (f : Frontier C)
      (skip : (e : Entry C) (rest : List (Entry C)) → Pops cmp f.heap e rest → e.lane ≢ num goal → is_stale K f e ≡ true
      → Onward (skipped K f rest))
      (more : (e : Entry C) (rest : List (Entry C)) → Pops cmp f.heap e rest → e.lane ≢ num goal → is_stale K f e ≡ false
      → Onward (grown_from f e rest)) where
    one_more : Onward f
    one_more s order I M = ⊎_elim (λ e. record { result = refused; runs = empty e }) by_entry (heap_pops K L cmp O f.heap M.costs)
      where
        by_entry : Popped K L cmp f.heap → SomeRun f
        by_entry Q = go (ℕ_discrete e.lane (num goal)) (is_stale K f e) refl
          where
            e : Entry C
            e = Q.entry

            rest : List (Entry C)
            rest = Q.rest

            P : Pops cmp f.heap e rest
            P = Q.pops

            onward : e.lane ≢ num goal → is_stale K f e ≡ false → SomeRun (grown_from f e rest)
            onward ne t =
                ⊎_elim (λ g. more e rest P ne t s order I (subst (Fits s) (sym g.is) g.matches))
                (λ c. more e rest P ne t (settled K out (row_of e.lane) s) (row_of e.lane ∷ order) c.invariant c.matches)
                (expands s f order I M e rest P ne t)

            go : Dec (e.lane ≡ num goal) → (b : Bool) → is_stale K f e ≡ b → SomeRun f
            go (yes g) b t =
                let lu = goal_there s f order I M e rest P g in
                let gu = goal_row s f order I M e rest P g in
                record {
                  result = found (map num (rebuild size s.prev start goal (goal ∷ []))) e.cost;
                  runs = reached P g (popped_back s f order I M e rest P lu gu);
                }
            go (no ne) true t =
                let S = skip e rest P ne t s order I (skips s f order I M e rest P t) in
                record { result = S.result; runs = stale P ne t S.runs }
            go (no ne) false t = let S = onward ne t in record { result = S.result; runs = fresh P ne t S.runs }

  some_run : {f : Frontier C} → EndsFrom f → Onward f
  some_run {f} (ends back skip more) =
      one_more f (λ e rest P ne t. some_run (skip e rest P ne t)) (λ e rest P ne t. some_run (more e rest P ne t))

  -- ---- as `lane_path` begins
  abbrev blank_front : Frontier C
  blank_front = front K (λ x. none) (λ x. none) []

  none_matches : Fits (blank K size) blank_front
  unfolding blank
  none_matches =
      record {
        dist = λ v lv. sym (replicate_all size v K.infinite);
        prev = λ v lv r. absurd (far_off v r);
        full = λ v lv o r. absurd (far_off v r);
        costs = λ x m. absurd (Memᴰ.not-nil m);
        each = λ x m. absurd (Memᴰ.not-nil m);
        apart = tt;
      }
    where
      far_off : (v : ℕ) → L.size (get_or (replicate size K.infinite) v K.infinite) < far → ⊥
      far_off v r =
          no (L.size (get_or (replicate size K.infinite) v K.infinite)) far (ap L.size (replicate_all size v K.infinite)) r
        where
          no : (a b : ℕ) → a ≡ b → a < b → ⊥
          no a b x y = omega arith

  first_state : State C
  first_state = expanded K start K.none (out start) (blank K size)

  abbrev begins : Frontier C
  begins = begun K cmp edges (num start) (num goal)

  first_matches : Fits first_state begins
  unfolding blank first_state
  first_matches =
      subst (λ (es : List (Edge C)). Fits (expanded K start K.none es (blank K size)) begins) (sym (R.rows start in_start))
      (push_all_law K L num row_of n N size few (edges (num start)) start K.none (blank K size) blank_front none_matches L.none_cost
      (R.costs start in_start)
      (λ w. subst L.Cost (sym (replicate_all size w K.infinite)) L.infinite_cost) (length-replicate size K.infinite)
      (length-replicate size 0)
      (λ w lw. inl (get_or-replicate size w 0 1 (omega arith))))

  first_holds : Inv first_state []
  unfolding first_state
  first_holds = first_invariant K L out size n start goal few in_start G

  first_zeros : zeros first_state.closed ≤ size
  first_zeros = omega (arith, first_holds.marks)

  -- each run gives what the array form answers
  heap_same : {r : Result C} → RunsFrom begins r → r ≡ numbered num (searched K num out size n start goal)
  unfolding searched first_state
  heap_same Q = runs_same Q first_state [] size first_holds first_matches first_zeros

  heap_finishes : EndsFrom begins
  heap_finishes = all_end size (length begins.heap) first_state begins [] first_holds first_matches first_zeros (le_refl _)

  heap_runs : SomeRun begins
  heap_runs = some_run heap_finishes first_state [] first_holds first_matches

  -- THE TWO FORMS: the heap form gives what the array form answers
  pub heap_gives : Gives K cmp edges (num start) (num goal) (begun K cmp edges (num start) (num goal))
      (numbered num (searched K num out size n start goal))
  heap_gives =
      record { runs = subst (RunsFrom begins) (heap_same heap_runs.runs) heap_runs.runs; only = heap_same; ends = heap_finishes }
