-- `reconstruct` in the heap form: it ends, reads no predecessor that is missing, and gives the chain that the array form rebuilds.
use mathlib.Core.Bool.{Bool, false, true, true≢false}
use mathlib.Core.List.Memᴰ
use mathlib.Core.List.{List, Memᴰ, map, [], ◌∷◌}
use mathlib.Core.Logic.{inl, inr, ⊎_elim}
use mathlib.Core.Option.{some-injective, some}
use mathlib.Core.Path.{ap, refl, subst, sym, ◌∙◌, ◌≡◌}
use Prim.Native.Nat.{suc, zero, ℕ, ◌<◌}
use native.Mathlib.Nat.{not-suc-le-zero}
use native.Mathlib.Omega.{arith}
use lib.Dec.{eqb}
use lib.ListN.{length}
use borrow.Author.Tests.{eq-eqb, eqb-false, eqb-true}
use Rattle.search.specs.Search.{Costs, Edge, State, rebuild}
use Rattle.optimality.specs.Heap.{Frontier, Rebuilds, back, further}
use Rattle.optimality.proofs.Invariant.{From, Invariant, Ranked, origin_from, zeros_set}
use Rattle.optimality.proofs.Laws.{Laws}
use Rattle.optimality.proofs.Least.{Open}
use Rattle.optimality.proofs.Relaxing.{limit, prev_of, size_at}

-- there is one chain at most
pub rebuilds_one : {C : Type 0} {f : Frontier C} {start cur : ℕ} {chain l m : List ℕ} → Rebuilds f start cur chain l
    → Rebuilds f start cur chain m → l ≡ m
rebuilds_one (back h) (back h') = refl
rebuilds_one (back h) (further h' ne R) = absurd (ne (some-injective _ _ (sym h' ∙ h)))
rebuilds_one (further h ne R) (back h') = absurd (ne (some-injective _ _ (sym h ∙ h')))
rebuilds_one {f = f} {start = start} {chain = chain} {m = m} (further h ne R) (further h' ne' R') =
    rebuilds_one R
    (subst (λ (p : ℕ). Rebuilds f start p (p ∷ chain) m) (some-injective _ _ (sym h' ∙ h)) R')

-- a frontier has the predecessor of each lane that is reached, by their numbers
module _ {C : Type 0} (K : Costs C) (L : Laws K) (num : ℕ → ℕ) (out : ℕ → List (Edge C)) (size n start goal : ℕ) (in_start : start < n)
    (in-goal : goal < n)
    (distinct : (a b : ℕ) → a < n → b < n → num a ≡ num b → a ≡ b)
    (s : State C) (order : List ℕ) (I : Invariant K L out size n start goal s order) (f : Frontier C)
    (prev : (v : ℕ) → v < n → size_at K L s v < limit K L → f.prev (num v) ≡ some (num (prev_of s v))) where
  abbrev Rebuilt : ℕ → List ℕ → List ℕ → Type 0
  Rebuilt cur chain l = Rebuilds f (num start) (num cur) (map num chain) (map num l)

  abbrev Reached : ℕ → Type 0
  Reached v = (v < n) × (size_at K L s v < limit K L)

  step : (v : ℕ) (chain : List ℕ) (k : ℕ) → Reached v → prev_of s v < n → (b : Bool) → eqb (prev_of s v) start ≡ b
      → (b ≡ false → Rebuilt (prev_of s v) (prev_of s v ∷ chain) (rebuild k s.prev start (prev_of s v) (prev_of s v ∷ chain)))
      → Rebuilt v chain (rebuild (suc k) s.prev start v chain)
  unfolding rebuild
  step v chain k l lp true t more =
      rw t (subst (λ (p : ℕ). Rebuilds f (num start) (num v) (map num chain) (num p ∷ map num chain)) (sym (eqb-true _ _ t))
      (back (prev v l.0 l.1 ∙ ap (λ (p : ℕ). some (num p)) (eqb-true _ _ t))))
  step v chain k l lp false t more =
      rw t (further (prev v l.0 l.1) (λ e. eqb-false _ _ t (distinct (prev_of s v) start lp in_start e)) (more refl))

  -- back from v, whose predecessor is the start or one of the lanes `us`, which were closed one after the other
  all_back : (us : List ℕ) → Ranked s.prev start us → ((x : ℕ) → Memᴰ x us → Reached x) → (v : ℕ) (chain : List ℕ) (k : ℕ)
      → length us < k → Reached v → From s.prev start us v → Rebuilt v chain (rebuild k s.prev start v chain)
  all_back us r far v chain zero lk l from = absurd (not-suc-le-zero lk)
  all_back us r far v chain (suc k) lk l (inl e) =
      step v chain k l (subst (λ (p : ℕ). p < n) (sym e) in_start) (eqb (prev_of s v) start) refl
      (λ t. absurd (true≢false (sym (eq-eqb _ _ e) ∙ t)))
  all_back [] r far v chain (suc k) lk l (inr m) = absurd (Memᴰ.not-nil m)
  all_back (u ∷ us) r far v chain (suc k) lk l (inr m) =
      ⊎_elim
      (λ e. step v chain k l (far (prev_of s v) m).0 (eqb (prev_of s v) start) refl
      (λ t. all_back us r.1 (λ x m'. far x (Memᴰ.tail m')) (prev_of s v) (prev_of s v ∷ chain) k (omega arith) (far (prev_of s v) m)
      (subst (From s.prev start us) (sym e) r.0)))
      (λ m'. all_back us r.1 (λ x q. far x (Memᴰ.tail q)) v chain (suc k) (omega arith) l (inr m'))
      (Memᴰ.cases_cons m)

  -- from the goal, which is open and reached
  pub goal_back : Open s goal → size_at K L s goal < limit K L → Rebuilt goal (goal ∷ []) (rebuild size s.prev start goal (goal ∷ []))
  goal_back o l =
      all_back order I.ranked (λ x m. (I.lanes x m, I.reached x m)) goal (goal ∷ []) size
      (omega (arith, I.marks, zeros_set s.closed goal o)) (in-goal, l)
      (origin_from K out start s order goal (I.origin goal l))
