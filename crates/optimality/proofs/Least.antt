-- `least_open` gives the open lane of least cost, and of those the one with the largest number.
use mathlib.Core.Bool.{Bool, cond, false, not, true, ◌&&◌, ◌||◌}
use mathlib.Core.Logic.{inl, inr, ⊎_elim, ◌⊎◌}
use mathlib.Core.Path.{refl, subst, sym, ◌∙◌, ◌≡◌}
use Prim.Native.Nat.{suc, zero, ℕ, ◌<◌, ◌≤◌}
use native.Mathlib.Nat.{eq-or-lt_of_le, le_of_suc-le-suc, le_refl, le_trans, not-suc-le-zero}
use native.Mathlib.Omega.{arith}
use lib.Dec.{eqb, ltb}
use lib.ListN.{get_or}
use borrow.Author.Tests.{eqb-false, eqb-true, ltb-false, ltb-true}
use Rattle.search.specs.Search.{Costs, State, dist_of, least_open}
use Rattle.optimality.proofs.Laws.{Laws}
use Rattle.optimality.proofs.Relaxing.{AllCosts, limit, size_at}

-- lane v is not closed
abbrev pub Open : {C : Type 0} → State C → ℕ → Type 0
Open s v = get_or s.closed v 1 ≡ 0

-- of the lanes below k, b is the open one of least cost, and of those the one with the largest number; it is `size` where none has an entry
pub record IsLeast {C : Type 0} (K : Costs C) (L : Laws K) (num : ℕ → ℕ) (size : ℕ) (s : State C) (k b : ℕ) : Type 0 where
  pub all : (v : ℕ) → v < k → Open s v → size_at K L s b ≤ size_at K L s v
  pub is : (b ≡ size) ⊎ ((b < k) × Open s b × (size_at K L s b < limit K L))
  pub largest : (v : ℕ) → v < k → Open s v → size_at K L s v < limit K L → size_at K L s b ≡ size_at K L s v → num v ≤ num b

module _ {C : Type 0} (K : Costs C) (L : Laws K) (num : ℕ → ℕ) (size : ℕ) (s : State C) (costs : AllCosts K L s) where
  abbrev d : ℕ → C
  d v = dist_of K s v

  abbrev at : ℕ → ℕ
  at v = size_at K L s v

  abbrev far : ℕ
  far = limit K L

  abbrev Least : ℕ → ℕ → Type 0
  Least k b = IsLeast K L num size s k b

  less : (a b : ℕ) → K.lt (d a) (d b) ≡ true → at a < at b
  less a b t = ltb-true _ _ (sym (L.lt_size (d a) (d b) (costs a) (costs b)) ∙ t)

  not_less : (a b : ℕ) → K.lt (d a) (d b) ≡ false → at b ≤ at a
  not_less a b t = ltb-false _ _ (sym (L.lt_size (d a) (d b) (costs a) (costs b)) ∙ t)

  reached : (a : ℕ) → K.lt (d a) K.infinite ≡ true → at a < far
  reached a t = ltb-true _ _ (sym (L.lt_size (d a) K.infinite (costs a) L.infinite_cost) ∙ t)

  unreached : (a : ℕ) → K.lt (d a) K.infinite ≡ false → far ≤ at a
  unreached a t = ltb-false _ _ (sym (L.lt_size (d a) K.infinite (costs a) L.infinite_cost) ∙ t)

  -- a statement on each lane below k + 1, from one on each below k and one on k
  one_more : {k : ℕ} (Q : ℕ → Type 0) → ((v : ℕ) → v < k → Q v) → Q k → (v : ℕ) → v < suc k → Q v
  one_more Q h q v l = ⊎_elim (λ e. subst Q (sym e) q) (λ l'. h v l') (eq-or-lt_of_le (le_of_suc-le-suc l))

  abbrev NoLess : ℕ → ℕ → Type 0
  NoLess b v = Open s v → at b ≤ at v

  abbrev NoLarger : ℕ → ℕ → Type 0
  NoLarger b v = Open s v → at v < far → at b ≡ at v → num v ≤ num b

  kept : (k b : ℕ) → Least k b → NoLess b k → NoLarger b k → Least (suc k) b
  kept k b i h g =
      record {
        all = one_more (NoLess b) i.all h;
        is = ⊎_elim (λ e. inl e) (λ p. inr (omega (arith, p.0), p.1, p.2)) i.is;
        largest = one_more (NoLarger b) i.largest g;
      }

  taken : (k b : ℕ) → Least k b → Open s k → at k < far → at k ≤ at b → (at k ≡ at b → num b ≤ num k) → Least (suc k) k
  taken k b i o t h g =
      record {
        all = one_more (NoLess k) (λ v l o'. le_trans h (i.all v l o')) (λ o'. le_refl _);
        is = inr (le_refl _, o, t);
        largest = one_more (NoLarger k) (λ v l o' r e. larger v (i.all v l o') e (i.largest v l o' r)) (λ o' r e. le_refl _);
      }
    where
      larger : (v : ℕ) → at b ≤ at v → at k ≡ at v → (at b ≡ at v → num v ≤ num b) → num v ≤ num k
      larger v l e n = let q : at b ≡ at v = omega arith in le_trans (n q) (g (e ∙ sym q))

  step : (k b : ℕ) → Least k b → (o t l m x : Bool) → eqb (get_or s.closed k 1) 0 ≡ o → K.lt (d k) K.infinite ≡ t
      → K.lt (d k) (d b) ≡ l → K.lt (d b) (d k) ≡ m → ltb (num b) (num k) ≡ x
      → Least (suc k) (cond (o && (t && (l || (not m && x)))) k b)
  step k b i false t l m x po pt pl pm px = kept k b i (λ o. absurd (eqb-false _ _ po o)) (λ o. absurd (eqb-false _ _ po o))
  step k b i true false l m x po pt pl pm px =
      kept k b i (λ o. le_trans (L.most _ (costs b)) (unreached k pt)) (λ o r. absurd (no (at k) far r (unreached k pt)))
    where
      no : (a b : ℕ) → a < b → b ≤ a → ⊥
      no a b x y = omega arith
  step k b i true true true m x po pt pl pm px =
      taken k b i (eqb-true _ _ po) (reached k pt) (omega (arith, less k b pl)) (λ e. absurd (no (at k) (at b) (less k b pl) e))
    where
      no : (a b : ℕ) → a < b → a ≡ b → ⊥
      no a b x y = omega arith
  step k b i true true false true x po pt pl pm px = kept k b i (λ o. not_less k b pl) (λ o r e. absurd (no (at b) (at k) (less b k pm) e))
    where
      no : (a b : ℕ) → a < b → a ≡ b → ⊥
      no a b x y = omega arith
  step k b i true true false false true po pt pl pm px =
      taken k b i (eqb-true _ _ po) (reached k pt) (not_less b k pm) (λ e. before (num b) (num k) (ltb-true _ _ px))
    where
      before : (a b : ℕ) → a < b → a ≤ b
      before a b h = omega arith
  step k b i true true false false false po pt pl pm px = kept k b i (λ o. not_less k b pl) (λ o r e. ltb-false _ _ px)

  pub least_is : (k : ℕ) → IsLeast K L num size s k (least_open K num size s k)
  unfolding least_open
  least_is zero = record { all = λ v l. absurd (not-suc-le-zero l); is = inl refl; largest = λ v l. absurd (not-suc-le-zero l) }
  least_is (suc k) = step k (least_open K num size s k) (least_is k) _ _ _ _ _ refl refl refl refl refl
