-- What the heap form asks of its order, and that `Ord for State` of route.rs meets it: costs are neither NaN nor -0, so `total_cmp` is their
-- order. So a heap of costs that is not empty has a greatest entry: the cheapest, and among equals that with the largest number.
use mathlib.Core.Bool.{Bool, false, not, true, true≢false}
use mathlib.Core.List.Memᴰ
use mathlib.Core.List.{List, Memᴰ, [], ◌∷◌}
use mathlib.Core.Logic.{inl, inr, ⊎_elim, ◌⊎◌, ◌≢◌}
use mathlib.Core.Path.{ap, ap₂, refl, subst, sym, ◌∙◌, ◌≡◌}
use Prim.Native.Nat.{ℕ, ◌<◌, ◌≤◌}
use native.Mathlib.Nat.{le_antisymm, le_of_lt, le_refl, le_trans}
use native.Mathlib.Omega.{arith}
use lib.Dec.{T, ltb}
use lib.Ieee.{Float, eq, fin, inf, is_nan, lt, nan}
use lib.Ieee.Exact.{HasValue}
use borrow.Author.Tests.{ltb-false, ltb-true}
use Rattle.exact.specs.Sums.{Cost, cost_lt}
use Rattle.exact.specs.Values.{U, size_of}
use Rattle.float.specs.Choose.{compare_bools, pick, total_of}
use Rattle.float.specs.Sign.{is_negative}
use Rattle.std.specs.declared.cmp.Ordering.{Ordering}
use Rattle.std.specs.declared.cmp.Ordering.TheVariants.{Equal, Greater, Less}
use Rattle.float_laws.specs.Compare.{neither_less}
use Rattle.search.specs.LaneGraph.{f32_costs}
use Rattle.search.specs.Search.{Costs}
use Rattle.optimality.specs.Heap.{Entry, Pops, Taken, compare_entries, compare_numbers, first, later, then_with}
use Rattle.optimality.proofs.Laws.{Laws, f32_laws}

pub taken_in : {C : Type 0} {e : Entry C} {xs ys : List (Entry C)} → Taken e xs ys → Memᴰ e xs
taken_in first = Memᴰ.head refl
taken_in (later t) = Memᴰ.tail (taken_in t)

module _ {C : Type 0} (K : Costs C) (L : Laws K) where
  -- x costs no less than e, and has no larger number where the costs are equal
  abbrev pub NotBefore : Entry C → Entry C → Type 0
  NotBefore x e = (L.size e.cost ≤ L.size x.cost) × (L.size e.cost ≡ L.size x.cost → x.lane ≤ e.lane)

  -- among costs, the entries that are not greater than e are those that do not go before it
  pub record Ordered (cmp : Entry C → Entry C → Ordering) : Type 0 where
    pub not_before : (x e : Entry C) → L.Cost x.cost → L.Cost e.cost → cmp x e ≢ Greater → NotBefore x e
    pub not_greater : (x e : Entry C) → L.Cost x.cost → L.Cost e.cost → NotBefore x e → cmp x e ≢ Greater

  -- ---- a heap of costs has a greatest entry
  either_first : (x e : Entry C) → NotBefore x e ⊎ NotBefore e x
  either_first x e = go (ltb a b) (ltb b a) (ltb v u) refl refl refl
    where
      a : ℕ
      a = L.size x.cost

      b : ℕ
      b = L.size e.cost

      u : ℕ
      u = x.lane

      v : ℕ
      v = e.lane

      go : (p q r : Bool) → ltb a b ≡ p → ltb b a ≡ q → ltb v u ≡ r → NotBefore x e ⊎ NotBefore e x
      go true q r tp tq tr = let l = ltb-true a b tp in inr (omega arith, λ s. omega arith)
      go false true r tp tq tr = let l = ltb-true b a tq in inl (omega arith, λ s. omega arith)
      go false false true tp tq tr = inr (ltb-false b a tq, λ s. le_of_lt (ltb-true v u tr))
      go false false false tp tq tr = inl (ltb-false a b tp, λ s. ltb-false v u tr)

  before_all : (x y e : Entry C) → NotBefore y e → NotBefore e x → NotBefore y x
  before_all x y e p q = (
    le_trans q.0 p.0,
    λ s. let l = p.0 in let m = q.0 in le_trans (p.1 (omega arith)) (q.1 (omega arith)),
  )

  record First (heap : List (Entry C)) : Type 0 where
    entry : Entry C
    rest : List (Entry C)
    taken : Taken entry heap rest
    all : (x : Entry C) → Memᴰ x heap → NotBefore x entry

  itself : (x : Entry C) → NotBefore x x
  itself x = (le_refl _, λ s. le_refl _)

  first_of : (heap : List (Entry C)) → (heap ≡ []) ⊎ First heap
  first_of [] = inl refl
  first_of (x ∷ xs) = inr (⊎_elim alone among (first_of xs))
    where
      alone : xs ≡ [] → First (x ∷ xs)
      alone p =
          record {
            entry = x;
            rest = xs;
            taken = first;
            all = λ y m. ⊎_elim (λ e. subst (λ (z : Entry C). NotBefore z x) (sym e) (itself x))
                (λ m'. absurd (Memᴰ.not-nil (subst (λ (h : List (Entry C)). Memᴰ y h) p m'))) (Memᴰ.cases_cons m);
          }

      among : First xs → First (x ∷ xs)
      among F = ⊎_elim kept taken (either_first x F.entry)
        where
          kept : NotBefore x F.entry → First (x ∷ xs)
          kept h =
              record {
                entry = F.entry;
                rest = x ∷ F.rest;
                taken = later F.taken;
                all = λ y m. ⊎_elim (λ e. subst (λ (z : Entry C). NotBefore z F.entry) (sym e) h) (F.all y) (Memᴰ.cases_cons m);
              }

          taken : NotBefore F.entry x → First (x ∷ xs)
          taken h =
              record {
                entry = x;
                rest = xs;
                taken = first;
                all = λ y m. ⊎_elim (λ e. subst (λ (z : Entry C). NotBefore z x) (sym e) (itself x))
                    (λ m'. before_all x y F.entry (F.all y m') h) (Memᴰ.cases_cons m);
              }

  pub record Popped (cmp : Entry C → Entry C → Ordering) (heap : List (Entry C)) : Type 0 where
    pub entry : Entry C
    pub rest : List (Entry C)
    pub pops : Pops cmp heap entry rest

  pub heap_pops : (cmp : Entry C → Entry C → Ordering) → Ordered cmp → (heap : List (Entry C))
      → ((x : Entry C) → Memᴰ x heap → L.Cost x.cost) → (heap ≡ []) ⊎ Popped cmp heap
  heap_pops cmp O heap costs = ⊎_elim (λ p. inl p) (λ F. inr (popped F)) (first_of heap)
    where
      popped : First heap → Popped cmp heap
      popped F =
          record {
            entry = F.entry;
            rest = F.rest;
            pops =
                record {
                  taken = F.taken;
                  greatest = λ x m. O.not_greater x F.entry (costs x m) (costs F.entry (taken_in F.taken)) (F.all x m);
                };
          }

-- ---- `Ord for State`
positive : (a : Float) → Cost a → T (not (is_nan a)) × (is_negative a ≡ false)
unfolding is_nan is_negative
positive a (inl p) = rw p (tt, refl)
positive a (inr u) = go a (size_of a) u.value
  where
    go : (x : Float) (n : ℕ) → HasValue x false n U → T (not (is_nan x)) × (is_negative x ≡ false)
    go nan n h = absurd h
    go (inf s) n h = absurd h
    go (fin s m e) n h = (tt, h.0)

-- `total_cmp` of costs is their order
total_cost : (a b : Float) → Cost a → Cost b → total_of a b ≡ compare_numbers (size_of a) (size_of b)
total_cost a b p q =
    go (lt a b) (lt b a) refl refl
    ∙ ap₂ (λ (x y : Bool). pick x Less (pick y Greater Equal)) (cost_lt a b p q) (cost_lt b a q p)
  where
    go : (x y : Bool) → lt a b ≡ x → lt b a ≡ y
        → pick x Less (pick y Greater (pick (eq a b) (compare_bools (is_negative b) (is_negative a)) (compare_bools (is_nan a) (is_nan b))))
        ≡ pick x Less (pick y Greater Equal)
    go true y e f = refl
    go false true e f = refl
    go false false e f = rw (neither_less a b (positive a p).0 (positive b q).0 e f, (positive a p).1, (positive b q).1) refl

abbrev pub is_greater : Ordering → Bool
is_greater Less = false
is_greater Equal = false
is_greater Greater = true

pub not_greater : (o : Ordering) → is_greater o ≡ false → o ≢ Greater
not_greater o e p = true≢false (sym (ap is_greater p) ∙ e)

-- by one number and, where that is the same, by another
module _ (a b c d : ℕ) where
  abbrev by_both : Bool → Bool → Bool → Bool → Ordering
  by_both p q r s = then_with (pick p Less (pick q Greater Equal)) (pick r Less (pick s Greater Equal))

  abbrev AtMost : Type 0
  AtMost = (a ≤ b) × (a ≡ b → c ≤ d)

  at_most_law : then_with (compare_numbers a b) (compare_numbers c d) ≢ Greater → AtMost
  at_most_law = go (ltb a b) (ltb b a) (ltb c d) (ltb d c) refl refl refl refl
    where
      go : (p q r s : Bool) → ltb a b ≡ p → ltb b a ≡ q → ltb c d ≡ r → ltb d c ≡ s → by_both p q r s ≢ Greater → AtMost
      go true q r s tp tq tr ts g = let l = ltb-true a b tp in (omega arith, λ e. omega arith)
      go false true r s tp tq tr ts g = absurd (g refl)
      go false false true s tp tq tr ts g = (ltb-false b a tq, λ e. let l = ltb-true c d tr in omega arith)
      go false false false true tp tq tr ts g = absurd (g refl)
      go false false false false tp tq tr ts g = (ltb-false b a tq, λ e. ltb-false d c ts)

  not_more : AtMost → then_with (compare_numbers a b) (compare_numbers c d) ≢ Greater
  not_more h = go (ltb a b) (ltb b a) (ltb c d) (ltb d c) refl refl refl refl
    where
      no : (m n : ℕ) → m < n → n ≤ m → ⊥
      no m n x y = omega arith

      go : (p q r s : Bool) → ltb a b ≡ p → ltb b a ≡ q → ltb c d ≡ r → ltb d c ≡ s → by_both p q r s ≢ Greater
      go true q r s tp tq tr ts = not_greater Less refl
      go false true r s tp tq tr ts = absurd (no b a (ltb-true b a tq) h.0)
      go false false true s tp tq tr ts = not_greater Less refl
      go false false false true tp tq tr ts = absurd (no d c (ltb-true d c ts) (h.1 (le_antisymm h.0 (ltb-false a b tp))))
      go false false false false tp tq tr ts = not_greater Equal refl

-- THE ORDER: `Ord for State` puts the smaller cost first, and among equals the larger number
by_numbers : (x e : Entry Float) → Cost x.cost → Cost e.cost
    → compare_entries x e ≡ then_with (compare_numbers (size_of e.cost) (size_of x.cost)) (compare_numbers x.lane e.lane)
by_numbers x e p q = ap (λ (o : Ordering). then_with o (compare_numbers x.lane e.lane)) (total_cost e.cost x.cost q p)

pub entries_ordered : Ordered f32_costs f32_laws compare_entries
unfolding f32_laws
entries_ordered =
    record {
      not_before = λ x e p q g. at_most_law _ _ _ _ (λ h. g (by_numbers x e p q ∙ h));
      not_greater = λ x e p q h g. not_more _ _ _ _ h (sym (by_numbers x e p q) ∙ g);
    }
