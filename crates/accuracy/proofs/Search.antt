-- The search as an order of visits. Whatever was offered is settled: the best is no farther than the span, or no farther than its box.
-- It stays so, since the best only gets nearer; and what was not offered lies beyond the ring at which the search stopped (`searched`).
use mathlib.Core.Path.{◌≡◌, refl, sym, subst, ap, ◌∙◌}
use mathlib.Core.Logic.{◌⊎◌, inl, inr}
use mathlib.Core.Bool.{Bool, true, false, not, cond, ◌&&◌, ◌||◌}
use mathlib.Core.List.{List, [], ◌∷◌}
use Prim.Native.Nat.{ℕ, zero, suc, ◌+◌, ◌≤◌, ◌<◌, max}
use native.Mathlib.Omega.{arith}
use lib.Dec.{T, ltb}
use lib.Ieee.{Float, nan, inf, fin, lt, eq, is_nan}
use Rattle.exact.specs.Integers.{◌≈◌, ◌⊑◌, ◌⊞◌, ι}
use Rattle.exact.specs.Inequalities.{⊑_refl, ⊑_trans, lt→⊑, ≈→⊑}
use Rattle.exact.specs.Values.{val, F32}
use Rattle.exact.proofs.Order.{lt_yes, lt_no, eq_yes}
use Rattle.coords.specs.declared.Point.{Point}
use Rattle.coords.specs.Coords.{sub_of, length_squared}
use Rattle.geometry.specs.declared.Projection.{Projection}
use Rattle.grid.specs.declared.Grid.{Grid}
use Rattle.grid.specs.declared.Cell.{Cell}
use Rattle.grid.specs.Grid.{dist2}
use Rattle.grid.specs.Ring.{ring_of, is_empty}
use Rattle.network.specs.Lanes.{Lane, Span}
use Rattle.network.specs.Nearest.{Item, holds, Best, none, found, measured, projected, considered, offered, visit_cell, visit_ring, enough}
use Rattle.network.specs.Nearest.{rings_from}
use Rattle.accuracy.specs.Taped.{In}
use Rattle.accuracy.proofs.Coordinates.{not_nan}
use Rattle.accuracy.proofs.Rings.{cell_at, ring_has, Near, outgrown, near_or_on}

-- what the search compares: the squared distance of a span, and of its box
abbrev pub span_dist : Point → Span → Float
span_dist p s = length_squared (sub_of p (projected p s).point)

abbrev pub box_dist : Point → Span → Float
box_dist p s = dist2 s.box p.x p.y

inf_not_less : (x : Float) → F32 x → T (not (lt (inf false) x))
unfolding lt
inf_not_less nan p = absurd p.real
inf_not_less (inf s) p = absurd p.real
inf_not_less (fin s m e) p = tt

module _ (p : Point) (items : List Item) where
  pub record FiniteItem (it : Item) : Type 0 where
    pub span : F32 (span_dist p it.span)
    pub box : F32 (box_dist p it.span)

  -- what the item can give is no nearer than the best
  abbrev pub Settled : Best → Item → Type 0
  Settled none it = ⊥
  Settled (found d i l q) it = (val d ⊑ val (span_dist p it.span)) ⊎ (val d ⊑ val (box_dist p it.span))

  -- the best is an item's own
  pub record Owned (d : Float) (l : Lane) (q : Projection) : Type 0 where
    pub item : Item
    pub has : In item items
    pub dist : d ≡ span_dist p item.span
    pub lane : l ≡ item.span.lane
    pub proj : q ≡ projected p item.span

  abbrev pub Own : Best → Type 0
  Own none = T true
  Own (found d i l q) = Owned d l q

  abbrev Keeps : Best → Best → Type 0
  Keeps b c = (jt : Item) → Settled b jt → Settled c jt

  module _ (finite : (it : Item) → In it items → FiniteItem it) where
    -- ---- one offer
    record Offer (b c : Best) (it : Item) : Type 0 where
      pub own : Own c
      pub keeps : Keeps b c
      pub new : Settled c it

    abbrev taken : Item → Best
    taken it = found (span_dist p it.span) it.number it.span.lane (projected p it.span)

    own_taken : (it : Item) → In it items → Own (taken it)
    own_taken it h = record { item = it; has = h; dist = refl; lane = refl; proj = refl }

    first_offer : (it : Item) → In it items → Offer none (offered true p it none) it
    unfolding offered considered measured
    first_offer it h =
        go (lt (inf false) (box_dist p it.span)) (inf_not_less (box_dist p it.span) (finite it h).box)
      where
        v : Float
        v = span_dist p it.span

        measure : (n : Bool) → T n → Offer none (cond (n && true) (taken it) none) it
        measure true t = record { own = own_taken it h; keeps = λ jt k. absurd k; new = inl (⊑_refl (val (span_dist p it.span))) }
        measure false t = absurd t

        go : (x : Bool) → T (not x) → Offer none (considered x p it none) it
        go true t = absurd t
        go false t = measure (not (is_nan v)) (not_nan v (finite it h).span)

    next_offer : (d : Float) (i : ℕ) (l : Lane) (q : Projection) (it : Item) → In it items → Owned d l q
        → Offer (found d i l q) (offered true p it (found d i l q)) it
    unfolding offered considered measured
    next_offer d i l q it h o = go (lt d (box_dist p it.span)) (lt_yes d (box_dist p it.span) D (finite it h).box)
      where
        D : F32 d
        D = subst F32 (sym o.dist) (finite o.item o.has).span

        v : Float
        v = span_dist p it.span

        W : F32 (span_dist p it.span)
        W = (finite it h).span

        kept : (val d ⊑ val (span_dist p it.span)) ⊎ (val d ⊑ val (box_dist p it.span)) → Offer (found d i l q) (found d i l q) it
        kept s = record { own = o; keeps = λ jt k. k; new = s }

        nearer : val (span_dist p it.span) ⊑ val d → Offer (found d i l q) (taken it) it
        nearer g = record { own = own_taken it h; keeps = λ jt k. lower jt k; new = inl (⊑_refl (val (span_dist p it.span))) }
          where
            lower : (jt : Item) → (val d ⊑ val (span_dist p jt.span)) ⊎ (val d ⊑ val (box_dist p jt.span)) → Settled (taken it) jt
            lower jt (inl k) = inl (⊑_trans g k)
            lower jt (inr k) = inr (⊑_trans g k)

        measure : (n : Bool) → T n → (y : Bool) → (T y → val (span_dist p it.span) ⊞ ι 1 ⊑ val d)
            → (T (not y) → val d ⊑ val (span_dist p it.span))
            → (z : Bool) → (T z → val (span_dist p it.span) ≈ val d) → (w : Bool)
            → Offer (found d i l q) (cond (n && (y || (z && w))) (taken it) (found d i l q)) it
        measure false t y less not_less z same w = absurd t
        measure true t true less not_less z same w = nearer (lt→⊑ (val v) (val d) (less tt))
        measure true t false less not_less true same true = nearer (≈→⊑ (same tt))
        measure true t false less not_less true same false = kept (inl (not_less tt))
        measure true t false less not_less false same w = kept (inl (not_less tt))

        go : (x : Bool) → (T x → val d ⊞ ι 1 ⊑ val (box_dist p it.span)) → Offer (found d i l q) (considered x p it (found d i l q)) it
        go true a = kept (inr (lt→⊑ (val d) (val (box_dist p it.span)) (a tt)))
        go false a =
            measure (not (is_nan v)) (not_nan v W) (lt v d) (lt_yes v d W D) (lt_no v d W D) (eq v d) (eq_yes v d W D) (ltb it.number i)

    offer : (b : Best) (it : Item) → In it items → Own b → Offer b (offered true p it b) it
    offer none it h o = first_offer it h
    offer (found d i l q) it h o = next_offer d i l q it h o

    -- ---- a cell, a ring
    record Visit (b c : Best) (New : Item → Type 0) : Type 0 where
      pub own : Own c
      pub keeps : Keeps b c
      pub new : (it : Item) → In it items → New it → Settled c it

    abbrev InCell : List Item → Cell → Item → Type 0
    InCell its c it = In it its × T (holds it c)

    cell_visit : (c : Cell) (its : List Item) → ((it : Item) → In it its → In it items) → (b : Best) → Own b
        → Visit b (visit_cell p c its b) (InCell its c)
    unfolding visit_cell
    cell_visit c [] sub b o = record { own = o; keeps = λ jt k. k; new = λ it h n. absurd n.0 }
    cell_visit c (a ∷ its) sub b o = go (holds a c) refl (λ b' o'. cell_visit c its (λ it h. sub it (inr h)) b' o')
      where
        settled : (x : Bool) → holds a c ≡ x → (T x → Settled (offered x p a b) a)
            → Visit (offered x p a b) (visit_cell p c its (offered x p a b)) (InCell its c)
            → (it : Item) → In it items → In it (a ∷ its) → T (holds it c) → Settled (visit_cell p c its (offered x p a b)) it
        settled x e s v it h (inl g) t =
            v.keeps it (subst (λ (z : Item). Settled (offered x p a b) z) (sym g) (s (subst T (ap (λ (z : Item). holds z c) g ∙ e) t)))
        settled x e s v it h (inr g) t = v.new it h (g, t)

        go : (x : Bool) → holds a c ≡ x → ((b' : Best) → Own b' → Visit b' (visit_cell p c its b') (InCell its c))
            → Visit b (visit_cell p c its (offered x p a b)) (InCell (a ∷ its) c)
        go true e rec =
            let f = offer b a (sub a (inl refl)) o in
            let v = rec (offered true p a b) f.own in
            record {
              own = v.own;
              keeps = λ jt k. v.keeps jt (f.keeps jt k);
              new = λ it h n. settled true e (λ t. f.new) v it h n.0
                  n.1;
            }
        go false e rec =
            let v : Visit (offered false p a b) (visit_cell p c its (offered false p a b)) (InCell its c) =
            rec (offered false p a b) (unfold offered in o) in
            record {
              own = v.own;
              keeps = λ jt k. v.keeps jt (unfold offered in k);
              new = λ it h n. settled false e (λ t. absurd t) v it h n.0 n.1;
            }

    abbrev Listed : List Cell → Item → Type 0
    Listed cells it = (c : Cell) × In c cells × T (holds it c)

    ring_visit : (cells : List Cell) (b : Best) → Own b → Visit b (visit_ring p items cells b) (Listed cells)
    unfolding visit_ring
    ring_visit [] b o = record { own = o; keeps = λ jt k. k; new = λ it h n. absurd n.1 }
    ring_visit (c ∷ cs) b o =
        let u = cell_visit c items (λ it h. h) b o in
        let v = ring_visit cs (visit_cell p c items b) u.own in
        record { own = v.own; keeps = λ jt k. v.keeps jt (u.keeps jt k); new = λ it h n. settled u v it h n.0 n.1 n.2 }
      where
        settled : Visit b (visit_cell p c items b) (InCell items c)
            → Visit (visit_cell p c items b) (visit_ring p items cs (visit_cell p c items b)) (Listed cs)
            → (it : Item) → In it items → (a : Cell) → In a (c ∷ cs) → T (holds it a)
            → Settled (visit_ring p items cs (visit_cell p c items b)) it
        settled u v it h a (inl g) t = v.keeps it (u.new it h (h, subst (λ (z : Cell). T (holds it z)) g t))
        settled u v it h a (inr g) t = v.new it h (a, g, t)

    -- ---- the loop
    module _ (g : Grid) (cx cy : ℕ) (CX : cx < g.cols) (CY : cy < g.rows) where
      abbrev ring : ℕ → List Cell
      ring r = ring_of g.cols g.rows cx cy r

      -- every item is settled that has a cell nearer than r
      abbrev pub AllNearer : ℕ → Best → Type 0
      AllNearer r b =
          (it : Item) → In it items → (x y : ℕ) → x < g.cols → y < g.rows → T (holds it (cell_at x y)) → Near cx cy r x y → Settled b it

      -- every item with a cell is
      abbrev pub All : Best → Type 0
      All b = (it : Item) → In it items → (x y : ℕ) → x < g.cols → y < g.rows → T (holds it (cell_at x y)) → Settled b it

      pub record Ended (b : Best) : Type 0 where
        pub own : Own b
        pub why : All b ⊎ ((s : ℕ) × (s ≤ max g.cols g.rows) × T (enough g (suc s) b) × AllNearer (suc s) b)

      -- why it is over before ring r
      abbrev Over : ℕ → Best → Type 0
      Over r b = (s : ℕ) × (r ≡ suc s) × ((ring s ≡ []) ⊎ T (enough g (suc s) b))

      no_ring_left : (r : ℕ) (b : Best) → Own b → AllNearer r b → max g.cols g.rows < r → Ended b
      no_ring_left r b o i h =
          record { own = o; why = inl (λ it k x y X Y t. i it k x y X Y t (omega arith, omega arith, omega arith, omega arith)) }

      stopped : (r : ℕ) (b : Best) → Own b → AllNearer r b → r ≤ max g.cols g.rows → Over r b → Ended b
      stopped r b o i h (s, e, inl k) = record {
        own = o;
        why = inl (λ it m x y X Y t.
            i it m x y X Y t (subst (λ (z : ℕ). Near cx cy z x y) (sym e) (outgrown g.cols g.rows cx cy s x y CX CY k X Y)));
      }
      stopped r b o i h (s, e, inr k) = record { own = o; why = inr (s, omega arith, k, subst (λ (z : ℕ). AllNearer z b) e i) }

      next_nearer : (r : ℕ) (b : Best) → AllNearer r b → Visit b (visit_ring p items (ring r) b) (Listed (ring r))
          → AllNearer (suc r) (visit_ring p items (ring r) b)
      next_nearer r b i v it h x y X Y t n = elim (near_or_on cx cy r x y n) [
        | inl m ↦ v.keeps it (i it h x y X Y t m)
        | inr o ↦ v.new it h (
          cell_at x y,
          ring_has g.cols g.rows cx cy r x y X Y (omega arith) (omega arith) (omega arith)
              (omega arith) o,
          t,
        )
      ]

      over_cases : (r : ℕ) (b : Best) → T (is_empty (ring r) || enough g (suc r) b) → Over (suc r) b
      over_cases r b t = (r, refl, go (ring r) t)
        where
          go : (cells : List Cell) → T (is_empty cells || enough g (suc r) b) → (cells ≡ []) ⊎ T (enough g (suc r) b)
          go [] t = inl refl
          go (c ∷ cs) t = inr t

      loop : (n r : ℕ) (over : Bool) (b : Best) → n + r ≡ max g.cols g.rows + 1 → Own b → AllNearer r b → (T over → Over r b)
          → Ended (rings_from p g items cx cy n r over b)
      unfolding rings_from
      loop zero r over b e o i w = no_ring_left r b o i (omega arith)
      loop (suc n) r true b e o i w = stopped r b o i (omega arith) (w tt)
      loop (suc n) r false b e o i w =
          let v = ring_visit (ring r) b o in
          let c = visit_ring p items (ring r) b in
          loop n (suc r) (is_empty (ring r) || enough g (suc r) c) c (omega arith) v.own (next_nearer r b i v) (over_cases r c)

      pub searched : Ended (rings_from p g items cx cy (max g.cols g.rows + 1) 0 false none)
      searched = loop (max g.cols g.rows + 1) 0 false none (omega arith) tt (λ it h x y X Y t n. absurd (far x y n)) (λ t. absurd t)
        where
          far : (x y : ℕ) → Near cx cy 0 x y → ⊥
          far x y n = omega arith
