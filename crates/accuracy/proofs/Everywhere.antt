-- Where a lane drives, `nearest_lane` answers for every finite point: some span has a cell, the rings reach it unless the search has found one
-- before, and the first span that is measured is found. The lane of what is found drives.
use mathlib.Core.Path.{◌≡◌, refl, sym, subst, ap, ◌∙◌}
use mathlib.Core.Logic.{inl, inr}
use mathlib.Core.Bool.{Bool, true, false, not, cond, ◌&&◌, ◌||◌}
use mathlib.Core.List.{List, [], ◌∷◌, ◌++◌}
use Prim.Native.Nat.{ℕ, zero, suc, ◌+◌, ◌<◌, max}
use native.Mathlib.Nat.{le_refl}
use native.Mathlib.Omega.{arith}
use lib.Dec.{T, ltb}
use lib.Ieee.{Float, nan, inf, fin, lt, eq, is_nan}
use Rattle.coords.specs.declared.Point.{Point}
use Rattle.coords.specs.Coords.{finite_point, zero⁺}
use Rattle.geometry.specs.Polyline.{cumulative_of, point_at}
use Rattle.geometry.specs.Project.{project_segments}
use Rattle.grid.specs.declared.Grid.{Grid}
use Rattle.grid.specs.declared.Cell.{Cell}
use Rattle.grid.specs.Grid.{col_of, row_of}
use Rattle.grid.specs.Ring.{ring_of, is_empty}
use Rattle.network.specs.Found.{Every, Of, lane_of}
use Rattle.network.specs.Lanes.{Lane, Span, drives, driving, spans_of}
use Rattle.network.specs.Nearest.{Item, item_of, items_from, holds, Best, none, found, measured, projected, considered, offered, visit_cell}
use Rattle.network.specs.Nearest.{visit_ring, enough, rings_from, nearest_in, nearest_of, nearest_lane, grid_for}
use Rattle.network.specs.Nearest as nearest
use Rattle.accuracy.specs.Taped.{In, LanesIn, FoundEverywhere, Found}
use Rattle.accuracy.proofs.Coordinates.{Coords, zero_coord}
use Rattle.accuracy.proofs.Rings.{cell_at, ring_has, Near, outgrown, near_or_on}
use Rattle.accuracy.proofs.Search.{span_dist, box_dist}
use Rattle.accuracy.proofs.Index.{SpanOk, SpanOf, span_of, item_has}
use Rattle.accuracy.proofs.Bound as span
use Rattle.accuracy.proofs.Numbers.{projected_number}
use Rattle.accuracy.proofs.Theorem as theorem
use Rattle.accuracy.proofs.Theorem.{finite_point_law}

abbrev Some : Best → Type 0
Some none = ⊥
Some (found d i l q) = T true

never_less : (x : Float) → T (not (lt (inf false) x))
unfolding lt
never_less nan = tt
never_less (inf s) = tt
never_less (fin s m e) = tt

-- ---- what was found stays, and an item whose distance is a number is found first
module _ (p : Point) where
  offer_keeps : (x : Bool) (it : Item) (b : Best) → Some b → Some (offered x p it b)
  unfolding offered considered measured
  offer_keeps x it none h = absurd h
  offer_keeps false it (found d i l q) h = tt
  offer_keeps true it (found d i l q) h = go (lt d (box_dist p it.span))
    where
      v : Float
      v = span_dist p it.span

      last : (y : Bool) → Some (cond y (found v it.number it.span.lane (projected p it.span)) (found d i l q))
      last true = tt
      last false = tt

      go : (y : Bool) → Some (considered y p it (found d i l q))
      go true = tt
      go false = last (not (is_nan v) && (lt v d || (eq v d && ltb it.number i)))

  cell_keeps : (c : Cell) (its : List Item) (b : Best) → Some b → Some (visit_cell p c its b)
  unfolding visit_cell
  cell_keeps c [] b h = h
  cell_keeps c (it ∷ its) b h = cell_keeps c its (offered (holds it c) p it b) (offer_keeps (holds it c) it b h)

  module _ (items : List Item) (own : Item) (has : In own items) (number : T (not (is_nan (span_dist p own.span)))) where
    offer_none : Some (offered true p own none)
    unfolding offered considered measured
    offer_none = go (lt (inf false) (box_dist p own.span)) (never_less (box_dist p own.span))
      where
        v : Float
        v = span_dist p own.span

        last : (n : Bool) → T n → Some (cond (n && true) (found v own.number own.span.lane (projected p own.span)) none)
        last true t = tt
        last false t = absurd t

        go : (y : Bool) → T (not y) → Some (considered y p own none)
        go true t = absurd t
        go false t = last (not (is_nan v)) number

    offer_own : (x : Bool) → T x → (b : Best) → Some (offered x p own b)
    offer_own false t b = absurd t
    offer_own true t none = offer_none
    offer_own true t (found d i l q) = offer_keeps true own (found d i l q) tt

    cell_finds : (c : Cell) → T (holds own c) → (its : List Item) → In own its → (b : Best) → Some (visit_cell p c its b)
    unfolding visit_cell
    cell_finds c h [] k b = absurd k
    cell_finds c h (it ∷ its) (inl e) b =
        cell_keeps c its (offered (holds it c) p it b)
        (subst (λ (z : Item). Some (offered (holds z c) p z b)) e (offer_own (holds own c) h b))
    cell_finds c h (it ∷ its) (inr k) b = cell_finds c h its k (offered (holds it c) p it b)

    ring_keeps : (cells : List Cell) (b : Best) → Some b → Some (visit_ring p items cells b)
    unfolding visit_ring
    ring_keeps [] b h = h
    ring_keeps (c ∷ cells) b h = ring_keeps cells (visit_cell p c items b) (cell_keeps c items b h)

    ring_finds : (c : Cell) → T (holds own c) → (cells : List Cell) → In c cells → (b : Best) → Some (visit_ring p items cells b)
    unfolding visit_ring
    ring_finds c h [] k b = absurd k
    ring_finds c h (a ∷ cells) (inl e) b =
        ring_keeps cells (visit_cell p a items b)
        (subst (λ (z : Cell). Some (visit_cell p z items b)) e (cell_finds c h items has b))
    ring_finds c h (a ∷ cells) (inr k) b = ring_finds c h cells k (visit_cell p a items b)

    -- ---- the loop, for a cell (x, y) of the item
    module _ (g : Grid) (cx cy x y : ℕ) (CX : cx < g.cols) (CY : cy < g.rows) (X : x < g.cols) (Y : y < g.rows)
        (h : T (holds own (cell_at x y))) where
      abbrev ring : ℕ → List Cell
      ring r = ring_of g.cols g.rows cx cy r

      next : (r : ℕ) (b : Best) → (Near cx cy r x y → Some b) → Near cx cy (suc r) x y → Some (visit_ring p items (ring r) b)
      next r b i n = elim (near_or_on cx cy r x y n) [
        | inl m ↦ ring_keeps (ring r) b (i m)
        | inr o ↦ ring_finds (cell_at x y) h (ring r)
            (ring_has g.cols g.rows cx cy r x y X Y (omega arith) (omega arith) (omega arith) (omega arith) o) b
      ]

      enough_some : (r : ℕ) (b : Best) → T (enough g r b) → Some b
      unfolding enough
      enough_some r none t = t
      enough_some r (found d i l q) t = tt

      stops : (r : ℕ) (c : Best) → (Near cx cy (suc r) x y → Some c) → (cells : List Cell) → ring r ≡ cells
          → T (is_empty cells || enough g (suc r) c) → Some c
      stops r c i [] e t = i (outgrown g.cols g.rows cx cy r x y CX CY e X Y)
      stops r c i (a ∷ cells) e t = enough_some (suc r) c t

      loop : (n r : ℕ) (over : Bool) (b : Best) → n + r ≡ max g.cols g.rows + 1 → (Near cx cy r x y → Some b) → (T over → Some b)
          → Some (rings_from p g items cx cy n r over b)
      unfolding rings_from
      loop zero r over b e i w = i (omega arith, omega arith, omega arith, omega arith)
      loop (suc n) r true b e i w = w tt
      loop (suc n) r false b e i w =
          let c = visit_ring p items (ring r) b in
          loop n (suc r) (is_empty (ring r) || enough g (suc r) c) c (omega arith) (next r b i) (stops r c (next r b i) (ring r) refl)

      reaches : Some (rings_from p g items cx cy (max g.cols g.rows + 1) 0 false none)
      reaches = loop (max g.cols g.rows + 1) 0 false none (omega arith) (λ n. absurd (far x y n)) (λ t. absurd t)
        where
          far : (x y : ℕ) → Near cx cy 0 x y → ⊥
          far x y n = omega arith

-- ---- lanes that drive: their spans are s ∷ ss
abbrev origin : Point
origin = record { x = zero⁺; y = zero⁺; z = zero⁺ }

module _ (table : List Bool) (ls : List Lane) (p : Point) (r : LanesIn ls) (P : T (finite_point p)) (s : Span) (ss : List Span)
    (is : driving table ls ≡ s ∷ ss) where
  -- the grid is the same whichever point is asked
  O : Coords origin
  O = record { x = zero_coord; y = zero_coord; z = zero_coord }

  abbrev g : Grid
  g = grid_for (s ∷ ss)

  ok : (z : Span) → In z (s ∷ ss) → SpanOk table ls z
  ok = theorem.ok table ls origin r O s ss is

  span_number : T (not (is_nan (span_dist p s)))
  unfolding projected project_segments
  span_number =
      let o = ok s (inl refl) in
      projected_number s.lane.points (cumulative_of s.lane.points s.lane.count) p s.first _ P
      (finite_point_law (point_at s.lane.points s.first) (o.coords s.first (omega (arith, o.room))))

  searched_some : Some (nearest.searched p g (s ∷ ss))
  unfolding nearest.searched
  searched_some = go (item_has g 0 (s ∷ ss) s (inl refl))
    where
      go : (n : ℕ) × In (item_of g n s) (items_from g 0 (s ∷ ss))
          → Some (rings_from p g (items_from g 0 (s ∷ ss)) (col_of g p.x) (row_of g p.y) (max g.cols g.rows + 1) 0 false none)
      go (n, k) =
          let fine = theorem.fine table ls origin r O s ss is in
          let x = span.hx table ls origin O (s ∷ ss) ok g fine s in
          let y = span.hy table ls origin O (s ∷ ss) ok g fine s in
          reaches p (items_from g 0 (s ∷ ss)) (item_of g n s) k (unfold item_of in span_number) g (col_of g p.x) (row_of g p.y) x y
          (span.below_count table ls origin O (s ∷ ss) ok g fine _ g.cell g.cols fine.cols_pos)
          (span.below_count table ls origin O (s ∷ ss) ok g fine _ g.cell g.rows fine.rows_pos)
          (span.last_col table ls origin O (s ∷ ss) ok g fine s (inl refl)) (span.last_row table ls origin O (s ∷ ss) ok g fine s (inl refl))
          (span.cell_holds table ls origin O (s ∷ ss) ok g fine s n x y
          (span.cols_order table ls origin O (s ∷ ss) ok g fine s (inl refl)) (le_refl x)
          (span.rows_order table ls origin O (s ∷ ss) ok g fine s (inl refl)) (le_refl y))

  some_found : Some (nearest_lane table ls p)
  unfolding nearest_lane nearest_of nearest_in
  some_found = go (finite_point p) P
    where
      go : (b : Bool) → T b → Some (cond b (nearest_in p (driving table ls)) none)
      go true t = subst (λ (z : List Span). Some (nearest_in p z)) (sym is) searched_some
      go false t = absurd t

-- ---- the lane of what is found drives: one that does not has no spans, so that it could as well be left out
module _ (table : List Bool) where
  abbrev drivers : List Lane → List Lane
  drivers [] = []
  drivers (l ∷ ls) = cond (drives table l) (l ∷ drivers ls) (drivers ls)

  same_spans : (ls : List Lane) → driving table (drivers ls) ≡ driving table ls
  unfolding driving
  same_spans [] = refl
  same_spans (l ∷ ls) = go (drives table l) refl (same_spans ls)
    where
      go : (x : Bool) → drives table l ≡ x → driving table (drivers ls) ≡ driving table ls
          → driving table (cond x (l ∷ drivers ls) (drivers ls)) ≡ cond x (spans_of l ++ driving table ls) (driving table ls)
      go true e rest =
          ap (λ (y : Bool). cond y (spans_of l ++ driving table (drivers ls)) (driving table (drivers ls))) e
          ∙ ap (λ (ss : List Span). spans_of l ++ ss) rest
      go false e rest = rest

  abbrev Driver : List Lane → Lane → Type 0
  Driver ls l = In l ls × T (drives table l)

  each_drives : (all ls : List Lane) → ((l : Lane) → In l ls → In l all) → Every (Driver all) (drivers ls)
  each_drives all [] sub = tt
  each_drives all (l ∷ ls) sub = go (drives table l) refl (each_drives all ls (λ m h. sub m (inr h)))
    where
      go : (x : Bool) → drives table l ≡ x → Every (Driver all) (drivers ls) → Every (Driver all) (cond x (l ∷ drivers ls) (drivers ls))
      go true e rest = ((sub l (inl refl), subst T (sym e) tt), rest)
      go false e rest = rest

  found_drives : (ls : List Lane) (p : Point) → Of (λ l q. Driver ls l) (nearest_lane table ls p)
  unfolding nearest_lane
  found_drives ls p =
      subst (λ (ss : List Span). Of (λ l q. Driver ls l) (nearest_of ss p)) (same_spans ls)
      (lane_of (Driver ls) table (drivers ls) p (each_drives ls ls (λ l h. h)))

pub found_everywhere : FoundEverywhere
found_everywhere table ls p r d P = tell (nearest_lane table ls p) refl (go (driving table ls) refl) (found_drives table ls p)
  where
    first : SpanOf table ls d.0 0
    first = span_of table ls d.0 0 d.1 d.2 (r d.0 d.1).two

    go : (ss : List Span) → driving table ls ≡ ss → Some (nearest_lane table ls p)
    go [] e = absurd (subst (λ (l : List Span). In first.span l) e first.has)
    go (s ∷ ss) e = some_found table ls p r P s ss e

    tell : (b : Best) → nearest_lane table ls p ≡ b → Some (nearest_lane table ls p) → Of (λ l q. Driver table ls l) (nearest_lane table ls p)
        → Found table ls p
    tell none e h k = absurd (subst Some e h)
    tell (found v i l q) e h k =
        let o : Driver table ls l = subst (Of (λ l q. Driver table ls l)) e k in
        record { dist = v; number = i; lane = l; proj = q; is = e; in_plan = o.0; lane_drives = o.1 }
