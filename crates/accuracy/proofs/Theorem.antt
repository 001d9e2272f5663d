-- THE THEOREM (specs/Taped.antt): where a lane drives, `nearest_lane` answers a lane that drives, with a point within 0.1 m of it, whose
-- distance is taped against every place of every lane that drives (`taped_distance`); where none drives, it answers nothing
-- (`no_lane_drives`).
use mathlib.Core.Path.{◌≡◌, refl, sym, subst, ap, ◌∙◌}
use mathlib.Core.Logic.{inl, inr}
use mathlib.Core.Bool.{Bool, true, false, cond, ◌&&◌}
use mathlib.Core.List.{List, [], ◌∷◌, ◌++◌}
use Prim.Native.Nat.{ℕ, ◌+◌, ◌-◌, ◌*◌, ◌≤◌, ◌<◌}
use native.Mathlib.Nat.{mul-le-mul_right}
use native.Mathlib.Omega.{arith}
use lib.Dec.{T}
use lib.ListN.{length}
use lib.Ieee.{Float}
use lib.Ieee.Scale.{finite}
use lib.Ieee.Fits.{and_i}
use Rattle.exact.specs.Integers.{Z, ◌≈◌, ◌⊑◌, ◌⊠◌, ◌⊟◌, ◌·◌, ι, ≈_refl, ≈_sym, ≈_trans, ⊠_cong, ⊞_cong, ⊟_cong}
use Rattle.exact.specs.Inequalities.{sq_nonneg, ι_nonneg, ⊑_≈, sq}
use Rattle.exact.specs.Values.{U, U_pos, val}
use Rattle.coords.specs.declared.Point.{Point}
use Rattle.coords.specs.Coords.{finite_point}
use Rattle.geometry.specs.declared.Projection.{Projection}
use Rattle.geometry.specs.Polyline.{point_at}
use Rattle.grid.specs.declared.Grid.{Grid}
use Rattle.grid.specs.Grid.{extent_of, col_of, row_of}
use Rattle.network.specs.Lanes.{Lane, drives, Span, spans_of, driving}
use Rattle.network.specs.Nearest.{boxes_of, grid_for, Item, item_of, items_from, Best, none, found, projected, nearest_in, nearest_of, nearest_lane}
use Rattle.network.specs.Nearest as nearest
use Rattle.accuracy.specs.Taped.{In, LanesIn, Place, to_fraction, to_point, Taped, inverse, TapedBy, Within10cm, Answered}
use Rattle.accuracy.specs.Taped.{TapedDistance, NoLaneDrives}
use Rattle.accuracy.proofs.Vectors.{from, norm_sq, far}
use Rattle.accuracy.proofs.Coordinates.{Coords, Wides, coords_of}
use Rattle.accuracy.proofs.Distance.{Dist}
use Rattle.accuracy.proofs.Segment.{Hit}
use Rattle.accuracy.proofs.GridSize.{Fine, grid_fine, extent_in}
use Rattle.accuracy.proofs.Search as search
use Rattle.accuracy.proofs.Index.{SpanOk, spans_ok, box_in_law, boxes_in, SpanOf, span_of, item_only}
use Rattle.accuracy.proofs.Bound as span
use Rattle.accuracy.proofs.Tape.{fraction_is, Root, far_root, taped_by}

-- ---- the point is near its own lane: at the fraction that was computed, in units
module _ (l : Lane) (i : ℕ) (p c : Point) (h : i + 1 < l.count) (t : Hit (point_at l.points i) (point_at l.points (i + 1)) p c) where
  abbrev units : ℕ
  units = t.frac.p - t.frac.n

  at_most_law : units ≤ U
  at_most_law = go t.frac U t.low t.high
    where
      go : (f : Z) (u : ℕ) → ι 0 ⊑ f → f ⊑ ι u → f.p - f.n ≤ u
      go f u h k = unfold ι in omega arith

  abbrev own_place : Place l
  own_place = record { piece = i; part = units; whole = U; in_lane = h; at_most = omega (arith, at_most_law); some = U_pos }

  own_near : Within10cm c l own_place
  own_near = unfold ι ◌·◌ in omega (arith, is_far, t.own, four, sq_nonneg (ι (U * U)))
    where
      a : Point
      a = point_at l.points i

      b : Point
      b = point_at l.points (i + 1)

      is : (f : Z) → ι 0 ⊑ f → ι (f.p - f.n) ≈ f
      is f h = unfold ι in omega arith

      same : (x y : Z) → x ≈ y → far (ι U) x (from a c) (from a b) ≈ far (ι U) y (from a c) (from a b)
      same x y e = ⊞_cong (⊞_cong (one a.x b.x c.x) (one a.y b.y c.y)) (one a.z b.z c.z)
        where
          axis : (m n v : Float) → ι U ⊠ (val v ⊟ val m) ⊟ x ⊠ (val n ⊟ val m) ≈ ι U ⊠ (val v ⊟ val m) ⊟ y ⊠ (val n ⊟ val m)
          axis m n v = ⊟_cong (≈_refl (ι U ⊠ (val v ⊟ val m))) (⊠_cong e (≈_refl (val n ⊟ val m)))

          one : (m n v : Float) → sq (ι U ⊠ (val v ⊟ val m) ⊟ x ⊠ (val n ⊟ val m)) ≈ sq (ι U ⊠ (val v ⊟ val m) ⊟ y ⊠ (val n ⊟ val m))
          one m n v = ⊠_cong (axis m n v) (axis m n v)

      is_far : to_fraction U units a b c ≈ far (ι U) t.frac (from a c) (from a b)
      is_far = ≈_trans (fraction_is U units a b c at_most_law) (same (ι units) t.frac (is t.frac t.low))

      four : sq (ι (4 * U * U)) ≈ 16 · sq (ι (U * U))
      four = unfold ι ◌⊠◌ ◌·◌ in omega arith

pub finite_point_law : (p : Point) → Coords p → T (finite_point p)
finite_point_law p P =
    and_i (finite p.x && finite p.y) (finite p.z) (and_i (finite p.x) (finite p.y) P.x.good.real P.y.good.real)
    P.z.good.real

-- ---- lanes that drive: their spans are s ∷ ss
module _ (table : List Bool) (ls : List Lane) (p : Point) (r : LanesIn ls) (P : Coords p) (s : Span) (ss : List Span)
    (eq : driving table ls ≡ s ∷ ss) where
  abbrev spans : List Span
  spans = s ∷ ss

  abbrev g : Grid
  g = grid_for (s ∷ ss)

  pub ok : (z : Span) → In z spans → SpanOk table ls z
  ok z h = spans_ok table ls r z (subst (λ (l : List Span). In z l) (sym eq) h)

  pub fine : Fine g
  unfolding grid_for
  fine =
      grid_fine (extent_of s.box (boxes_of ss)) (length (s ∷ ss))
      (extent_in s.box (boxes_of ss) (box_in_law table ls s (ok s (inl refl))) (boxes_in table ls ss (λ z h. ok z (inr h))))

  -- the span that the best is of
  record Owner (d : Float) (l : Lane) (q : Projection) : Type 0 where
    pub span : Span
    pub has : In span spans
    pub dist : d ≡ search.span_dist p span
    pub lane : l ≡ (span).lane
    pub proj : q ≡ projected p span

  owner : (d : Float) (l : Lane) (q : Projection) → search.Owned p (items_from g 0 spans) d l q → Owner d l q
  unfolding item_of
  owner d l q o = go (item_only g 0 spans o.item o.has)
    where
      go : (n : ℕ) × (z : Span) × In z spans × (o.item ≡ item_of g n z) → Owner d l q
      go (n, z, k, e) = record {
        span = z;
        has = k;
        dist = o.dist ∙ ap (λ (it : Item). search.span_dist p it.span) e;
        lane = o.lane ∙ ap (λ (it : Item). it.span.lane) e;
        proj = o.proj ∙ ap (λ (it : Item). projected p it.span) e;
      }

  abbrev Reached : Best → Span → Type 0
  Reached b z = span.Reached table ls p P spans ok g fine b z

  -- `TapedBy` for the place at part / whole from point j of ps to the next
  abbrev TapedAt : Point → List Float → ℕ → ℕ → ℕ → Type 0
  TapedAt c ps j part whole =
      Taped (inverse · (sq (ι whole) ⊠ to_point c p)) (inverse · to_fraction whole part (point_at ps j) (point_at ps (j + 1)) p)
      (sq (ι (whole * U)))

  -- the tape against piece i of a span
  span_taped : (d : Float) (n : ℕ) (l : Lane) (q : Projection) → Dist d (norm_sq (from q.point p)) → (z : Span) → In z spans
      → Reached (found d n l q) z
      → (i part whole : ℕ) → i < z.count → part ≤ whole → 0 < whole → TapedAt q.point z.lane.points (z.first + i) part whole
  span_taped d n l q D z h re i part whole I m k₀ =
      taped_by whole ρ.j (norm_sq (from q.point p)) (to_fraction whole part a b p)
      (⊑_≈ ρ.low (million (far (ι whole) (ι part) (from a p) (from a b)) (to_fraction whole part a b p)
      (≈_sym (fraction_is whole part a b p m))))
      (span.bound table ls p P spans ok g fine d q.point D z o i I (ι whole) (ι part) (ι ((ρ.j + 1) * U)) (one whole k₀) (ι_nonneg part)
      (below part whole m)
      (ι_nonneg ((ρ.j + 1) * U)) (top ρ.j ρ.small) n l q re ρ.high)
    where
      o : SpanOk table ls z
      o = ok z h

      a : Point
      a = point_at z.lane.points (z.first + i)

      b : Point
      b = point_at z.lane.points (z.first + i + 1)

      inside : (c j : ℕ) → i < c → j ≤ i + 1 → z.first + c < z.lane.count → z.first + j < z.lane.count
      inside c j h k l = omega arith

      next : (f j : ℕ) → f + (j + 1) ≡ f + j + 1
      next f j = omega arith

      one : (k : ℕ) → 0 < k → ι 1 ⊑ ι k
      one k h = unfold ι in omega arith

      below : (s k : ℕ) → s ≤ k → ι s ⊑ ι k
      below s k h = unfold ι in omega arith

      top : (j : ℕ) → j < 14190000 → ι ((j + 1) * U) ⊑ ι (16380000 * U)
      top j h = unfold ι in omega (arith, mul-le-mul_right U (more j h))
        where
          more : (j : ℕ) → j < 14190000 → j + 1 ≤ 16380000
          more j h = omega arith

      million : (x y : Z) → x ≈ y → 1000000 · x ≈ 1000000 · y
      million x y e = unfold ◌·◌ in omega arith

      ρ : Root (1000000 · far (ι whole) (ι part) (from a p) (from a b)) (ι whole)
      ρ =
          far_root (ι whole) (ι part) a b p (ι_nonneg part) (below part whole m)
          (o.coords (z.first + i) (inside z.count i I (omega arith) o.room))
          (o.coords (z.first + i + 1)
          (subst (λ (j : ℕ). j < z.lane.count) (next z.first i) (inside z.count (i + 1) I (omega arith) o.room))) P

  answered : (d : Float) (n : ℕ) (l : Lane) (q : Projection) → Owner d l q → ((z : Span) → In z spans → Reached (found d n l q) z)
      → nearest_lane table ls p ≡ found d n l q → Answered table ls p
  answered d n l q w re is = record {
    chosen = record {
      dist = d;
      number = n;
      lane = l;
      proj = q;
      is = is;
      in_plan = subst (λ (m : Lane). In m ls) (sym w.lane) (ok z w.has).in_plan;
      lane_drives = subst (λ (m : Lane). T (drives table m)) (sym w.lane) (ok z w.has).lane_drives;
    };
    finite = subst (λ (f : Projection). Wides f.point) (sym w.proj) c.hit.wide;
    own = subst (λ (m : Lane). (t : Place m) × Within10cm q.point m t) (sym w.lane)
        (subst (λ (f : Projection). (t : Place z.lane) × Within10cm f.point z.lane t) (sym w.proj) (
          own_place z.lane c.piece p (projected p z).point c.in_lane c.hit,
          own_near z.lane c.piece p
              (projected p z).point c.in_lane c.hit,
        ));
    taped = λ m h v t. against m t (span_of table ls m t.piece h v t.in_lane);
  }
    where
      z : Span
      z = w.span

      c : span.SpanHit table ls p P spans ok g fine w.span
      c = span.span_hit table ls p P spans ok g fine w.span (ok w.span w.has)

      D : Dist d (norm_sq (from q.point p))
      D =
          subst (λ (f : Float). Dist f (norm_sq (from q.point p))) (sym w.dist)
          (subst (λ (f : Projection). Dist (search.span_dist p w.span) (norm_sq (from f.point p))) (sym w.proj) c.hit.dist)

      against : (m : Lane) (t : Place m) → SpanOf table ls m t.piece → TapedBy p q.point m t
      against m t so =
          let h : In so.span spans = subst (λ (l : List Span). In so.span l) eq so.has in
          subst (λ (m : Lane). TapedAt q.point m.points t.piece t.part t.whole) so.lane
          (subst (λ (j : ℕ). TapedAt q.point so.span.lane.points j t.part t.whole) so.is
          (span_taped d n l q D so.span h (re so.span h) so.at t.part t.whole so.below t.at_most t.some))

  abbrev Ended : Best → Type 0
  Ended b =
      search.Ended p (items_from g 0 spans) (span.finite_items table ls p P spans ok g fine) g (col_of g p.x) (row_of g p.y)
      (span.col_in table ls p P spans ok g fine)
      (span.row_in table ls p P spans ok g fine) b

  from_end : (b : Best) → Ended b → nearest_lane table ls p ≡ b → Answered table ls p
  from_end b e is = go b e.own (λ z h. span.reached table ls p P spans ok g fine z h b e) is
    where
      go : (b : Best) → search.Own p (items_from g 0 spans) b → ((z : Span) → In z spans → Reached b z) → nearest_lane table ls p ≡ b
          → Answered table ls p
      go none o re is = absurd (re s (inl refl))
      go (found d n l q) o re is = answered d n l q (owner d l q o) re is

  ended : Ended (nearest.searched p g spans)
  unfolding nearest.searched
  ended =
      search.searched p (items_from g 0 spans) (span.finite_items table ls p P spans ok g fine) g (col_of g p.x) (row_of g p.y)
      (span.col_in table ls p P spans ok g fine)
      (span.row_in table ls p P spans ok g fine)

  in_index : nearest_in p (driving table ls) ≡ nearest.searched p g spans
  in_index = ap (nearest_in p) eq ∙ (unfold nearest_in in refl)

  some_span : nearest_lane table ls p ≡ nearest_in p (driving table ls) → Answered table ls p
  some_span e = from_end (nearest.searched p g spans) ended (e ∙ in_index)

-- a query in range is finite
in_range_law : (table : List Bool) (ls : List Lane) (p : Point) → Coords p → nearest_lane table ls p ≡ nearest_in p (driving table ls)
unfolding nearest_lane nearest_of
in_range_law table ls p P = go (finite_point p) (finite_point_law p P)
  where
    go : (x : Bool) → T x → cond x (nearest_in p (driving table ls)) none ≡ nearest_in p (driving table ls)
    go true t = refl
    go false t = absurd t

pub taped_distance : TapedDistance
taped_distance table ls p r d R = go (driving table ls) refl
  where
    P : Coords p
    P = coords_of p R

    -- a lane that drives has a piece, so a span
    first : SpanOf table ls d.0 0
    first = span_of table ls d.0 0 d.1 d.2 (r d.0 d.1).two

    go : (ss : List Span) → driving table ls ≡ ss → Answered table ls p
    go [] e = absurd (subst (λ (l : List Span). In first.span l) e first.has)
    go (s ∷ ss) e = some_span table ls p r P s ss e (in_range_law table ls p P)

pub no_lane_drives : NoLaneDrives
unfolding nearest_lane nearest_of
no_lane_drives table ls p h = go (finite_point p) (driving table ls) (empty ls h)
  where
    go : (x : Bool) (ss : List Span) → ss ≡ [] → cond x (nearest_in p ss) none ≡ none
    go true ss e = ap (nearest_in p) e ∙ (unfold nearest_in in refl)
    go false ss e = refl

    empty : (ls : List Lane) → ((l : Lane) → In l ls → drives table l ≡ false) → driving table ls ≡ []
    empty [] h = unfold driving in refl
    empty (l ∷ ls) h =
        ap (λ (x : Bool). cond x (spans_of l ++ driving table ls) (driving table ls)) (h l (inl refl)) ∙ empty ls (λ m k. h m (inr k))
