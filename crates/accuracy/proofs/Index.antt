-- The index: each straight piece of a lane that drives is in a span (`span_of`), each span is of a lane that drives and has its box
-- (`spans_ok`), the projection onto a span is the least of its pieces' (`span_least`), and items are spans.
use mathlib.Core.Path.{◌≡◌, refl, sym, subst, ap, ◌∙◌}
use mathlib.Core.Logic.{◌⊎◌, inl, inr}
use mathlib.Core.Bool.{Bool, true, false, cond}
use mathlib.Core.List.{List, [], ◌∷◌, ◌++◌}
use Prim.Native.Nat.{ℕ, zero, suc, ◌+◌, ◌-◌, ◌*◌, ◌/◌, ◌≤◌, ◌<◌, min}
use native.Mathlib.Omega.{arith}
use lib.Dec.{T}
use lib.Ieee.{Float}
use Rattle.exact.specs.Integers.{◌⊑◌}
use Rattle.exact.specs.Values.{val}
use Rattle.coords.specs.declared.Point.{Point}
use Rattle.coords.specs.Coords.{sub_of, length_squared}
use Rattle.geometry.specs.Polyline.{point_at, cumulative_of}
use Rattle.geometry.specs.Project.{project_to, project_segments}
use Rattle.grid.specs.declared.Grid.{Grid}
use Rattle.network.specs.Lanes.{Lane, drives, Span, span_at, cut_from, span_count, spans_of, driving}
use Rattle.network.specs.Nearest.{Item, item_of, items_from, projected, boxes_of}
use Rattle.accuracy.specs.Taped.{In, LaneIn, LanesIn}
use Rattle.accuracy.proofs.Coordinates.{Coords, coords_of}
use Rattle.accuracy.proofs.Span.{AllCoords, Run, run, foot_of, foot_dist}
use Rattle.accuracy.proofs.Box.{Boxed, box_holds}
use Rattle.accuracy.proofs.GridSize.{BoxIn, BoxesIn}
use Rattle.accuracy.proofs.Search.{span_dist}

-- ---- lists
module _ {A : Type 0} where
  in_left : (x : A) (xs ys : List A) → In x xs → In x (xs ++ ys)
  in_left x [] ys h = absurd h
  in_left x (a ∷ xs) ys (inl e) = inl e
  in_left x (a ∷ xs) ys (inr h) = inr (in_left x xs ys h)

  in_right : (x : A) (xs ys : List A) → In x ys → In x (xs ++ ys)
  in_right x [] ys h = h
  in_right x (a ∷ xs) ys h = inr (in_right x xs ys h)

  in_either : (x : A) (xs ys : List A) → In x (xs ++ ys) → In x xs ⊎ In x ys
  in_either x [] ys h = inr h
  in_either x (a ∷ xs) ys (inl e) = inl (inl e)
  in_either x (a ∷ xs) ys (inr h) = elim (in_either x xs ys h) [ inl k ↦ inl (inr k) | inr k ↦ inr k ]

-- ---- the spans of a lane
shift : (j d : ℕ) → suc j + d ≡ j + suc d
shift j d = omega arith

cut_has : (l : Lane) (k j d : ℕ) → d < k → In (span_at l (j + d)) (cut_from l k j)
unfolding cut_from
cut_has l zero j d h = absurd (none d h)
  where
    none : (d : ℕ) → d < 0 → ⊥
    none d h = omega arith
cut_has l (suc k) j zero h = inl (ap (span_at l) (plain j))
  where
    plain : (j : ℕ) → j + 0 ≡ j
    plain j = omega arith
cut_has l (suc k) j (suc d) h =
    inr (subst (λ (n : ℕ). In (span_at l n) (cut_from l k (suc j))) (shift j d) (cut_has l k (suc j) d (omega arith)))

cut_only : (l : Lane) (k j : ℕ) (s : Span) → In s (cut_from l k j) → (d : ℕ) × (d < k) × (s ≡ span_at l (j + d))
unfolding cut_from
cut_only l zero j s h = absurd h
cut_only l (suc k) j s (inl e) = (0, omega arith, e ∙ ap (span_at l) (plain j))
  where
    plain : (j : ℕ) → j ≡ j + 0
    plain j = omega arith
cut_only l (suc k) j s (inr h) = more (cut_only l k (suc j) s h)
  where
    more : (d : ℕ) × (d < k) × (s ≡ span_at l (suc j + d)) → (d : ℕ) × (d < suc k) × (s ≡ span_at l (j + d))
    more (d, g, e) = (suc d, omega arith, e ∙ ap (span_at l) (shift j d))

-- ---- each piece is in a span
pub record SpanOf (table : List Bool) (ls : List Lane) (l : Lane) (i : ℕ) : Type 0 where
  pub span : Span
  pub has : In span (driving table ls)
  pub lane : span.lane ≡ l
  pub at : ℕ
  pub below : at < span.count
  pub is : span.first + at ≡ i

driving_has : (table : List Bool) (ls : List Lane) (m : Lane) (s : Span) → In m ls → T (drives table m) → In s (spans_of m)
    → In s (driving table ls)
unfolding driving
driving_has table [] m s h t k = absurd h
driving_has table (l ∷ ls) m s (inl e) t k = go (drives table l) (subst (λ (z : Lane). T (drives table z)) e t)
  where
    go : (x : Bool) → T x → In s (cond x (spans_of l ++ driving table ls) (driving table ls))
    go true t = in_left s (spans_of l) (driving table ls) (subst (λ (z : Lane). In s (spans_of z)) e k)
    go false t = absurd t
driving_has table (l ∷ ls) m s (inr h) t k = go (drives table l) (driving_has table ls m s h t k)
  where
    go : (x : Bool) → In s (driving table ls) → In s (cond x (spans_of l ++ driving table ls) (driving table ls))
    go true r = in_right s (spans_of l) (driving table ls) r
    go false r = r

pub span_of : (table : List Bool) (ls : List Lane) (l : Lane) (i : ℕ) → In l ls → T (drives table l) → i + 1 < l.count → SpanOf table ls l i
unfolding spans_of span_at
span_of table ls l i h t c = record {
  span = span_at l (i / 4);
  has = driving_has table ls l (span_at l (i / 4)) h t
      (subst (λ (n : ℕ). In (span_at l n) (cut_from l (span_count l) 0)) (plain (i / 4))
      (cut_has l (span_count l) 0 (i / 4) (early l.count c)));
  lane = refl;
  at = i - 4 * (i / 4);
  below = inside l.count c;
  is = whole i;
}
  where
    plain : (n : ℕ) → 0 + n ≡ n
    plain n = omega arith

    early : (n : ℕ) → i + 1 < n → i / 4 < (n - 1 + 3) / 4
    early n h = omega arith

    inside : (n : ℕ) → i + 1 < n → i - 4 * (i / 4) < min 4 (n - 1 - 4 * (i / 4))
    inside n h = omega arith

    whole : (i : ℕ) → 4 * (i / 4) + (i - 4 * (i / 4)) ≡ i
    whole i = omega arith

-- ---- what is known of each span
pub record SpanOk (table : List Bool) (ls : List Lane) (s : Span) : Type 0 where
  pub in_plan : In s.lane ls
  pub lane_drives : T (drives table s.lane)
  pub coords : AllCoords s.lane.points s.lane.count
  pub less : ℕ
  pub count : s.count ≡ suc less
  pub room : s.first + s.count < s.lane.count
  pub box : Boxed s.box s.lane.points s.first s.count

lane_coords : (l : Lane) → LaneIn l → AllCoords l.points l.count
lane_coords l r i h = coords_of (point_at l.points i) (r.each i h)

lane_spans_ok : (table : List Bool) (ls : List Lane) (l : Lane) (s : Span) → In l ls → T (drives table l) → LaneIn l → In s (spans_of l)
    → SpanOk table ls s
unfolding spans_of
lane_spans_ok table ls l s h t r k = go (cut_only l (span_count l) 0 s k)
  where
    inside : (n d : ℕ) → 2 ≤ n → d < (n - 1 + 3) / 4 → 4 * d + min 4 (n - 1 - 4 * d) < n
    inside n d a b = omega arith

    some : (n d : ℕ) → 2 ≤ n → d < (n - 1 + 3) / 4 → min 4 (n - 1 - 4 * d) ≡ suc (min 4 (n - 1 - 4 * d) - 1)
    some n d a b = omega arith

    at : (d : ℕ) → d < (l.count - 1 + 3) / 4 → SpanOk table ls (span_at l d)
    at d g = unfold span_at in record {
      in_plan = h;
      lane_drives = t;
      coords = lane_coords l r;
      less = min 4 (l.count - 1 - 4 * d) - 1;
      count = some l.count d r.two g;
      room = inside l.count d r.two g;
      box = box_holds l.points l.count (4 * d) (lane_coords l r) (min 4 (l.count - 1 - 4 * d)) (inside l.count d r.two g);
    }

    go : (d : ℕ) × (d < span_count l) × (s ≡ span_at l (0 + d)) → SpanOk table ls s
    go (d, g, e) = subst (SpanOk table ls) (sym (e ∙ ap (span_at l) (plain d))) (at d g)
      where
        plain : (n : ℕ) → 0 + n ≡ n
        plain n = omega arith

one_more : (table : List Bool) (l : Lane) (ls : List Lane) (s : Span) → SpanOk table ls s → SpanOk table (l ∷ ls) s
one_more table l ls s o = record {
  in_plan = inr o.in_plan;
  lane_drives = o.lane_drives;
  coords = o.coords;
  less = o.less;
  count = o.count;
  room = o.room;
  box = o.box;
}

pub spans_ok : (table : List Bool) (ls : List Lane) → LanesIn ls → (s : Span) → In s (driving table ls) → SpanOk table ls s
unfolding driving
spans_ok table [] r s h = absurd h
spans_ok table (l ∷ ls) r s h = go (drives table l) (λ t. t) h (λ k. one_more table l ls s (spans_ok table ls (λ m g. r m (inr g)) s k))
  where
    go : (x : Bool) → (T x → T (drives table l)) → In s (cond x (spans_of l ++ driving table ls) (driving table ls))
        → (In s (driving table ls) → SpanOk table (l ∷ ls) s) → SpanOk table (l ∷ ls) s
    go true f k rec = elim (in_either s (spans_of l) (driving table ls) k) [
      | inl a ↦ lane_spans_ok table (l ∷ ls) l s (inl refl) (f tt) (r l (inl refl)) a
      | inr a ↦ rec a
    ]
    go false f k rec = rec k

pub box_in_law : (table : List Bool) (ls : List Lane) (s : Span) → SpanOk table ls s → BoxIn s.box
box_in_law table ls s o = record { low_x = o.box.x.low; high_x = o.box.x.high; low_y = o.box.y.low; high_y = o.box.y.high }

pub boxes_in : (table : List Bool) (ls : List Lane) (ss : List Span) → ((s : Span) → In s ss → SpanOk table ls s) → BoxesIn (boxes_of ss)
boxes_in table ls [] h = tt
boxes_in table ls (s ∷ ss) h = (box_in_law table ls s (h s (inl refl)), boxes_in table ls ss (λ z k. h z (inr k)))

-- ---- the projection onto a span
pub record SpanLeast (p : Point) (s : Span) : Type 0 where
  pub at : ℕ
  pub below : at < s.count
  pub point : (projected p s).point ≡ foot_of s.lane.points p (s.first + at)
  pub least : (i : ℕ) → i < s.count → val (span_dist p s) ⊑ val (foot_dist s.lane.points p (s.first + i))

-- `projected` as the loop after count turns
projected_point : (p : Point) (s : Span)
    → (projected p s).point
    ≡ (project_to s.lane.points (cumulative_of s.lane.points s.lane.count) p s.first s.count).best.point
unfolding projected project_segments
projected_point p s =
    let l = s.lane in
    ap (λ (n : ℕ). (project_to l.points (cumulative_of l.points l.count) p s.first n).best.point) (turns s.first s.count)
  where
    turns : (f c : ℕ) → f + c - f ≡ c
    turns f c = omega arith

pub span_least : (table : List Bool) (ls : List Lane) (p : Point) (s : Span) → Coords p → SpanOk table ls s → SpanLeast p s
span_least table ls p s P o = of (subst (λ (n : ℕ). Run ps p s.first n (project_to ps cs p s.first n)) (sym o.count) u)
  where
    ps : List Float
    ps = s.lane.points

    cs : List Float
    cs = cumulative_of ps s.lane.count

    inside : (c k : ℕ) → c ≡ suc k → s.first + c < s.lane.count → s.first + k + 1 < s.lane.count
    inside c k e h = omega arith

    u : Run ps p s.first (suc o.less) (project_to ps cs p s.first (suc o.less))
    u = run ps s.lane.count p P o.coords cs s.first o.less (inside s.count o.less o.count o.room)

    of : Run ps p s.first s.count (project_to ps cs p s.first s.count) → SpanLeast p s
    of r =
        let e : (projected p s).point ≡ foot_of ps p (s.first + r.at) = projected_point p s ∙ r.point in
        record {
          at = r.at;
          below = r.below;
          point = e;
          least = λ i h. subst (λ (f : Float). val f ⊑ val (foot_dist ps p (s.first + i)))
              (r.dist ∙ ap (λ (c : Point). length_squared (sub_of p c)) (sym e)) (r.least i h);
        }

-- ---- items
pub item_only : (g : Grid) (i : ℕ) (ss : List Span) (it : Item) → In it (items_from g i ss)
    → (n : ℕ) × (s : Span) × In s ss × (it ≡ item_of g n s)
unfolding items_from
item_only g i [] it h = absurd h
item_only g i (s ∷ ss) it (inl e) = (i, s, inl refl, e)
item_only g i (s ∷ ss) it (inr h) = more (item_only g (suc i) ss it h)
  where
    more : (n : ℕ) × (s : Span) × In s ss × (it ≡ item_of g n s) → (n : ℕ) × (z : Span) × In z (s ∷ ss) × (it ≡ item_of g n z)
    more (n, z, k, e) = (n, z, inr k, e)

pub item_has : (g : Grid) (i : ℕ) (ss : List Span) (s : Span) → In s ss → (n : ℕ) × In (item_of g n s) (items_from g i ss)
unfolding items_from
item_has g i [] s h = absurd h
item_has g i (z ∷ ss) s (inl e) = (i, inl (ap (item_of g i) e))
item_has g i (z ∷ ss) s (inr h) = more (item_has g (suc i) ss s h)
  where
    more : (n : ℕ) × In (item_of g n s) (items_from g (suc i) ss) → (n : ℕ) × In (item_of g n s) (item_of g i z ∷ items_from g (suc i) ss)
    more (n, k) = (n, inr k)
