-- What the search settles of each span (`reached`), and what that says of the chosen point: wherever a place of the span is within R
-- of p, it is within R + 0.051 m (`bound`). R is in thousandths of a unit.
use mathlib.Core.Path.{◌≡◌, sym, subst}
use mathlib.Core.Logic.{◌⊎◌, inl, inr}
use mathlib.Core.Bool.{Bool, ◌&&◌}
use mathlib.Core.List.{List}
use Prim.Native.Nat.{ℕ, suc, ◌+◌, ◌-◌, ◌*◌, ◌≤◌, ◌<◌, max}
use native.Mathlib.Nat.{le_refl, lt_of_le_of_lt, mul-le-mul_right}
use native.Mathlib.Omega.{arith}
use lib.Dec.{T, leb, le→leb}
use lib.Ieee.{Float, binary32, sub, mul, le}
use lib.Ieee.Fits.{and_i}
use Rattle.exact.specs.Integers.{Z, ◌≈◌, ◌⊑◌, ◌⊞◌, ◌⊟◌, ◌⊠◌, ◌·◌, ⊖, ι, ⊠_cong}
use Rattle.exact.specs.Ring.{◌:+◌, ◌:-◌, ◌:*◌, ◌:·◌, ◌:=◌, neg, ring}
use Rattle.exact.specs.Inequalities.{Within, mul_nonneg, sq_nonneg, sq_mono, root_mono, ≈_⊑, ⊑_≈, ⊑_trans, dot_nonneg, pos→nonneg}
use Rattle.exact.specs.Inequalities.{cancel_le, sq}
use Rattle.exact.specs.Values.{U, val}
use Rattle.exact.proofs.Order.{le_yes}
use Rattle.coords.specs.declared.Point.{Point}
use Rattle.geometry.specs.declared.Projection.{Projection}
use Rattle.geometry.specs.Polyline.{point_at}
use Rattle.grid.specs.declared.Grid.{Grid}
use Rattle.grid.specs.Grid.{of_whole, bucket, col_of, row_of}
use Rattle.grid.specs.Ring.{reached_at}
use Rattle.network.specs.Lanes.{Lane, Span}
use Rattle.network.specs.Nearest.{Item, item_of, items_from, holds, Best, none, found, projected, enough}
use Rattle.accuracy.specs.Taped.{In}
use Rattle.accuracy.proofs.Vectors.{Vec, from, norm_sq, beyond, far}
use Rattle.accuracy.proofs.Coordinates.{Coord, Coords, diff_size}
use Rattle.accuracy.proofs.Distance.{Dist}
use Rattle.accuracy.proofs.Segment.{Hit}
use Rattle.accuracy.proofs.Span.{foot_of, foot_dist, foot_hit}
use Rattle.accuracy.proofs.Box.{InBox, BoxDist, box_dist_law, convex_low, convex_high}
use Rattle.accuracy.proofs.Cells.{buckets_apart, bucket_mono, bucket_top}
use Rattle.accuracy.proofs.GridSize.{Fine}
use Rattle.accuracy.proofs.Stop.{stop_dist}
use Rattle.accuracy.proofs.Choice.{choose}
use Rattle.accuracy.proofs.Rings.{Apart, near_or_apart, cell_at}
use Rattle.accuracy.proofs.Search.{span_dist, box_dist, FiniteItem, Settled, All, AllNearer, Ended}
use Rattle.accuracy.proofs.Index.{SpanOk, span_least, item_only, item_has}

-- ---- one axis: where the place at S / K from a to c is within R of v, v is no farther than R beyond l ≤ a, c or u ≥ a, c
module _ (K S v a c R : Z) (k₁ : ι 1 ⊑ K) (s₀ : ι 0 ⊑ S) (s₁ : S ⊑ K) (r₀ : ι 0 ⊑ R)
    (h : 1000000 · sq (K ⊠ (v ⊟ a) ⊟ S ⊠ (c ⊟ a)) ⊑ sq (K ⊠ R)) where
  abbrev off : Z
  off = K ⊠ (v ⊟ a) ⊟ S ⊠ (c ⊟ a)

  off_within : Within (1000 · off) (K ⊠ R)
  off_within =
      let kr = mul_nonneg (pos→nonneg K k₁) r₀ in
      record {
        hi = root_mono kr (≈_⊑ (ring 1 (λ d. (1000 :· d) :* (1000 :· d) := 1000000 :· (d :* d)) tt off) h);
        lo = root_mono kr (≈_⊑ (ring 1 (λ d. neg (1000 :· d) :* neg (1000 :· d) := 1000000 :· (d :* d)) tt off) h);
      }

  off_is : off ≈ K ⊠ v ⊟ (K ⊠ a ⊞ S ⊠ (c ⊟ a))
  off_is = ring 5 (λ K S v a c. K :* (v :- a) :- S :* (c :- a) := K :* v :- (K :* a :+ S :* (c :- a))) tt K S v a c

  gap_below : (l : Z) → l ⊑ a → l ⊑ c → 1000 · (l ⊟ v) ⊑ R
  gap_below l i j =
      cancel_le k₁ (sum (K ⊠ (1000 · (l ⊟ v))) (K ⊠ l) (K ⊠ v) (K ⊠ a ⊞ S ⊠ (c ⊟ a)) off (K ⊠ R) (convex_low K S s₀ s₁ a c l i j)
      (ring 3 (λ K l v. K :* (1000 :· (l :- v)) := 1000 :· (K :* l :- K :* v)) tt K l v) off_is off_within)
    where
      sum : (x kl kv q d kr : Z) → kl ⊑ q → x ≈ 1000 · (kl ⊟ kv) → d ≈ kv ⊟ q → Within (1000 · d) kr → x ⊑ kr
      sum x kl kv q d kr h e f w = unfold ⊖ ◌⊟◌ ◌·◌ in omega arith

  gap_above : (u : Z) → a ⊑ u → c ⊑ u → 1000 · (v ⊟ u) ⊑ R
  gap_above u i j =
      cancel_le k₁ (sum (K ⊠ (1000 · (v ⊟ u))) (K ⊠ u) (K ⊠ v) (K ⊠ a ⊞ S ⊠ (c ⊟ a)) off (K ⊠ R) (convex_high K S s₀ s₁ a c u i j)
      (ring 3 (λ K l v. K :* (1000 :· (v :- l)) := 1000 :· (K :* v :- K :* l)) tt K u v) off_is off_within)
    where
      sum : (x ku kv q d kr : Z) → q ⊑ ku → x ≈ 1000 · (kv ⊟ ku) → d ≈ kv ⊟ q → Within (1000 · d) kr → x ⊑ kr
      sum x ku kv q d kr h e f w = unfold ⊖ ◌⊟◌ ◌·◌ in omega arith

-- one square of three
first_square : (x y z r : Z) → ι 0 ⊑ y → ι 0 ⊑ z → 1000000 · (x ⊞ y ⊞ z) ⊑ r → 1000000 · x ⊑ r
unfolding ι ◌⊞◌ ◌·◌
first_square x y z r h i j = omega arith

second_square : (x y z r : Z) → ι 0 ⊑ x → ι 0 ⊑ z → 1000000 · (x ⊞ y ⊞ z) ⊑ r → 1000000 · y ⊑ r
unfolding ι ◌⊞◌ ◌·◌
second_square x y z r h i j = omega arith

module _ (table : List Bool) (ls : List Lane) (p : Point) (P : Coords p) (spans : List Span)
    (ok : (z : Span) → In z spans → SpanOk table ls z) (g : Grid) (F : Fine g) where
  abbrev cx : ℕ
  cx = col_of g p.x

  abbrev cy : ℕ
  cy = row_of g p.y

  -- the columns and rows of a span: lx .. hx and ly .. hy
  abbrev lx : Span → ℕ
  lx z = col_of g z.box.min_x

  abbrev pub hx : Span → ℕ
  hx z = col_of g z.box.max_x

  abbrev ly : Span → ℕ
  ly z = row_of g z.box.min_y

  abbrev pub hy : Span → ℕ
  hy z = row_of g z.box.max_y

  abbrev ApartX : Span → ℕ → Type 0
  ApartX z r = Apart cx (lx z) (hx z) r

  abbrev ApartY : Span → ℕ → Type 0
  ApartY z r = Apart cy (ly z) (hy z) r

  pub below_count : (o c : Float) (n : ℕ) → 1 ≤ n → bucket o c n < n
  below_count o c n h = go (bucket o c n) (bucket_top o c n)
    where
      go : (b : ℕ) → b ≤ n - 1 → b < n
      go b k = omega arith

  pub col_in : col_of g p.x < g.cols
  col_in = below_count (sub binary32 p.x g.min_x) g.cell g.cols F.cols_pos

  pub row_in : row_of g p.y < g.rows
  row_in = below_count (sub binary32 p.y g.min_y) g.cell g.rows F.rows_pos

  span_box_law : (z : Span) → SpanOk table ls z → BoxDist (box_dist p z) z.box p
  span_box_law z o = box_dist_law z.box p o.box.x.low o.box.x.high o.box.y.low o.box.y.high P

  -- ---- the place that a span gives
  pub record SpanHit (z : Span) : Type 0 where
    pub piece : ℕ
    pub in_lane : piece + 1 < z.lane.count
    pub hit : Hit (point_at z.lane.points piece) (point_at z.lane.points (piece + 1)) p (projected p z).point

  pub span_hit : (z : Span) → SpanOk table ls z → SpanHit z
  span_hit z o =
      let s = span_least table ls p z P o in
      let ps = z.lane.points in
      let i = z.first + s.at in
      let room = inside s.at z.count s.below o.room in
      record {
        piece = i;
        in_lane = room;
        hit = subst (λ (c : Point). Hit (point_at ps i) (point_at ps (i + 1)) p c) (sym s.point)
            (foot_hit ps z.lane.count p P o.coords i room);
      }
    where
      inside : (a c : ℕ) → a < c → z.first + c < z.lane.count → z.first + a + 1 < z.lane.count
      inside a c h k = omega arith

  pub finite_items : (it : Item) → In it (items_from g 0 spans) → FiniteItem p (items_from g 0 spans) it
  finite_items it h = go (item_only g 0 spans it h)
    where
      go : (n : ℕ) × (s : Span) × In s spans × (it ≡ item_of g n s) → FiniteItem p (items_from g 0 spans) it
      go (n, s, k, e) =
          subst (FiniteItem p (items_from g 0 spans)) (sym e)
          (unfold item_of in record { span = (span_hit s (ok s k)).hit.dist.good; box = (span_box_law s (ok s k)).dist.good })

  -- ---- what is settled of a span: the best is no farther than it, or no farther than its box, or no farther than t cells, and the span
  -- is t + 1 or more cells away
  abbrev pub Reached : Best → Span → Type 0
  Reached none z = ⊥
  Reached (found d i l q) z =
      ((val d ⊑ val (span_dist p z)) ⊎ (val d ⊑ val (box_dist p z)))
      ⊎ ((t : ℕ) × (t ≤ 1024) × T (reached_at g (suc t) d) × (ApartX z (suc t) ⊎ ApartY z (suc t)))

  from_settled : (b : Best) (z : Span) (n : ℕ) → Settled p (items_from g 0 spans) b (item_of g n z) → Reached b z
  unfolding item_of
  from_settled none z n h = h
  from_settled (found d i l q) z n h = inl h

  from_apart : (b : Best) (z : Span) (t : ℕ) → t ≤ 1024 → T (enough g (suc t) b) → ApartX z (suc t) ⊎ ApartY z (suc t) → Reached b z
  unfolding enough
  from_apart none z t h k s = k
  from_apart (found d i l q) z t h k s = inr (t, h, k, s)

  pub cell_holds : (z : Span) (n x y : ℕ) → lx z ≤ x → x ≤ hx z → ly z ≤ y → y ≤ hy z → T (holds (item_of g n z) (cell_at x y))
  unfolding holds item_of
  cell_holds z n x y a b c d =
      and_i (leb (lx z) x) (leb x (hx z) && (leb (ly z) y && leb y (hy z))) (le→leb (lx z) x a)
      (and_i (leb x (hx z)) (leb (ly z) y && leb y (hy z)) (le→leb x (hx z) b)
      (and_i (leb (ly z) y) (leb y (hy z)) (le→leb (ly z) y c) (le→leb y (hy z) d)))

  module _ (z : Span) (k : In z spans) where
    z_ok : SpanOk table ls z
    z_ok = ok z k

    pub cols_order : lx z ≤ hx z
    cols_order =
        bucket_mono g.cell g.min_x g.cols F.cell F.x F.cols z.box.min_x z.box.max_x z_ok.box.x.low
        z_ok.box.x.high (⊑_trans (z_ok.box.x.each 0 (omega arith)).low (z_ok.box.x.each 0 (omega arith)).high)

    pub rows_order : ly z ≤ hy z
    rows_order =
        bucket_mono g.cell g.min_y g.rows F.cell F.y F.rows z.box.min_y z.box.max_y z_ok.box.y.low
        z_ok.box.y.high (⊑_trans (z_ok.box.y.each 0 (omega arith)).low (z_ok.box.y.each 0 (omega arith)).high)

    pub last_col : hx z < g.cols
    last_col = below_count (sub binary32 z.box.max_x g.min_x) g.cell g.cols F.cols_pos

    pub last_row : hy z < g.rows
    last_row = below_count (sub binary32 z.box.max_y g.min_y) g.cell g.rows F.rows_pos

    fewer : (m n t : ℕ) → m ≤ 1024 → n ≤ 1024 → t ≤ max m n → t ≤ 1024
    fewer m n t a b c = omega arith

    pub reached : (b : Best) → Ended p (items_from g 0 spans) finite_items g (col_of g p.x) (row_of g p.y) col_in row_in b → Reached b z
    reached b e = go (item_has g 0 spans z k) e.why
      where
        its : List Item
        its = items_from g 0 spans

        at : (n x y : ℕ) → In (item_of g n z) its
            → ((it : Item) → In it its → x < g.cols → y < g.rows → T (holds it (cell_at x y)) → Settled p its b it)
            → lx z ≤ x → x ≤ hx z → ly z ≤ y → y ≤ hy z → Reached b z
        at n x y m f a c d h =
            from_settled b z n (f (item_of g n z) m (lt_of_le_of_lt c last_col) (lt_of_le_of_lt h last_row) (cell_holds z n x y a c d h))

        go : (n : ℕ) × In (item_of g n z) its → All p its finite_items g cx cy col_in row_in b ⊎ ((s : ℕ) × (s ≤ max g.cols g.rows)
            × T (enough g (suc s) b) × AllNearer p its finite_items g cx cy col_in row_in (suc s) b) → Reached b z
        go (n, m) (inl all) =
            at n (lx z) (ly z) m (λ it h X Y t. all it h (lx z) (ly z) X Y t) (le_refl (lx z)) cols_order (le_refl (ly z)) rows_order
        go (n, m) (inr (s, c, stop, nearer)) =
            split (near_or_apart cx (lx z) (hx z) (suc s) (omega arith) cols_order)
            (near_or_apart cy (ly z) (hy z) (suc s) (omega arith) rows_order)
          where
            t : s ≤ 1024
            t = fewer g.cols g.rows s F.cols F.rows c

            split : ApartX z (suc s) ⊎ ((x : ℕ) × (lx z ≤ x) × (x ≤ hx z) × (x < cx + suc s) × (cx < x + suc s))
                → ApartY z (suc s) ⊎ ((y : ℕ) × (ly z ≤ y) × (y ≤ hy z) × (y < cy + suc s) × (cy < y + suc s)) → Reached b z
            split (inl a) v = from_apart b z s t stop (inl a)
            split (inr u) (inl a) = from_apart b z s t stop (inr a)
            split (inr (x, x₁, x₂, x₃, x₄)) (inr (y, y₁, y₂, y₃, y₄)) =
                at n x y m (λ it h X Y t. nearer it h x y X Y t (x₃, x₄, y₃, y₄)) x₁ x₂ y₁ y₂

  -- ---- the bound: c is the chosen point, d its f32 squared distance; A and B are the ends of piece i of the span z
  module _ (d : Float) (c : Point) (D : Dist d (norm_sq (from c p))) (z : Span) (o : SpanOk table ls z) (i : ℕ) (I : i < z.count)
      (K S R : Z) (k₁ : ι 1 ⊑ K) (s₀ : ι 0 ⊑ S) (s₁ : S ⊑ K) (r₀ : ι 0 ⊑ R) (r₁ : R ⊑ ι (16380000 * U)) where
    abbrev A : Point
    A = point_at z.lane.points (z.first + i)

    abbrev B : Point
    B = point_at z.lane.points (z.first + i + 1)

    abbrev Goal : Type 0
    Goal = 1000000 · norm_sq (from c p) ⊑ sq (R ⊞ ι (51 * U))

    by_choice : (e : Float) (E : Z) (n : ℕ) → n ≤ 35 → Dist e E → val d ⊑ val e → ι 0 ⊑ E → 1000000 · E ⊑ sq (R ⊞ ι (n * U)) → Goal
    by_choice e E n l q h f g =
        ⊑_trans (choose d e (norm_sq (from c p)) E (R ⊞ ι (n * U)) D q h (pos R (n * U) r₀)
        (top R (n * U) r₁ (mul-le-mul_right U (more n l))) f g)
        (sq_mono (wider R (n * U) r₀ (mul-le-mul_right U l)))
      where
        more : (n : ℕ) → n ≤ 35 → n ≤ 4000
        more n l = omega arith

        pos : (x : Z) (n : ℕ) → ι 0 ⊑ x → ι 0 ⊑ x ⊞ ι n
        pos x n h = unfold ι ◌⊞◌ in omega arith

        top : (R : Z) (n : ℕ) → R ⊑ ι (16380000 * U) → n ≤ 4000 * U → R ⊞ ι n ⊑ ι (16384000 * U)
        top R n h k = unfold ι ◌⊞◌ in omega arith

        wider : (R : Z) (n : ℕ) → ι 0 ⊑ R → n ≤ 35 * U → Within (R ⊞ ι n ⊞ ι (16 * U)) (R ⊞ ι (51 * U))
        wider R n h k = unfold ι ⊖ ◌⊞◌ in omega arith

    -- the box holds both ends of the piece
    start_in : InBox z.box A
    start_in = record { x = o.box.x.each i (omega arith); y = o.box.y.each i (omega arith) }

    end_in : InBox z.box B
    end_in =
        subst (λ (n : ℕ). InBox z.box (point_at z.lane.points n)) (next z.first i)
        (record { x = o.box.x.each (i + 1) (omega arith); y = o.box.y.each (i + 1) (omega arith) })
      where
        next : (f i : ℕ) → f + (i + 1) ≡ f + i + 1
        next f i = omega arith

    by_span : val d ⊑ val (span_dist p z) → 1000000 · far K S (from A p) (from A B) ⊑ sq (K ⊠ R) → Goal
    by_span h f =
        let ps = z.lane.points in
        let foot = foot_of ps p (z.first + i) in
        let v = from foot p in
        let t = foot_hit ps z.lane.count p P o.coords (z.first + i) (inside z.count I o.room) in
        by_choice (foot_dist ps p (z.first + i)) (norm_sq v) 35 (omega arith) t.dist (⊑_trans h ((span_least table ls p z P o).least i I))
        (dot_nonneg v.x v.y v.z) (t.near K S R k₁ s₀ s₁ r₀ f)
      where
        inside : (c : ℕ) → i < c → z.first + c < z.lane.count → z.first + i + 1 < z.lane.count
        inside c h k = omega arith

    by_box : val d ⊑ val (box_dist p z) → 1000000 · far K S (from A p) (from A B) ⊑ sq (K ⊠ R) → Goal
    by_box h f =
        let l = span_box_law z o in
        by_choice (box_dist p z) l.exact 0 (omega arith) l.dist h l.pos
        (⊑_≈ (l.near A B start_in end_in K S R k₁ s₀ s₁ f) (⊠_cong (plain R) (plain R)))
      where
        plain : (R : Z) → R ≈ R ⊞ ι (0 * U)
        plain R = unfold ι ◌⊞◌ in omega arith

    by_floor : (t : ℕ) (gap : Z) → t ≤ 1024 → T (reached_at g (suc t) d) → gap ⊑ ι (8192 * U)
        → 1000 · (ι t ⊠ val g.cell) ⊑ 1000 · gap ⊞ ι (2 * U)
        → 1000 · gap ⊑ R → Goal
    by_floor t gap l h top w f =
        let x = mul binary32 (of_whole t) g.cell in
        let q = stop_dist t g.cell gap R l F.cell top w f in
        by_choice (mul binary32 x x) q.exact 3 (omega arith) q.dist (le_yes d (mul binary32 x x) D.good q.dist.good (test h))
        q.pos q.near
      where
        minus : (t : ℕ) → suc t - 1 ≡ t
        minus t = omega arith

        test : T (reached_at g (suc t) d) → T (le d (mul binary32 (mul binary32 (of_whole t) g.cell) (mul binary32 (of_whole t) g.cell)))
        test h =
            subst (λ (n : ℕ). T (le d (mul binary32 (mul binary32 (of_whole n) g.cell) (mul binary32 (of_whole n) g.cell)))) (minus t)
            (unfold reached_at in h)

    gap_size : (x y : Float) → Coord x → Coord y → val x ⊟ val y ⊑ ι (8192 * U)
    gap_size x y X Y = (diff_size (val x) (val y) X.size Y.size).hi

    abbrev v : Vec
    v = beyond K S (from A p) (from A B)

    by_apart : (t : ℕ) → t ≤ 1024 → T (reached_at g (suc t) d) → ApartX z (suc t) ⊎ ApartY z (suc t)
        → 1000000 · far K S (from A p) (from A B) ⊑ sq (K ⊠ R) → Goal
    by_apart t l h s f = sides s
      where
        fx : 1000000 · sq v.x ⊑ sq (K ⊠ R)
        fx = first_square (sq v.x) (sq v.y) (sq v.z) (sq (K ⊠ R)) (sq_nonneg v.y) (sq_nonneg v.z) f

        fy : 1000000 · sq v.y ⊑ sq (K ⊠ R)
        fy = second_square (sq v.x) (sq v.y) (sq v.z) (sq (K ⊠ R)) (sq_nonneg v.x) (sq_nonneg v.z) f

        apart_x : (x y : Float) → Coord x → Coord y → col_of g x + suc t ≤ col_of g y
            → 1000 · (ι t ⊠ val g.cell) ⊑ 1000 · (val y ⊟ val x) ⊞ ι (2 * U)
        apart_x x y X Y a = buckets_apart g.cell g.min_x g.cols F.cell F.x F.cols x y t X Y a

        apart_y : (x y : Float) → Coord x → Coord y → row_of g x + suc t ≤ row_of g y
            → 1000 · (ι t ⊠ val g.cell) ⊑ 1000 · (val y ⊟ val x) ⊞ ι (2 * U)
        apart_y x y X Y a = buckets_apart g.cell g.min_y g.rows F.cell F.y F.rows x y t X Y a

        sides : ApartX z (suc t) ⊎ ApartY z (suc t) → Goal
        sides (inl (inl a)) =
            let lo = z.box.min_x in
            by_floor t (val lo ⊟ val p.x) l h (gap_size lo p.x o.box.x.low P.x) (apart_x p.x lo P.x o.box.x.low a)
            (gap_below K S (val p.x) (val A.x) (val B.x) R k₁ s₀ s₁ r₀ fx (val lo) start_in.x.low end_in.x.low)
        sides (inl (inr a)) =
            let hi = z.box.max_x in
            by_floor t (val p.x ⊟ val hi) l h (gap_size p.x hi P.x o.box.x.high)
            (apart_x hi p.x o.box.x.high P.x a)
            (gap_above K S (val p.x) (val A.x) (val B.x) R k₁ s₀ s₁ r₀ fx (val hi) start_in.x.high end_in.x.high)
        sides (inr (inl a)) =
            let lo = z.box.min_y in
            by_floor t (val lo ⊟ val p.y) l h (gap_size lo p.y o.box.y.low P.y) (apart_y p.y lo P.y o.box.y.low a)
            (gap_below K S (val p.y) (val A.y) (val B.y) R k₁ s₀ s₁ r₀ fy (val lo) start_in.y.low end_in.y.low)
        sides (inr (inr a)) =
            let hi = z.box.max_y in
            by_floor t (val p.y ⊟ val hi) l h (gap_size p.y hi P.y o.box.y.high)
            (apart_y hi p.y o.box.y.high P.y a)
            (gap_above K S (val p.y) (val A.y) (val B.y) R k₁ s₀ s₁ r₀ fy (val hi) start_in.y.high end_in.y.high)

    pub bound : (n : ℕ) (l : Lane) (q : Projection) → Reached (found d n l q) z → 1000000 · far K S (from A p) (from A B) ⊑ sq (K ⊠ R)
        → Goal
    bound n l q (inl (inl h)) f = by_span h f
    bound n l q (inl (inr h)) f = by_box h f
    bound n l q (inr (t, a, h, s)) f = by_apart t a h s f
