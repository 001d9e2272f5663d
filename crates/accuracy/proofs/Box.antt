-- The box of a run of points, and its squared distance to p: its exact value F has K² F ≤ |K p - q|² for each place q / K of a segment
-- inside (`box_dist_law`).
use mathlib.Core.Path.{◌≡◌, sym, subst}
use mathlib.Core.Logic.{inl, inr}
use mathlib.Core.List.{List}
use Prim.Native.Nat.{ℕ, zero, suc, ◌+◌, ◌*◌, ◌^◌, ◌≤◌, ◌<◌}
use native.Mathlib.Nat.{eq-or-lt_of_le, le_of_suc-le-suc}
use native.Mathlib.Omega.{arith}
use lib.Dec.{lit<}
use lib.Ieee.{Float, binary32, add, sub, mul}
use Rattle.exact.specs.Integers.{Z, ◌≈◌, ◌⊑◌, ◌⊞◌, ◌⊟◌, ◌⊠◌, ◌·◌, ⊖, ι}
use Rattle.exact.specs.Ring.{◌:+◌, ◌:-◌, ◌:*◌, ◌:·◌, ◌:=◌, ring}
use Rattle.exact.specs.Inequalities.{Within, abs, mul_mono, mul_nonneg, sq_nonneg, sq_mono, ≈_⊑, ⊑_≈, ⊑_trans, ⊑_refl, within_of_nonneg}
use Rattle.exact.specs.Inequalities.{pos→nonneg, sq_pos, cancel_le, sq}
use Rattle.exact.specs.Values.{U, val, F32}
use Rattle.exact.proofs.Arithmetic.{sub_hi, add_lo}
use Rattle.exact.proofs.Steps.{sub_step, add_step}
use Rattle.float.specs.Choose.{max_of, min_of}
use Rattle.coords.specs.declared.Point.{Point}
use Rattle.coords.specs.Coords.{zero⁺}
use Rattle.geometry.specs.Polyline.{point_at}
use Rattle.grid.specs.declared.Aabb.{Aabb}
use Rattle.grid.specs.Grid.{box_at, grown, padded, outside, dist2}
use Rattle.network.specs.Lanes.{around}
use Rattle.accuracy.proofs.Vectors.{from, beyond, far}
use Rattle.accuracy.proofs.Coordinates.{Coord, Coords, diff, zero_ok, zero_val, zero_coord}
use Rattle.accuracy.proofs.Distance.{Dist, add_nonneg, pair_err, square_of}
use Rattle.accuracy.proofs.Span.{AllCoords}
use Rattle.accuracy.proofs.MinMax.{min_by, max_by, max_cases, min_first, min_second, max_first, max_second, max_ok}

pub record Between (lo hi x : Float) : Type 0 where
  pub low : val lo ⊑ val x
  pub high : val x ⊑ val hi

-- ---- one axis: lo .. hi holds f 0 .. f k
pub record Covers (lo hi : Float) (f : ℕ → Float) (k : ℕ) : Type 0 where
  pub low : Coord lo
  pub high : Coord hi
  pub each : (i : ℕ) → i ≤ k → Between lo hi (f i)

covers_one : (f : ℕ → Float) → Coord (f 0) → Covers (f 0) (f 0) f 0
covers_one f c = record {
  low = c;
  high = c;
  each = λ i h. subst (λ (n : ℕ). Between (f 0) (f 0) (f n)) (only i h) (record { low = ⊑_refl (val (f 0)); high = ⊑_refl (val (f 0)) });
}
  where
    only : (i : ℕ) → i ≤ 0 → 0 ≡ i
    only i h = omega arith

covers_more : (lo hi : Float) (f : ℕ → Float) (k : ℕ) → Covers lo hi f k → Coord (f (suc k))
    → Covers (min_of lo (f (suc k))) (max_of hi (f (suc k))) f (suc k)
covers_more lo hi f k h c =
    let y = f (suc k) in
    let l = h.low.good in
    let u = h.high.good in
    record {
      low = min_by lo y l c.good Coord h.low c zero_coord;
      high = max_by hi y u c.good Coord h.high c zero_coord;
      each = λ i m. elim (eq-or-lt_of_le m) [
        | inl e ↦ subst (λ (j : ℕ). Between (min_of lo (f (suc k))) (max_of hi (f (suc k))) (f j)) (sym e)
            (record { low = min_second lo y l c.good; high = max_second hi y u c.good })
        | inr g ↦ let b = h.each i (le_of_suc-le-suc g) in
            record { low = ⊑_trans (min_first lo y l c.good) b.low; high = ⊑_trans b.high (max_first hi y u c.good) }
      ];
    }

-- padded by 0: x - 0 is at most x, and x + 0 at least
minus_zero_law : (x : Float) → Coord x → Coord (sub binary32 x zero⁺) × (val (sub binary32 x zero⁺) ⊑ val x)
minus_zero_law x c =
    let s = sub_step x zero⁺ 12 c.good zero_ok (lit< tt) (small (val x) (val zero⁺) zero_val c.size) in (
      record { good = s.good; size = s.size },
      sub_hi x zero⁺ x c.good zero_ok c.good s.good.real (same (val x) (val zero⁺) zero_val),
    )
  where
    small : (a z : Z) → z ≈ ι 0 → Within a (ι (4096 * U)) → Within (a ⊟ z) (ι (2 ^ 12 * U))
    small a z e h = unfold ι ⊖ ◌⊟◌ in omega arith

    same : (a z : Z) → z ≈ ι 0 → a ⊟ z ⊑ a
    same a z e = unfold ι ◌⊟◌ in omega arith

plus_zero : (x : Float) → Coord x → Coord (add binary32 x zero⁺) × (val x ⊑ val (add binary32 x zero⁺))
plus_zero x c =
    let s = add_step x zero⁺ 12 c.good zero_ok (lit< tt) (small (val x) (val zero⁺) zero_val c.size) in (
      record { good = s.good; size = s.size },
      add_lo x zero⁺ x c.good zero_ok c.good s.good.real (same (val x) (val zero⁺) zero_val),
    )
  where
    small : (a z : Z) → z ≈ ι 0 → Within a (ι (4096 * U)) → Within (a ⊞ z) (ι (2 ^ 12 * U))
    small a z e h = unfold ι ⊖ ◌⊞◌ in omega arith

    same : (a z : Z) → z ≈ ι 0 → a ⊑ a ⊞ z
    same a z e = unfold ι ◌⊞◌ in omega arith

covers_padded : (lo hi : Float) (f : ℕ → Float) (k : ℕ) → Covers lo hi f k → Covers (sub binary32 lo zero⁺) (add binary32 hi zero⁺) f k
covers_padded lo hi f k h =
    let l = minus_zero_law lo h.low in
    let u = plus_zero hi h.high in
    record {
      low = l.0;
      high = u.0;
      each = λ i m. record { low = ⊑_trans l.1 (h.each i m).low; high = ⊑_trans (h.each i m).high u.1 };
    }

-- ---- the box
pub record Boxed (b : Aabb) (ps : List Float) (first k : ℕ) : Type 0 where
  pub x : Covers b.min_x b.max_x (λ (i : ℕ). (point_at ps (first + i)).x) k
  pub y : Covers b.min_y b.max_y (λ (i : ℕ). (point_at ps (first + i)).y) k

module _ (ps : List Float) (n first : ℕ) (all : AllCoords ps n) where
  abbrev fx : ℕ → Float
  fx i = (point_at ps (first + i)).x

  abbrev fy : ℕ → Float
  fy i = (point_at ps (first + i)).y

  around_boxed : (k : ℕ) → first + k < n → Boxed (around ps first k) ps first k
  unfolding around grown
  around_boxed zero h =
      let c = all (first + 0) (omega arith) in
      subst (λ (j : ℕ). Boxed (box_at (point_at ps j).x (point_at ps j).y) ps first 0) (plain first)
      (record { x = covers_one fx c.x; y = covers_one fy c.y })
    where
      plain : (j : ℕ) → j + 0 ≡ j
      plain j = omega arith
  around_boxed (suc k) h =
      let r = around_boxed k (omega arith) in
      let b = around ps first k in
      let c = all (first + suc k) h in
      record { x = covers_more b.min_x b.max_x fx k r.x c.x; y = covers_more b.min_y b.max_y fy k r.y c.y }

  pub box_holds : (k : ℕ) → first + k < n → Boxed (padded zero⁺ (around ps first k)) ps first k
  box_holds k h =
      let r = around_boxed k h in
      let b = around ps first k in
      record { x = covers_padded b.min_x b.max_x fx k r.x; y = covers_padded b.min_y b.max_y fy k r.y }

-- ---- how far v is outside of lo .. hi: d, in f32, for the exact gap e
record Gap (d lo hi v : Float) : Type 0 where
  pub e : Z
  pub good : F32 d
  pub size : Within (val d) (ι (2 ^ 15 * U))
  pub near : Within (16777216 · (val d ⊟ e)) (abs e)
  pub far : (K q : Z) → ι 0 ⊑ K → K ⊠ val lo ⊑ q → q ⊑ K ⊠ val hi → sq (K ⊠ e) ⊑ sq (K ⊠ val v ⊟ q)

wider : (a : Z) → Within a (ι (2 ^ 13 * U)) → Within a (ι (2 ^ 15 * U))
unfolding ι ⊖
wider a h = omega arith

-- a rounded difference that is not negative has an exact one that is not
exact_nonneg : (v e : Z) → ι 0 ⊑ v → Within (16777216 · (v ⊟ e)) (abs e) → ι 0 ⊑ e
unfolding ι ⊖ ◌⊟◌ ◌·◌ abs
exact_nonneg v e h k = omega arith

gap_below : (lo hi v : Float) → Coord lo → Coord v → ι 0 ⊑ val (sub binary32 lo v) → Gap (sub binary32 lo v) lo hi v
gap_below lo hi v L W h =
    let d = diff lo v L W in
    let e = val lo ⊟ val v in
    let e₀ = exact_nonneg (val (sub binary32 lo v)) e h d.near in
    record {
      e = e;
      good = d.good;
      size = wider (val (sub binary32 lo v)) d.size;
      near = d.near;
      far = λ K q k₀ l u.
          ⊑_≈ (sq_mono (within_of_nonneg (K ⊠ e) (q ⊟ K ⊠ val v) (mul_nonneg k₀ e₀) (under (K ⊠ e) (K ⊠ val lo) (K ⊠ val v) q l
          (ring 3 (λ k l v. k :* (l :- v) := k :* l :- k :* v) tt K (val lo) (val v)))))
          (ring 2 (λ q w. (q :- w) :* (q :- w) := (w :- q) :* (w :- q)) tt q (K ⊠ val v));
    }
  where
    under : (x a b q : Z) → a ⊑ q → x ≈ a ⊟ b → x ⊑ q ⊟ b
    under x a b q h e = unfold ◌⊟◌ in omega arith

gap_above : (lo hi v : Float) → Coord hi → Coord v → ι 0 ⊑ val (sub binary32 v hi) → Gap (sub binary32 v hi) lo hi v
gap_above lo hi v H W h =
    let d = diff v hi W H in
    let e = val v ⊟ val hi in
    let e₀ = exact_nonneg (val (sub binary32 v hi)) e h d.near in
    record {
      e = e;
      good = d.good;
      size = wider (val (sub binary32 v hi)) d.size;
      near = d.near;
      far = λ K q k₀ l u. sq_mono (within_of_nonneg (K ⊠ e) (K ⊠ val v ⊟ q) (mul_nonneg k₀ e₀) (under (K ⊠ e) (K ⊠ val v) (K ⊠ val hi) q u
          (ring 3 (λ k l v. k :* (l :- v) := k :* l :- k :* v) tt K (val v) (val hi))));
    }
  where
    under : (x a b q : Z) → q ⊑ b → x ≈ a ⊟ b → x ⊑ a ⊟ q
    under x a b q h e = unfold ◌⊟◌ in omega arith

gap_none : (lo hi v : Float) → Gap zero⁺ lo hi v
gap_none lo hi v = record {
  e = ι 0;
  good = zero_ok;
  size = small (val zero⁺) zero_val;
  near = exact (val zero⁺) zero_val;
  far = λ K q k₀ l u. ≈_⊑ (nil K) (sq_nonneg (K ⊠ val v ⊟ q));
}
  where
    small : (z : Z) → z ≈ ι 0 → Within z (ι (2 ^ 15 * U))
    small z e = unfold ι ⊖ in omega arith

    exact : (z : Z) → z ≈ ι 0 → Within (16777216 · (z ⊟ ι 0)) (abs (ι 0))
    exact z e = unfold ι ⊖ ◌⊟◌ ◌·◌ abs in omega arith

    nil : (K : Z) → sq (K ⊠ ι 0) ≈ ι 0
    nil K = unfold ι ◌⊠◌ in omega arith

gap : (lo hi v : Float) → Coord lo → Coord hi → Coord v → Gap (outside lo hi v) lo hi v
unfolding outside
gap lo hi v L H W =
    let a = sub binary32 lo v in
    let b = sub binary32 v hi in
    let A = diff lo v L W in
    let B = diff v hi W H in
    let none : Gap zero⁺ lo hi v × (ι 0 ⊑ val zero⁺) =
    (gap_none lo hi v, from_zero (val zero⁺) (val zero⁺) (⊑_refl (val zero⁺)) zero_val) in
    let m = max_cases a zero⁺ A.good zero_ok (λ (z : Float). Gap z lo hi v × (ι 0 ⊑ val z))
    (λ h. let a₀ = from_zero (val a) (val zero⁺) h zero_val in (gap_below lo hi v L W a₀, a₀)) (λ h. none) none in
    max_cases (max_of a zero⁺) b (max_ok a zero⁺ A.good zero_ok) B.good (λ (z : Float). Gap z lo hi v)
    (λ h. m.0) (λ h. gap_above lo hi v H W (⊑_trans m.1 h)) (gap_none lo hi v)
  where
    from_zero : (x z : Z) → z ⊑ x → z ≈ ι 0 → ι 0 ⊑ x
    from_zero x z h e = omega arith

-- ---- places between a and c lie where a and c do
module _ (K S : Z) (s₀ : ι 0 ⊑ S) (s₁ : S ⊑ K) where
  rest : ι 0 ⊑ K ⊟ S
  rest = go S K s₁
    where
      go : (S K : Z) → S ⊑ K → ι 0 ⊑ K ⊟ S
      go S K h = unfold ι ◌⊟◌ in omega arith

  mix : (a b c d : Z) → a ⊑ c → b ⊑ d → a ⊠ (K ⊟ S) ⊞ b ⊠ S ⊑ c ⊠ (K ⊟ S) ⊞ d ⊠ S
  mix a b c d h i = sum (mul_mono (K ⊟ S) rest h) (mul_mono S s₀ i)
    where
      sum : {x y z w : Z} → x ⊑ z → y ⊑ w → x ⊞ y ⊑ z ⊞ w
      sum h i = unfold ◌⊞◌ in omega arith

  weights : (a c : Z) → K ⊠ a ⊞ S ⊠ (c ⊟ a) ≈ a ⊠ (K ⊟ S) ⊞ c ⊠ S
  weights a c = ring 4 (λ K S a c. K :* a :+ S :* (c :- a) := a :* (K :- S) :+ c :* S) tt K S a c

  once : (l : Z) → K ⊠ l ≈ l ⊠ (K ⊟ S) ⊞ l ⊠ S
  once l = ring 3 (λ K S l. K :* l := l :* (K :- S) :+ l :* S) tt K S l

  pub convex_low : (a c l : Z) → l ⊑ a → l ⊑ c → K ⊠ l ⊑ K ⊠ a ⊞ S ⊠ (c ⊟ a)
  convex_low a c l h i = ≈_⊑ (once l) (⊑_trans (mix l l a c h i) (back (weights a c)))
    where
      back : {x y : Z} → x ≈ y → y ⊑ x
      back h = omega arith

  pub convex_high : (a c u : Z) → a ⊑ u → c ⊑ u → K ⊠ a ⊞ S ⊠ (c ⊟ a) ⊑ K ⊠ u
  convex_high a c u h i = ≈_⊑ (weights a c) (⊑_trans (mix a c u u h i) (back (once u)))
    where
      back : {x y : Z} → x ≈ y → y ⊑ x
      back h = omega arith

-- ---- the squared distance of the box
pub record InBox (b : Aabb) (a : Point) : Type 0 where
  pub x : Between b.min_x b.max_x a.x
  pub y : Between b.min_y b.max_y a.y

pub record BoxDist (d : Float) (b : Aabb) (p : Point) : Type 0 where
  pub exact : Z
  pub dist : Dist d exact
  pub pos : ι 0 ⊑ exact
  pub near : (a c : Point) → InBox b a → InBox b c → (K S R : Z) → ι 1 ⊑ K → ι 0 ⊑ S → S ⊑ K
      → 1000000 · far K S (from a p) (from a c) ⊑ sq (K ⊠ R) → 1000000 · exact ⊑ sq R

axis : (d lo hi v a c : Float) (K S : Z) (g : Gap d lo hi v) → ι 1 ⊑ K → ι 0 ⊑ S → S ⊑ K → Between lo hi a → Between lo hi c
    → sq K ⊠ sq g.e ⊑ sq (K ⊠ (val v ⊟ val a) ⊟ S ⊠ (val c ⊟ val a))
axis d lo hi v a c K S g k₁ s₀ s₁ A C =
    ≈_⊑ (ring 2 (λ k e. (k :* k) :* (e :* e) := (k :* e) :* (k :* e)) tt K g.e)
    (⊑_≈ (g.far K (K ⊠ val a ⊞ S ⊠ (val c ⊟ val a)) (pos→nonneg K k₁) (convex_low K S s₀ s₁ (val a) (val c) (val lo) A.low C.low)
    (convex_high K S s₀ s₁ (val a) (val c) (val hi) A.high C.high))
    (ring 5 (λ K S v a c.
    let l = K :* v :- (K :* a :+ S :* (c :- a)) in
    let r = K :* (v :- a) :- S :* (c :- a) in
    l :* l := r :* r) tt K S (val v) (val a) (val c)))

pub box_dist_law : (b : Aabb) (p : Point) → Coord b.min_x → Coord b.max_x → Coord b.min_y → Coord b.max_y → Coords p
    → BoxDist (dist2 b p.x p.y) b p
unfolding dist2
box_dist_law b p lx hx ly hy P =
    let gx = gap b.min_x b.max_x p.x lx hx P.x in
    let gy = gap b.min_y b.max_y p.y ly hy P.y in
    let dx = outside b.min_x b.max_x p.x in
    let dy = outside b.min_y b.max_y p.y in
    record {
      exact = sq gx.e ⊞ sq gy.e;
      dist = pair_err (mul binary32 dx dx) (mul binary32 dy dy) gx.e gy.e (square_of dx gx.e gx.good gx.size gx.near)
          (square_of dy gy.e gy.good gy.size gy.near);
      pos = add_nonneg (sq gx.e) (sq gy.e) (sq_nonneg gx.e) (sq_nonneg gy.e);
      near = λ a c A C K S R k₁ s₀ s₁ h.
          let v = beyond K S (from a p) (from a c) in
          let X = axis dx b.min_x b.max_x p.x a.x c.x K S gx k₁ s₀ s₁ A.x C.x in
          let Y = axis dy b.min_y b.max_y p.y a.y c.y K S gy k₁ s₀ s₁ A.y C.y in
          cancel_le (sq_pos K k₁)
          (sum (sq K ⊠ (1000000 · (sq gx.e ⊞ sq gy.e))) (sq K ⊠ sq gx.e) (sq K ⊠ sq gy.e) (sq v.x) (sq v.y) (sq v.z)
          (sq (K ⊠ R)) (sq K ⊠ sq R) X Y (sq_nonneg v.z) h
          (ring 3 (λ k x y. k :* (1000000 :· (x :+ y)) := 1000000 :· (k :* x :+ k :* y)) tt (sq K) (sq gx.e) (sq gy.e))
          (ring 2 (λ k r. (k :* r) :* (k :* r) := (k :* k) :* (r :* r)) tt K R));
    }
  where
    sum : (l x y X Y W r kr : Z) → x ⊑ X → y ⊑ Y → ι 0 ⊑ W → 1000000 · (X ⊞ Y ⊞ W) ⊑ r → l ≈ 1000000 · (x ⊞ y) → r ≈ kr → l ⊑ kr
    sum l x y X Y W r kr h i j k e f = unfold ι ◌⊞◌ ◌·◌ in omega arith
