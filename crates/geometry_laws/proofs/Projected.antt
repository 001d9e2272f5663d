-- A projection onto segments in range lies at finite coordinates and at a finite arc length, whatever the point that is projected:
-- the fraction is from 0 to 1, or NaN, and then the squared distance is NaN and never less than another.
use mathlib.Core.Path.{◌≡◌, refl, sym, ap, ◌∙◌, subst}
use mathlib.Core.Logic.{◌⊎◌, inl, inr, ⊎_elim}
use mathlib.Core.Bool.{Bool, true, false, not, cond, true≢false}
use mathlib.Core.List.{List}
use Prim.Native.Nat.{ℕ, zero, suc, ◌+◌, ◌-◌, ◌*◌, ◌^◌, ◌≤◌, ◌<◌}
use native.Mathlib.Nat.{le_trans, le_of_lt, lt_of_lt_of_le, mul-le-mul_right}
use native.Mathlib.Omega.{arith}
use lib.Dec.{T, lit<}
use lib.IntN.{pos}
use lib.ListN.{length, get_or}
use lib.Ieee.{Float, nan, inf, fin, binary32, add, sub, mul, div, neg, lt, fits, of_bits}
use lib.Ieee.Fits.{div-fits}
use Rattle.exact.specs.Integers.{Z, ◌≈◌, ≈_sym, ◌⊑◌, ⊖, ι, ◌⊞◌, ◌⊠◌, sgn}
use Rattle.exact.specs.Inequalities.{Within, ⊑_trans, mul_nonneg, within_mul, within_up, within_of_nonneg, ⊑_≈, ≈_⊑}
use Rattle.exact.specs.Values.{U, mag, val, size_of, val_of, finite_of_value, F32}
use Rattle.exact.specs.Sums.{UpTo, up_to}
use Rattle.exact.proofs.Order.{lt_no}
use Rattle.exact.proofs.Steps.{add_step, mul_step}
use Rattle.float.specs.Choose.{clamp_of}
use Rattle.coords.specs.declared.Point.{Point}
use Rattle.coords.specs.declared.Vector.{Vector}
use Rattle.coords.specs.Coords.{zero⁺, one⁺, sub_of, dot_of, length_squared, length_of}
use Rattle.geometry.specs.declared.Nearer.{Nearer}
use Rattle.geometry.specs.declared.Projection.{Projection}
use Rattle.geometry.specs.Polyline.{point_at, arc_at, cumulative_of}
use Rattle.geometry.specs.PolylineLaws.{cumulative_at}
use Rattle.geometry.specs.Project.{nano, fraction_along, fraction_of, place_at, closest_of, hit_along, hit_at}
use Rattle.geometry.specs.Project.{nearer_at, project_to, project_segments}
use Rattle.geometry_laws.specs.Range.{InRange, PointIn, Coordinates, Sized, PointSized, FromZero, Landed}
use Rattle.geometry_laws.proofs.Lengths.{in_range_ok, in_range_size, difference, distance}
use Rattle.geometry_laws.proofs.Cumulative.{zero_is, point_in_range, arc_long}

-- ---- the fraction
-- an f32 from 0 to 1
abbrev Unit : Float → Type 0
Unit t = FromZero U t

one_is : one⁺ ≡ fin false 1 (pos 0)
unfolding of_bits
one_is = refl

zero_ok : F32 (fin false 0 (pos 0))
unfolding fits
zero_ok = record { fit = tt; real = tt }

one_ok : F32 (fin false 1 (pos 0))
unfolding fits
one_ok = record { fit = tt; real = tt }

zero_value : val (fin false 0 (pos 0)) ≈ ι 0
unfolding val sgn mag ι
zero_value = omega arith

one_value : val (fin false 1 (pos 0)) ≈ ι U
unfolding val sgn mag ι
one_value = omega arith

from_zero : (v : Z) (u : ℕ) → v ≈ ι 0 → (ι 0 ⊑ v) × (v ⊑ ι u)
unfolding ι
from_zero v u e = (omega arith, omega arith)

to_one : (v : Z) (u : ℕ) → v ≈ ι u → (ι 0 ⊑ v) × (v ⊑ ι u)
unfolding ι
to_one v u e = (omega arith, omega arith)

unit_zero : Unit (fin false 0 (pos 0))
unit_zero = let b = from_zero (val (fin false 0 (pos 0))) U zero_value in record { good = zero_ok; low = b.0; high = b.1 }

unit_one : Unit (fin false 1 (pos 0))
unit_one = let b = to_one (val (fin false 1 (pos 0))) U one_value in record { good = one_ok; low = b.0; high = b.1 }

-- a quotient that is neither below 0 nor above 1
between : (q : Float) → T (fits binary32 q) → lt q (fin false 0 (pos 0)) ≡ false → lt (fin false 1 (pos 0)) q ≡ false → (q ≡ nan) ⊎ Unit q
unfolding lt
between nan t h k = inl refl
between (inf true) t h k = absurd (true≢false h)
between (inf false) t h k = absurd (true≢false k)
between (fin s m e) t h k = inr (in_between (fin s m e) (record { fit = t; real = tt }) h k)
  where
    in_between : (x : Float) → F32 x → lt x (fin false 0 (pos 0)) ≡ false → lt (fin false 1 (pos 0)) x ≡ false → Unit x
    in_between x p h k = record {
      good = p;
      low = ≈_⊑ (≈_sym zero_value) (lt_no x (fin false 0 (pos 0)) p zero_ok (subst (λ (b : Bool). T (not b)) (sym h) tt));
      high = ⊑_≈ (lt_no (fin false 1 (pos 0)) x one_ok p (subst (λ (b : Bool). T (not b)) (sym k) tt)) one_value;
    }

abbrev lowered : Float → Float
lowered x = cond (lt (fin false 1 (pos 0)) x) (fin false 1 (pos 0)) x

-- 0 is not above 1
zero_stays : lowered (fin false 0 (pos 0)) ≡ fin false 0 (pos 0)
unfolding lt
zero_stays = refl

abbrev NanOrUnit : Float → Type 0
NanOrUnit t = (t ≡ nan) ⊎ Unit t

clamped : (q : Float) → T (fits binary32 q) → NanOrUnit (clamp_of q (fin false 0 (pos 0)) (fin false 1 (pos 0)))
clamped q t = low (lt q (fin false 0 (pos 0))) refl
  where
    high : (b : Bool) → lt q (fin false 0 (pos 0)) ≡ false → lt (fin false 1 (pos 0)) q ≡ b → NanOrUnit (cond b (fin false 1 (pos 0)) q)
    high true h e = inr unit_one
    high false h e = between q t h e

    low : (b : Bool) → lt q (fin false 0 (pos 0)) ≡ b → NanOrUnit (lowered (cond b (fin false 0 (pos 0)) q))
    low true e = subst NanOrUnit (sym zero_stays) (inr unit_zero)
    low false e = high (lt (fin false 1 (pos 0)) q) e refl

fraction_unit : (a : Point) (ab : Vector) (p : Point) → NanOrUnit (fraction_along a ab p)
unfolding fraction_along
fraction_unit a ab p = choose (lt nano (length_squared ab))
  where
    choose : (b : Bool) → NanOrUnit (cond b (clamp_of (div binary32 (dot_of (sub_of p a) ab) (length_squared ab)) zero⁺ one⁺) zero⁺)
    choose true =
        rw (zero_is, one_is) (clamped (div binary32 (dot_of (sub_of p a) ab) (length_squared ab))
        (div-fits binary32 (dot_of (sub_of p a) ab) (length_squared ab)))
    choose false = rw zero_is (inr unit_zero)

-- ---- the place at a fraction from 0 to 1
scale_bound : (u : ℕ) → ι (2 ^ 13 * u) ⊠ ι u ⊑ ι (u * (2 ^ 13 * u))
unfolding ι ◌⊠◌
scale_bound u = omega arith

scaled : (d t : Float) → Sized (2 ^ 13 * U) d → Unit t → Sized (2 ^ 13 * U) (mul binary32 d t)
scaled d t p q =
    let s = mul_step d t 13 p.good q.good (lit< tt)
    (within_up (within_mul p.size (within_of_nonneg (val t) (ι U) q.low q.high)) (scale_bound U)) in
    record { good = s.good; size = s.size }

shift_bound : (x y : Z) (u : ℕ) → Within x (ι (2 ^ 12 * u)) → Within y (ι (2 ^ 13 * u)) → Within (x ⊞ y) (ι (2 ^ 14 * u))
unfolding ι ⊖ ◌⊞◌
shift_bound x y u h k = omega arith

shifted : (x d : Float) → InRange x → Sized (2 ^ 13 * U) d → Sized (2 ^ 14 * U) (add binary32 x d)
shifted x d p q =
    let s = add_step x d 14 (in_range_ok x p) q.good (lit< tt) (shift_bound (val x) (val d) U (in_range_size x p) q.size) in
    record { good = s.good; size = s.size }

place_sized : (a b : Point) (t : Float) → PointIn a → PointIn b → Unit t → PointSized (2 ^ 14 * U) (place_at a b t)
place_sized a b t A B u = record {
  x = shifted a.x _ A.x (scaled _ t (difference b.x a.x B.x A.x) u);
  y = shifted a.y _ A.y (scaled _ t (difference b.y a.y B.y A.y) u);
  z = shifted a.z _ A.z (scaled _ t (difference b.z a.z B.z A.z) u);
}

in_range_sized : (x : Float) → InRange x → Sized (2 ^ 14 * U) x
in_range_sized x p = record { good = in_range_ok x p; size = within_up (in_range_size x p) (wider U) }
  where
    wider : (u : ℕ) → ι (2 ^ 12 * u) ⊑ ι (2 ^ 14 * u)
    wider u = unfold ι in omega arith

point_sized : (p : Point) → PointIn p → PointSized (2 ^ 14 * U) p
point_sized p P = record { x = in_range_sized p.x P.x; y = in_range_sized p.y P.y; z = in_range_sized p.z P.z }

-- ---- at a NaN fraction the distance is NaN
mul_nan : (x : Float) → mul binary32 x nan ≡ nan
unfolding mul
mul_nan nan = refl
mul_nan (inf s) = refl
mul_nan (fin s m e) = refl

add_nan : (x : Float) → add binary32 x nan ≡ nan
unfolding add
add_nan nan = refl
add_nan (inf s) = refl
add_nan (fin s m e) = refl

sub_nan : (x : Float) → sub binary32 x nan ≡ nan
unfolding sub neg
sub_nan x = add_nan x

square_nan : (x y z : Float) → x ≡ nan → dot_of (record { x = x; y = y; z = z }) (record { x = x; y = y; z = z }) ≡ nan
unfolding mul add
square_nan x y z e = rw e

far_nan : (a b p : Point) (t r : Float) → t ≡ nan → lt (length_squared (sub_of p (place_at a b t))) r ≡ false
unfolding lt
far_nan a b p t r e =
    let gone : sub binary32 p.x (add binary32 a.x (mul binary32 (sub binary32 b.x a.x) t)) ≡ nan
    = ap (λ (m : Float). sub binary32 p.x (add binary32 a.x m))
    (ap (mul binary32 (sub binary32 b.x a.x)) e ∙ mul_nan (sub binary32 b.x a.x))
    ∙ ap (sub binary32 p.x) (add_nan a.x) ∙ sub_nan p.x in
    ap (λ (d : Float). lt d r) (square_nan _ _ _ gone)

-- ---- the arc length there
positive_value : (w : ℕ) → (ι 0 ⊑ sgn false w) × (sgn false w ⊑ ι w)
unfolding sgn ι
positive_value w = (omega arith, omega arith)

from_up_to : (n : ℕ) (x : Float) → UpTo n x → FromZero n x
from_up_to n x p =
    let is = val_of x false (size_of x) p.fit p.value in
    let v = positive_value (size_of x) in
    record {
      good = record { fit = p.fit; real = finite_of_value x false (size_of x) U p.value };
      low = subst (λ (z : Z). ι 0 ⊑ z) (sym is) v.0;
      high = ⊑_trans (subst (λ (z : Z). z ⊑ ι (size_of x)) (sym is) v.1) (ι_mono (size_of x) n p.most);
    }
  where
    ι_mono : (a b : ℕ) → a ≤ b → ι a ⊑ ι b
    ι_mono a b h = unfold ι in omega arith

part_bound : (u : ℕ) → ι (2 ^ 14 * u) ⊠ ι u ⊑ ι (u * (2 ^ 14 * u))
unfolding ι ◌⊠◌
part_bound u = omega arith

part_of : (len t : Float) → FromZero (2 ^ 14 * U) len → Unit t → FromZero (2 ^ 14 * U) (mul binary32 len t)
part_of len t p q =
    let P = within_of_nonneg (val len) (ι (2 ^ 14 * U)) p.low p.high in
    let Q = within_of_nonneg (val t) (ι U) q.low q.high in
    let s = mul_step len t 14 p.good q.good (lit< tt) (within_up (within_mul P Q) (part_bound U)) in
    record { good = s.good; low = s.keeps (mul_nonneg p.low q.low); high = s.size.hi }

sum_bound : (x y : Z) (u : ℕ) → ι 0 ⊑ x → x ⊑ ι (2 ^ 26 * u) → ι 0 ⊑ y → y ⊑ ι (2 ^ 14 * u) → (ι 0 ⊑ x ⊞ y) × Within (x ⊞ y)
    (ι (2 ^ 27 * u))
unfolding ι ⊖ ◌⊞◌
sum_bound x y u h k l m = (omega arith, record { hi = omega arith; lo = omega arith })

arc_on : (arc part : Float) → FromZero (2 ^ 26 * U) arc → FromZero (2 ^ 14 * U) part → FromZero (2 ^ 27 * U) (add binary32 arc part)
arc_on arc part p q =
    let b = sum_bound (val arc) (val part) U p.low p.high q.low q.high in
    let s = add_step arc part 27 p.good q.good (lit< tt) b.1 in
    record { good = s.good; low = s.keeps b.0; high = s.size.hi }

-- ---- turn by turn
hit_point : (start : Float) (ab : Vector) (t : Float) (closest p : Point) → (hit_along start ab t closest p).point ≡ closest
unfolding hit_along
hit_point start ab t closest p = refl

hit_arc : (start : Float) (ab : Vector) (t : Float) (closest p : Point) → (hit_along start ab t closest p).s ≡ add binary32 start
    (mul binary32 (length_of ab) t)
unfolding hit_along
hit_arc start ab t closest p = refl

hit_landed : (start : Float) (a b p : Point) → PointIn a → PointIn b → FromZero (2 ^ 26 * U) start → Unit (fraction_of a b p)
    → Landed (hit_at start a b p)
hit_landed start a b p A B S u =
    let t = fraction_of a b p in
    record {
      point = subst (PointSized (2 ^ 14 * U)) (sym (hit_point start (sub_of b a) t (closest_of a b p) p)) (place_sized a b t A B u);
      arc = subst (FromZero (2 ^ 27 * U)) (sym (hit_arc start (sub_of b a) t (closest_of a b p) p))
          (arc_on start (mul binary32 (length_of (sub_of b a)) t) S
          (part_of (length_of (sub_of b a)) t (from_up_to (2 ^ 14 * U) (length_of (sub_of b a)) (distance b a B A)) u));
    }

-- a place that is nearer than another is not at a NaN fraction
nearer_unit : (a b p : Point) (r : Float) → lt (length_squared (sub_of p (closest_of a b p))) r ≡ true → Unit (fraction_of a b p)
nearer_unit a b p r e =
    ⊎_elim (λ n. absurd (true≢false (sym e ∙ far_nan a b p (fraction_of a b p) r n))) (λ u. u) (fraction_unit a (sub_of b a) p)

module _ (ps cs : List Float) (p : Point) (i : ℕ) (r : Nearer) (A : PointIn (point_at ps i)) (B : PointIn (point_at ps (i + 1)))
    (S : FromZero (2 ^ 26 * U) (get_or cs i nan)) where
  nearer_landed : Landed r.best → Landed (nearer_at ps cs p i r).best
  unfolding nearer_at
  nearer_landed R = choose (lt (length_squared (sub_of p (closest_of (point_at ps i) (point_at ps (i + 1)) p))) r.dist) refl
    where
      far : Float
      far = length_squared (sub_of p (closest_of (point_at ps i) (point_at ps (i + 1)) p))

      hit : Projection
      hit = hit_at (get_or cs i nan) (point_at ps i) (point_at ps (i + 1)) p

      choose : (x : Bool) → lt far r.dist ≡ x → Landed (cond x (record { dist = far; best = hit }) r).best
      choose true e = hit_landed (get_or cs i nan) (point_at ps i) (point_at ps (i + 1)) p A B S
          (nearer_unit (point_at ps i) (point_at ps (i + 1)) p r.dist e)
      choose false e = R

module _ (ps : List Float) (n : ℕ) (in_range_law : Coordinates ps) (few : n ≤ 4096) (inside : 3 * n ≤ length ps) where
  arc_from_zero : (i : ℕ) → i < n → FromZero (2 ^ 26 * U) (get_or (cumulative_of ps n) i nan)
  arc_from_zero i h =
      let long = arc_long ps in_range_law i (omega arith) (omega arith) in
      let wide : i * (2 ^ 14 * U) ≤ 2 ^ 26 * U = omega (arith, mul-le-mul_right (2 ^ 14 * U) (le_of_lt (lt_of_lt_of_le h few))) in
      subst (FromZero (2 ^ 26 * U)) (sym (cumulative_at ps n i h))
      (from_up_to (2 ^ 26 * U) (arc_at ps i)
      (up_to (2 ^ 26 * U) (size_of (arc_at ps i)) (arc_at ps i) long.fit long.value (le_trans long.most wide)))

  module _ (p : Point) (first : ℕ) where
    start_landed : first < n → Landed (project_to ps (cumulative_of ps n) p first 0).best
    unfolding project_to
    start_landed h =
        let S = arc_from_zero first h in
        record {
          point = point_sized (point_at ps first) (point_in_range ps in_range_law first (omega arith));
          arc = record { good = S.good; low = S.low; high = ⊑_trans S.high (wider U) };
        }
      where
        wider : (u : ℕ) → ι (2 ^ 26 * u) ⊑ ι (2 ^ 27 * u)
        wider u = unfold ι in omega arith

    project_landed : (k : ℕ) → first + k < n → Landed (project_to ps (cumulative_of ps n) p first k).best
    unfolding project_to
    project_landed zero h = start_landed (omega arith)
    project_landed (suc k) h =
        let at = first + k in
        nearer_landed ps (cumulative_of ps n) p at (project_to ps (cumulative_of ps n) p first k) (point_in_range ps in_range_law at (omega arith))
        (point_in_range ps in_range_law (at + 1) (omega arith)) (arc_from_zero at (omega arith)) (project_landed k (omega arith))

    pub projected : (end : ℕ) → first < n → end < n → Landed (project_segments ps (cumulative_of ps n) p first end)
    unfolding project_segments
    projected end h k = project_landed (end - first) (omega arith)
