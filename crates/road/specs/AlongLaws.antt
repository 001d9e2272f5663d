-- The steps of `along` and `station_at` give what their definitions say.
use Rattle.std.specs.Prelude.{◌≡◌, refl, Bool, true, false, not, ℕ, ◌+◌, ◌-◌, ◌<◌, T, length, get_or, take, drop, Float}
use Rattle.std.proofs.Math.Path.{sym, ap, ap₂}
use Rattle.std.proofs.Common.{◌∙◌, subst, arith, length-drop, take_all}
use mathlib.Core.List.{List, [], ◌∷◌}
use Rattle.std.proofs.Math.Nat.{min-le_right}
use Rattle.std.specs.Float.{nan}
use Rattle.std.specs.Float.Ieee.{binary32, add, mul, le}
use Rattle.float.specs.Narrow.{narrow_of}
use Rattle.geometry.specs.Polyline.{segment_length, arc_at, cumulative_of}
use Rattle.geometry.specs.PolylineLaws.{cumulative_at}
use Rattle.geometry.specs.Partition.{leading, Rising, Falling, rising_rest, is_true}
use Rattle.geometry.specs.Locate.{segment_of}
use Rattle.geometry.specs.LocateLaws.{segment_inside}
use Rattle.geometry.specs.Order.{le_trans}
use Rattle.road.specs.Along.{Stationed, fraction_at, along_of, short_of, reached_by, part_of, station_on, station_of}

-- ---- the search of `station_at` looks at the ends of the segments: the arc lengths from the second on
pub ends_rise : (cs : List Float) → Rising cs → Rising (drop 1 cs)
ends_rise [] r = r
ends_rise (c ∷ cs) r = rising_rest r

pub ends_are : (cs : List Float) → 0 < length cs → take (length cs - 1) (drop 1 cs) ≡ drop 1 cs
ends_are cs h = take_all (length cs - 1) (drop 1 cs) (simp length-drop (omega arith))

pub short_falling : (arc : Float) → Falling (short_of arc)
short_falling arc x y h k = by (le arc x) refl
  where
    by : (b : Bool) → le arc x ≡ b → not b ≡ true
    by true e = sym (ap not (is_true (le arc y) (le_trans arc x y (subst T (sym e) tt) h))) ∙ k
    by false e = refl

-- ---- the steps of `along` and `station_at`
module _ (ps cs sts : List Float) (lane : Stationed ps cs sts) where
  pub two_stations : 1 < length sts
  two_stations = omega (arith, lane.line.two, lane.each)

  pub station_inside : (s : Float) (i : ℕ) → i ≡ segment_of sts s → i + 1 < length sts
  station_inside s i e = omega (arith, e, segment_inside sts s two_stations)

  pub reached_inside : (arc : Float) (i : ℕ) → i ≡ reached_by cs arc → i + 1 < length cs
  unfolding reached_by
  reached_inside arc i e = omega (arith, e, min-le_right (leading (short_of arc) (drop 1 cs)) (length cs - 2), lane.line.two)

  arc_here : (i : ℕ) → i < length cs → get_or cs i nan ≡ arc_at ps i
  arc_here i h = ap (λ (l : List Float). get_or l i nan) lane.arcs ∙ cumulative_at ps (length cs) i h

  pub along_is : (s : Float) (i : ℕ) (fraction part len : Float) → i < length cs → i ≡ segment_of sts s
      → fraction ≡ fraction_at sts i s → part ≡ narrow_of fraction
      → len ≡ segment_length ps i → add binary32 (get_or cs i nan) (mul binary32 len part) ≡ along_of ps sts s
  unfolding along_of
  along_is s i fraction part len h e f g m =
      ap₂ (add binary32) (arc_here i h) (ap₂ (mul binary32) m (g ∙ ap narrow_of f))
      ∙ ap (λ (j : ℕ). add binary32 (arc_at ps j) (mul binary32 (segment_length ps j) (narrow_of (fraction_at sts j s)))) e

  pub station_is : (arc : Float) (i : ℕ) (len part : Float) → i < length cs → i ≡ reached_by cs arc → len ≡ segment_length ps i
      → part ≡ part_of len (get_or cs i nan) arc
      → station_on sts i part ≡ station_of ps sts arc
  unfolding station_of
  station_is arc i len part h e m g =
      let same : cs ≡ cumulative_of ps (length sts) = lane.arcs ∙ ap (cumulative_of ps) (sym lane.each) in
      let all = g ∙ ap₂ (λ (x y : Float). part_of x y arc) m (arc_here i h) in
      ap (station_on sts i) all
      ∙ ap (λ (j : ℕ). station_on sts j (part_of (segment_length ps j) (arc_at ps j) arc)) (e ∙ ap (λ (l : List Float). reached_by l arc) same)
