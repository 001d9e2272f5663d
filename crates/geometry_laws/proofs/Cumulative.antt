-- The arc lengths of a lane in range: finite, not negative, never falling; its length is a cost of a link, at most 2 ^ 27.
use mathlib.Core.Path.{◌≡◌, refl, sym, subst}
use mathlib.Core.Bool.{false}
use mathlib.Core.List.{List}
use Prim.Native.Nat.{ℕ, zero, suc, ◌+◌, ◌-◌, ◌*◌, ◌^◌, ◌≤◌, ◌<◌}
use native.Mathlib.Nat.{lt_of_le_of_lt, mul-le-mul_right, mul-lt-mul_of_pos_right}
use native.Mathlib.Omega.{arith}
use lib.Dec.{T, lit<}
use lib.IntN.{pos}
use lib.ListN.{length, get_or}
use lib.Ieee.{Float, nan, fin, le, of_bits}
use lib.Ieee.Order.{le_of_values}
use Rattle.exact.specs.Values.{U, U_pos, size_of}
use Rattle.exact.specs.Sums.{UpTo, zero_up_to, Piece, Long, long_link, LinkCost}
use Rattle.exact.proofs.Sums.{long_more, sum_grows}
use Rattle.coords.specs.Coords.{zero⁺}
use Rattle.geometry.specs.Polyline.{point_at, segment_length, arc_at, cumulative_of, arc_length}
use Rattle.geometry.specs.PolylineLaws.{cumulative_at, length_cumulative}
use Rattle.geometry.specs.Partition.{Rising}
use Rattle.geometry_laws.specs.Range.{PointIn, Coordinates}
use Rattle.geometry_laws.proofs.Lengths.{distance}

pub zero_is : zero⁺ ≡ fin false 0 (pos 0)
unfolding of_bits
zero_is = refl

ordered : {a b : ℕ} {x y : Float} → UpTo a x → UpTo b y → size_of x ≤ size_of y → T (le x y)
ordered {a} {b} {x} {y} p q h = le_of_values x y (size_of x) U (size_of y) U U_pos U_pos p.value q.value (mul-le-mul_right U h)

module _ (ps : List Float) (in_range_law : Coordinates ps) where
  -- point i
  pub point_in_range : (i : ℕ) → 3 * i + 2 < length ps → PointIn (point_at ps i)
  unfolding point_at
  point_in_range i h =
      record {
        x = in_range_law.each (3 * i) (omega arith);
        y = in_range_law.each (3 * i + 1) (omega arith);
        z = in_range_law.each
            (3 * i + 2) (omega arith);
      }

  pub segment_piece : (i : ℕ) → 3 * i + 5 < length ps → Piece (segment_length ps i)
  segment_piece i h = distance (point_at ps (i + 1)) (point_at ps i) (point_in_range (i + 1) (omega arith)) (point_in_range i (omega arith))

  -- the arc length at point k is at most k pieces'
  pub arc_long : (k : ℕ) → k ≤ 8192 → 3 * k + 2 < length ps → Long k (arc_at ps k)
  unfolding arc_at
  arc_long zero l h = subst (UpTo (0 * (2 ^ 14 * U))) (sym zero_is) (zero_up_to (0 * (2 ^ 14 * U)))
  arc_long (suc k) l h = long_more k (arc_at ps k) (segment_length ps k) l (arc_long k (omega arith) (omega arith))
      (segment_piece k (omega arith))

  -- and no less than the one before
  pub arc_rises : (k : ℕ) → k < 8192 → 3 * k + 5 < length ps → T (le (arc_at ps k) (arc_at ps (suc k)))
  unfolding arc_at
  arc_rises k l h =
      let P = 2 ^ 14 * U in
      let this = arc_long k (omega arith) (omega arith) in
      let next = arc_long (suc k) l (omega arith) in
      let all : k * P + P ≤ 2 ^ 27 * U = omega (arith, mul-le-mul_right P l) in
      let few : k * P + P < 2 ^ 127 * U = lt_of_le_of_lt all (mul-lt-mul_of_pos_right (lit< tt) U_pos) in
      ordered this next (sum_grows (k * P) P (arc_at ps k) (segment_length ps k) this (segment_piece k h) few)

  module _ (n : ℕ) (few : n ≤ 8192) (inside : 3 * n ≤ length ps) where
    pub cumulative_rises : Rising (cumulative_of ps n)
    cumulative_rises = record { step = step }
      where
        step : (i : ℕ) → suc i < length (cumulative_of ps n) → T (le (get_or (cumulative_of ps n) i nan) (get_or (cumulative_of ps n) (suc i) nan))
        step i h =
            let long = length_cumulative ps n in
            rw (cumulative_at ps n i (omega arith), cumulative_at ps n (suc i) (omega arith)) (arc_rises i (omega arith) (omega arith))

    pub length_cost : 0 < n → LinkCost (arc_length (cumulative_of ps n))
    length_cost h =
        let long = length_cumulative ps n in
        let last : length (cumulative_of ps n) - 1 < n = omega arith in
        subst LinkCost (sym (cumulative_at ps n (length (cumulative_of ps n) - 1) last))
        (long_link (length (cumulative_of ps n) - 1) (arc_at ps (length (cumulative_of ps n) - 1)) (omega arith)
        (arc_long (length (cumulative_of ps n) - 1) (omega arith) (omega arith)))
