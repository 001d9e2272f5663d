-- Coordinates: finite f32 of size up to 4,096, which is what the range of document 01 says (`coord_of`), and their differences.
use Prim.Native.Nat.{◌*◌, ◌^◌}
use mathlib.Core.Bool.{not}
use native.Mathlib.Omega.{arith}
use lib.Dec.{T, lit<}
use lib.Ieee.{Float, nan, inf, fin, binary32, sub, fits, of_bits, is_nan}
use Rattle.exact.specs.Integers.{Z, ◌≈◌, ◌⊟◌, ⊖, ι, sgn}
use Rattle.exact.specs.Inequalities.{Within}
use Rattle.exact.specs.Values.{U, mag, val, F32}
use Rattle.exact.specs.Steps.{SumStep}
use Rattle.exact.proofs.Steps.{sub_step}
use Rattle.coords.specs.declared.Point.{Point}
use Rattle.coords.specs.Coords.{zero⁺, one⁺}
use Rattle.geometry_laws.specs.Range.{InRange, PointIn, Sized, PointSized}
use Rattle.geometry_laws.proofs.Lengths.{in_range_ok, in_range_size}

-- a finite f32 of size up to 4,096
abbrev pub Coord : Float → Type 0
Coord x = Sized (4096 * U) x

abbrev pub Coords : Point → Type 0
Coords p = PointSized (4096 * U) p

-- what is computed from coordinates: up to 16,384
abbrev pub Wide : Float → Type 0
Wide x = Sized (2 ^ 14 * U) x

abbrev pub Wides : Point → Type 0
Wides p = PointSized (2 ^ 14 * U) p

wide : (x : Float) → Coord x → Wide x
wide x c = record { good = c.good; size = go (val x) c.size }
  where
    go : (a : Z) → Within a (ι (4096 * U)) → Within a (ι (2 ^ 14 * U))
    go a h = unfold ι ⊖ in omega arith

pub wides : (p : Point) → Coords p → Wides p
wides p c = record { x = wide p.x c.x; y = wide p.y c.y; z = wide p.z c.z }

-- ---- differences
pub diff_size : (a b : Z) → Within a (ι (4096 * U)) → Within b (ι (4096 * U)) → Within (a ⊟ b) (ι (2 ^ 13 * U))
unfolding ι ⊖ ◌⊟◌
diff_size a b h k = omega arith

pub diff : (x y : Float) → Coord x → Coord y → SumStep (sub binary32 x y) 13 (val x ⊟ val y)
diff x y p q = sub_step x y 13 p.good q.good (lit< tt) (diff_size (val x) (val y) p.size q.size)

pub not_nan : (x : Float) → F32 x → T (not (is_nan x))
unfolding is_nan
not_nan nan p = absurd p.real
not_nan (inf s) p = absurd p.real
not_nan (fin s m e) p = tt

-- ---- 0 and 1
pub zero_ok : F32 zero⁺
unfolding fits of_bits
zero_ok = record { fit = tt; real = tt }

pub zero_val : val zero⁺ ≈ ι 0
unfolding val sgn mag ι of_bits
zero_val = omega arith

pub one_ok : F32 one⁺
unfolding fits of_bits
one_ok = record { fit = tt; real = tt }

pub one_val : val one⁺ ≈ ι U
unfolding val sgn mag ι of_bits
one_val = omega arith

pub zero_coord : Coord zero⁺
zero_coord = record { good = zero_ok; size = go (val zero⁺) zero_val }
  where
    go : (a : Z) → a ≈ ι 0 → Within a (ι (4096 * U))
    go a h = unfold ι ⊖ in omega arith

-- ---- the range
coord_of : (x : Float) → InRange x → Coord x
coord_of x r = record { good = in_range_ok x r; size = in_range_size x r }

pub coords_of : (p : Point) → PointIn p → Coords p
coords_of p r = record { x = coord_of p.x r.x; y = coord_of p.y r.y; z = coord_of p.z r.z }
