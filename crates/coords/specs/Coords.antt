-- coords.rs: a place and a displacement, in the written order of operations. Definitions only.
-- Each `+`, `-`, `*` and `/` of an f32 is IEEE 754's (`lib.Ieee` at binary32), rounded once.
use Rattle.std.specs.Prelude.{Bool, cond, ◌&&◌, Float}
use Rattle.std.specs.Float.{binary32}
use Rattle.std.specs.Float.Ieee.{add, sub, mul, div, lt, of_bits}
use Rattle.float.specs.Root.{sqrt_of}
use Rattle.std.specs.Float.Ieee.Scale.{finite}
use Rattle.coords.specs.declared.Point.{Point}
use Rattle.coords.specs.declared.Vector.{Vector}

abbrev pub zero⁺ : Float
zero⁺ = of_bits binary32 0

abbrev pub one⁺ : Float
one⁺ = of_bits binary32 0x3f800000

-- ---- places

abbrev pub finite_point : Point → Bool
finite_point p = finite p.x && finite p.y && finite p.z

-- p - q
abbrev pub sub_of : Point → Point → Vector
sub_of p q = record { x = sub binary32 p.x q.x; y = sub binary32 p.y q.y; z = sub binary32 p.z q.z }

-- p + v
abbrev pub add_of : Point → Vector → Point
add_of p v = record { x = add binary32 p.x v.x; y = add binary32 p.y v.y; z = add binary32 p.z v.z }

-- ---- displacements

-- u + v
abbrev pub plus_of : Vector → Vector → Vector
plus_of u v = record { x = add binary32 u.x v.x; y = add binary32 u.y v.y; z = add binary32 u.z v.z }

-- u - v
abbrev pub minus_of : Vector → Vector → Vector
minus_of u v = record { x = sub binary32 u.x v.x; y = sub binary32 u.y v.y; z = sub binary32 u.z v.z }

-- v * k
abbrev pub mul_of : Vector → Float → Vector
mul_of v k = record { x = mul binary32 v.x k; y = mul binary32 v.y k; z = mul binary32 v.z k }

abbrev pub zero_vector : Vector
zero_vector = record { x = zero⁺; y = zero⁺; z = zero⁺ }

-- u.x * v.x + u.y * v.y + u.z * v.z
abbrev pub dot_of : Vector → Vector → Float
dot_of u v = add binary32 (add binary32 (mul binary32 u.x v.x) (mul binary32 u.y v.y)) (mul binary32 u.z v.z)

-- right-handed: x cross y is z
unfoldable pub cross_of : Vector → Vector → Vector
cross_of u v = record {
  x = sub binary32 (mul binary32 u.y v.z) (mul binary32 u.z v.y);
  y = sub binary32 (mul binary32 u.z v.x) (mul binary32 u.x v.z);
  z = sub binary32 (mul binary32 u.x v.y) (mul binary32 u.y v.x);
}

abbrev pub length_squared : Vector → Float
length_squared v = dot_of v v

unfoldable pub length_of : Vector → Float
length_of v = sqrt_of (length_squared v)

-- v at unit length; `fallback` where the length is zero or not finite
unfoldable pub normalize_or : Vector → Vector → Vector
normalize_or v fallback =
    let len = length_of v in
    cond (finite len && lt zero⁺ len) (mul_of v (div binary32 one⁺ len)) fallback

-- ---- between two

abbrev pub distance_to : Point → Point → Float
distance_to p q = length_of (sub_of q p)

abbrev pub distance_squared_to : Point → Point → Float
distance_squared_to p q = length_squared (sub_of q p)

-- p + (q - p) * t, with t not clamped
abbrev pub lerp_point : Point → Point → Float → Point
lerp_point p q t = add_of p (mul_of (sub_of q p) t)

abbrev pub lerp_vector : Vector → Vector → Float → Vector
lerp_vector u v t = plus_of u (mul_of (minus_of v u) t)
