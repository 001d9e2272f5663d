-- Worked values of the definitions, by computation.
use Rattle.std.specs.Prelude.{◌≡◌, refl, false, ℕ, Float}
use Rattle.std.specs.Float.{binary32}
use Rattle.std.specs.Float.Ieee.{of_bits, add, sub, mul, div, lt}
use Rattle.float.specs.Root.{sqrt_of}
use Rattle.coords.specs.declared.Point.{Point}
use Rattle.coords.specs.declared.Vector.{Vector}
use Rattle.coords.specs.Coords.{dot_of, cross_of, length_of, normalize_or, distance_to, lerp_point, zero_vector, finite_point}

f : ℕ → Float
f = of_bits binary32

vector : ℕ → ℕ → ℕ → Vector
unfolding f
vector x y z = record { x = f x; y = f y; z = f z }

point : ℕ → ℕ → ℕ → Point
unfolding f
point x y z = record { x = f x; y = f y; z = f z }

-- (3, 4, 0) is 5 long
three_four_five : length_of (vector 0x40400000 0x40800000 0) ≡ f 0x40a00000
unfolding vector length_of sqrt_of of_bits add mul
three_four_five = refl

-- and at unit length it is (0.6, 0.8, 0), each rounded from 3 * (1 / 5) and 4 * (1 / 5)
at_unit_length : normalize_or (vector 0x40400000 0x40800000 0) zero_vector ≡ vector 0x3f19999a 0x3f4ccccd 0
unfolding vector normalize_or length_of sqrt_of of_bits add mul div lt
at_unit_length = refl

-- nothing has no direction, and 2^100 metres have none that f32 can tell: the fallback is given, signs of zeros and all
none_at_zero : normalize_or (vector 0 0x80000000 0) (vector 0x3f800000 0x80000000 0) ≡ vector 0x3f800000 0x80000000 0
unfolding vector normalize_or length_of sqrt_of of_bits add mul div lt
none_at_zero = refl

none_past_the_range : normalize_or (vector 0x71800000 0 0) (vector 0 0x3f800000 0) ≡ vector 0 0x3f800000 0
unfolding vector normalize_or length_of sqrt_of of_bits add mul div lt
none_past_the_range = refl

-- x cross y is z
right_handed : cross_of (vector 0x3f800000 0 0) (vector 0 0x3f800000 0) ≡ vector 0 0 0x3f800000
unfolding vector cross_of of_bits sub mul
right_handed = refl

-- sums go from left to right: 2^24 + 1 + 1 is 2^24
left_to_right : dot_of (vector 0x4b800000 0x3f800000 0x3f800000) (vector 0x3f800000 0x3f800000 0x3f800000) ≡ f 0x4b800000
unfolding vector of_bits add mul
left_to_right = refl

-- from (8, 0, 0) to (16, 0, 0) it is 8 m, and a quarter of the way is (10, 0, 0)
eight_metres : distance_to (point 0x41000000 0 0) (point 0x41800000 0 0) ≡ f 0x41000000
unfolding point length_of sqrt_of of_bits add sub mul
eight_metres = refl

a_quarter : lerp_point (point 0x41000000 0 0) (point 0x41800000 0 0) (f 0x3e800000) ≡ point 0x41200000 0 0
unfolding point of_bits add sub mul
a_quarter = refl

one_infinite : finite_point (point 0 0x7f800000 0) ≡ false
unfolding point of_bits
one_infinite = refl
