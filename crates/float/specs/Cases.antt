-- Worked values: of the root and of rounding, and the signs of zeros.
use Rattle.std.specs.Prelude.{◌≡◌, refl, ℕ, Float, false}
use Rattle.std.specs.Float.{binary32, binary64, inf, nan}
use Rattle.std.specs.Float.Ieee.{eq, is_nan, lt, of_bits}
use Rattle.float.specs.Choose.{clamp_of, max_of, min_of, total_of}
use Rattle.float.specs.Narrow.{narrow_of}
use Rattle.float.specs.Root.{sqrt_of}
use Rattle.float.specs.Sign.{abs_of, is_negative, signum_of}
use Rattle.float.specs.Whole.{ceil_of, floor_of, round_of}
use Rattle.std.specs.declared.cmp.Ordering.TheVariants.{Greater, Less}

abbrev f : ℕ → Float
f n = of_bits binary32 n

abbrev d : ℕ → Float
d n = of_bits binary64 n

-- +0, -0, 1 and -1
abbrev o : Float
o = f 0

abbrev minus : Float
minus = f 0x80000000

abbrev one : Float
one = f 0x3f800000

abbrev minus_one : Float
minus_one = f 0xbf800000

-- the root of 2 has the bits 3FB504F3, that of 0 is 0; of 5, which is rounded up as that of 2 is down; of -0: -0; of -1: none
roots :
    (sqrt_of (f 0x40000000) ≡ f 0x3fb504f3)
    × (sqrt_of o ≡ o)
    × (sqrt_of (f 0x40a00000) ≡ f 0x400f1bbd)
    × (sqrt_of minus ≡ minus)
    × (sqrt_of minus_one ≡ nan)
unfolding sqrt_of of_bits
roots = (refl, refl, refl, refl, refl)

-- f64 rounding: 0.5 gives 1, -0.5 gives -1; the next f64 below 0.5 gives 0, 2.5 gives 3
rounds :
    (round_of (d 0x3fe0000000000000) ≡ d 0x3ff0000000000000)
    × (round_of (d 0xbfe0000000000000) ≡ d 0xbff0000000000000)
    × (round_of (d 0x3fdfffffffffffff) ≡ d 0)
    × (round_of (d 0x4004000000000000) ≡ d 0x4008000000000000)
unfolding round_of of_bits
rounds = (refl, refl, refl, refl)

-- of 0.5 and of -0.5: down to 0 and -1, up to 1 and -0
wholes :
    (floor_of (f 0x3f000000) ≡ o) × (floor_of (f 0xbf000000) ≡ minus_one) × (ceil_of (f 0x3f000000) ≡ one) × (ceil_of (f 0xbf000000) ≡ minus)
unfolding floor_of ceil_of of_bits
wholes = (refl, refl, refl, refl)

-- where Rust leaves the sign of a zero open, as for the minimum or maximum of two zeros, it is plus
zeros :
    (min_of o minus ≡ o) × (min_of minus o ≡ o) × (min_of minus minus ≡ o) × (max_of o minus ≡ o) × (max_of minus o ≡ o) × (max_of minus minus ≡ o)
unfolding lt eq is_nan of_bits
zeros = (refl, refl, refl, refl, refl, refl)

-- the number where one is a NaN
numbers : (min_of nan one ≡ one) × (min_of one nan ≡ one) × (max_of nan one ≡ one) × (max_of one nan ≡ one)
unfolding lt is_nan of_bits
numbers = (refl, refl, refl, refl)

-- -0 clamped to 0..1 stays -0; a NaN stays one
clamped : (clamp_of minus o one ≡ minus) × (clamp_of minus_one o one ≡ o) × (clamp_of (f 0x40000000) o one ≡ one) × (clamp_of nan o one ≡ nan)
unfolding lt of_bits
clamped = (refl, refl, refl, refl)

-- a zero has a sign for `signum`, none for `abs`, and -0 is below +0 in the total order, as an infinity is below a NaN
signs : (signum_of minus ≡ minus_one) × (signum_of o ≡ one) × (abs_of minus ≡ o) × (total_of minus o ≡ Less) × (total_of nan (inf false) ≡ Greater)
unfolding signum_of abs_of is_negative lt eq is_nan of_bits
signs = (refl, refl, refl, refl, refl)

-- f64 to f32: midway between 1 and the next f32 to the even one, the next f64 above up
narrowed : (narrow_of (d 0x3ff0000010000000) ≡ one) × (narrow_of (d 0x3ff0000010000001) ≡ f 0x3f800001)
unfolding narrow_of of_bits
narrowed = (refl, refl)
