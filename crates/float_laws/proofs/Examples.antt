-- The cases of the papers for roots and roundings, and edges, by computation on the definitions.
use mathlib.Core.Path.{◌≡◌, refl}
use mathlib.Core.Bool.{true, false}
use lib.IntN.{pos, negsuc}
use lib.Ieee.{nan, inf, fin, binary32, binary64, of_bits, of_int, to_bits, to_unsigned, to_signed, round, lt, eq, is_nan}
use Rattle.std.specs.declared.cmp.Ordering.TheVariants.{Less}
use Rattle.float.specs.Choose.{min_of, max_of, clamp_of, total_of}
use Rattle.float.specs.Narrow.{narrow_of}
use Rattle.float.specs.Root.{sqrt_of}
use Rattle.float.specs.Sign.{is_negative, signum_of}
use Rattle.float.specs.Whole.{floor_of, ceil_of, round_of}

-- ---- roots: of 2 and 0; the smallest, the infinities, NaN, the largest, the largest subnormal, -0 and -1
root_of_2 : sqrt_of (of_bits binary32 0x40000000) ≡ of_bits binary32 0x3fb504f3
unfolding sqrt_of of_bits
root_of_2 = refl

root_of_0 : sqrt_of (of_bits binary32 0) ≡ of_bits binary32 0
unfolding sqrt_of of_bits
root_of_0 = refl

root_of_smallest : sqrt_of (of_bits binary32 1) ≡ of_bits binary32 0x1a3504f3
unfolding sqrt_of of_bits
root_of_smallest = refl

root_of_infinity : sqrt_of (inf false) ≡ inf false
unfolding sqrt_of
root_of_infinity = refl

root_of_minus_infinity : sqrt_of (inf true) ≡ nan
unfolding sqrt_of
root_of_minus_infinity = refl

root_of_nan : sqrt_of nan ≡ nan
unfolding sqrt_of
root_of_nan = refl

root_of_largest : sqrt_of (of_bits binary32 0x7f7fffff) ≡ of_bits binary32 0x5f7fffff
unfolding sqrt_of of_bits
root_of_largest = refl

root_of_subnormal : sqrt_of (of_bits binary32 0x007fffff) ≡ of_bits binary32 0x1fffffff
unfolding sqrt_of of_bits
root_of_subnormal = refl

root_of_minus_0 : sqrt_of (of_bits binary32 0x80000000) ≡ of_bits binary32 0x80000000
unfolding sqrt_of of_bits
root_of_minus_0 = refl

root_of_minus_1 : sqrt_of (of_bits binary32 0xbf800000) ≡ nan
unfolding sqrt_of of_bits
root_of_minus_1 = refl

-- ---- round: 0.5 gives 1, -0.5 gives -1, the f64 before 0.5 gives 0
half : round_of (of_bits binary64 0x3fe0000000000000) ≡ fin false 1 (pos 0)
unfolding round_of of_bits round
half = refl

minus_half : round_of (of_bits binary64 0xbfe0000000000000) ≡ fin true 1 (pos 0)
unfolding round_of of_bits round
minus_half = refl

under_half : round_of (of_bits binary64 0x3fdfffffffffffff) ≡ fin false 0 (pos 0)
unfolding round_of of_bits round
under_half = refl

-- ---- the floor of -0.5 is -1, its ceiling -0
floor_of_minus_half : floor_of (of_bits binary32 0xbf000000) ≡ fin true 1 (pos 0)
unfolding floor_of of_bits round
floor_of_minus_half = refl

ceil_of_minus_half : ceil_of (of_bits binary32 0xbf000000) ≡ fin true 0 (pos 0)
unfolding ceil_of of_bits round
ceil_of_minus_half = refl

-- ---- to f32: 2 ^ 128 - 2 ^ 103 is an infinity, the f64 before it the largest; 2 ^ -150 is a zero, the f64 after it the smallest
overflows : narrow_of (of_bits binary64 0x47effffff0000000) ≡ inf false
unfolding narrow_of of_bits
overflows = refl

largest : narrow_of (of_bits binary64 0x47efffffefffffff) ≡ of_bits binary32 0x7f7fffff
unfolding narrow_of of_bits
largest = refl

vanishes : narrow_of (of_bits binary64 0x3690000000000000) ≡ fin false 0 (pos 0)
unfolding narrow_of of_bits
vanishes = refl

smallest : narrow_of (of_bits binary64 0x3690000000000001) ≡ of_bits binary32 1
unfolding narrow_of of_bits
smallest = refl

-- ---- whole numbers: 2 ^ 24 + 1 and 2 ^ 24 + 3 are ties; 2 ^ 63 + 2 ^ 39 + 1 would round twice by way of an f64
tie_down : of_int binary32 (pos 16777217) ≡ fin false 1 (pos 24)
unfolding of_int
tie_down = refl

tie_up : of_int binary32 (pos 16777219) ≡ fin false 4194305 (pos 2)
unfolding of_int
tie_up = refl

once : to_bits binary32 (of_int binary32 (pos 9223372586610589697)) ≡ 0x5f000001
unfolding of_int to_bits
once = refl

-- ---- casts saturate
too_large : to_unsigned 64 (of_bits binary32 0x7f7fffff) ≡ 18446744073709551615
unfolding to_unsigned of_bits
too_large = refl

too_low : to_signed 63 (inf true) ≡ negsuc 9223372036854775807
unfolding to_signed
too_low = refl

-- ---- minimum and maximum of two zeros; -0 from 0 to 1; the sign of -0; -0 before 0
least_zero : min_of (fin true 0 (pos 0)) (fin true 0 (pos 0)) ≡ fin false 0 (pos 0)
unfolding lt eq is_nan
least_zero = refl

greatest_zero : max_of (fin true 0 (pos 0)) (fin true 0 (pos 0)) ≡ fin false 0 (pos 0)
unfolding lt eq is_nan
greatest_zero = refl

clamped_zero : clamp_of (fin true 0 (pos 0)) (fin false 0 (pos 0)) (fin false 1 (pos 0)) ≡ fin true 0 (pos 0)
unfolding lt
clamped_zero = refl

sign_of_zero : signum_of (fin true 0 (pos 0)) ≡ fin true 1 (pos 0)
unfolding signum_of
sign_of_zero = refl

zeros_in_order : total_of (fin true 0 (pos 0)) (fin false 0 (pos 0)) ≡ Less
unfolding lt eq is_nan is_negative
zeros_in_order = refl

-- ---- the pattern of the NaN
nan_pattern : to_bits binary32 nan ≡ 0x7fc00000
unfolding to_bits
nan_pattern = refl

nan_pattern64 : to_bits binary64 nan ≡ 0x7ff8000000000000
unfolding to_bits
nan_pattern64 = refl
