-- Worked values.
use Rattle.std.specs.Prelude.{◌≡◌, refl, ◌*◌, ◌^◌, true, false, pos, negsuc}
use Rattle.std.specs.Float.{inf, fin, binary32, binary64}
use Rattle.std.specs.Float.Ieee.{round, add, lt, eq, of_bits, to_bits}
use Rattle.exact.specs.Integers.{ι, ⊖, sgn}
use Rattle.exact.specs.Patterns.{units_of}
use Rattle.exact.specs.Values.{U, mag, val, size_of}

-- ---- values: 1, -1.5, the smallest value above zero, both zeros
one : val (of_bits binary32 0x3f800000) ≡ ι (2 ^ 149)
unfolding val mag sgn U ι of_bits
one = refl

minus_one_and_a_half : val (of_bits binary32 0xbfc00000) ≡ ⊖ (ι (3 * 2 ^ 148))
unfolding val mag sgn U ι ⊖ of_bits
minus_one_and_a_half = refl

smallest : val (of_bits binary32 1) ≡ ι 1
unfolding val mag sgn U ι of_bits
smallest = refl

zero : val (of_bits binary32 0) ≡ ι 0
unfolding val mag sgn U ι of_bits
zero = refl

minus_zero_law : val (of_bits binary32 0x80000000) ≡ ι 0
unfolding val mag sgn U ι of_bits
minus_zero_law = refl

zeros : (eq (of_bits binary32 0x80000000) (of_bits binary32 0) ≡ true) × (lt (of_bits binary32 0x80000000) (of_bits binary32 0) ≡ false)
unfolding eq lt of_bits
zeros = (refl, refl)

infinite : size_of (inf false) ≡ 2 ^ 128 * U
unfolding size_of U
infinite = refl

-- ---- patterns at the border of the subnormal values, and where the exponent's field goes up by one
largest_subnormal : units_of binary32 0x007fffff ≡ 8388607
unfolding units_of
largest_subnormal = refl

smallest_normal : units_of binary32 0x00800000 ≡ 8388608
unfolding units_of
smallest_normal = refl

end_of_field : (units_of binary32 0x00ffffff ≡ 16777215) × (units_of binary32 0x01000000 ≡ 16777216) × (units_of binary32 0x01000001 ≡ 16777218)
unfolding units_of
end_of_field = (refl, refl, refl)

largest_finite : units_of binary32 0x7f7fffff ≡ 16777215 * 2 ^ 253
unfolding units_of
largest_finite = refl

of_f64 : (units_of binary64 0x000fffffffffffff ≡ 4503599627370495) × (units_of binary64 0x0010000000000000 ≡ 4503599627370496)
unfolding units_of
of_f64 = (refl, refl)

back : to_bits binary32 (fin true 3 (negsuc 0)) ≡ 0xbfc00000
unfolding to_bits
back = refl

-- ---- rounding: 2^24 + 1 is a tie, and goes to the even 2^24; 2^24 + 3 goes to 2^24 + 4
tie_down : round binary32 false 16777217 1 ≡ fin false 1 (pos 24)
unfolding round
tie_down = refl

tie_up : round binary32 false 16777219 1 ≡ fin false 4194305 (pos 2)
unfolding round
tie_up = refl

-- ---- a sum that no longer grows: 2^60 + 2^27 = 2^60
stopped : add binary32 (fin false 1 (pos 60)) (fin false 1 (pos 27)) ≡ fin false 1 (pos 60)
unfolding add
stopped = refl
