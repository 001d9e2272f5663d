-- Numbers as text: decimal without leading zeros; the bits of a float in capital hexadecimal digits. Definitions only.
use Rattle.std.specs.Prelude.{Bool, cond, false, true, List, [], ◌++◌, ◌∷◌, suc, zero, ℕ, ◌%◌, ◌+◌, ◌/◌, ◌^◌, ltb, Float}
use Rattle.std.specs.Float.{binary32, binary64}
use Rattle.std.specs.Float.Ieee.{to_bits}

-- ---- decimal

-- the last k decimal digits of n
unfoldable pub digits_of : ℕ → ℕ → List ℕ
digits_of zero n = []
digits_of (suc k) n = digits_of k (n / 10) ++ ((48 + n % 10) ∷ [])

-- how many digits n has, counted at most so far; the Bool says whether n is below ten
unfoldable pub digit_count_by : ℕ → Bool → ℕ → ℕ
digit_count_by zero small n = 1
digit_count_by (suc k) true n = 1
digit_count_by (suc k) false n = 1 + digit_count_by k (ltb (n / 10) 10) (n / 10)

unfoldable pub digit_count : ℕ → ℕ
digit_count n = digit_count_by n (ltb n 10) n

unfoldable pub decimal_of : ℕ → List ℕ
decimal_of n = digits_of (digit_count n) n

-- ---- hexadecimal

abbrev pub hex_digit : ℕ → ℕ
hex_digit d = cond (ltb d 10) (48 + d) (55 + d)

-- the last k hexadecimal digits of n
unfoldable pub hex_of : ℕ → ℕ → List ℕ
hex_of zero n = []
hex_of (suc k) n = hex_digit (n / 16 ^ k % 16) ∷ hex_of k n

-- the bits of a float; `to_bits` gives a NaN as 7FC00000 and 7FF8000000000000
unfoldable pub single_of : Float → List ℕ
single_of x = hex_of 8 (to_bits binary32 x)

unfoldable pub double_of : Float → List ℕ
double_of x = hex_of 16 (to_bits binary64 x)
