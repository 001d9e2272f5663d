-- Worked cases of numerals and lines. Document 01's printed case stands in `replies`, from the file's bytes on.
use Rattle.std.specs.Prelude.{[], ◌++◌, ◌∷◌, refl, ◌≡◌, ℕ, Float}
use Rattle.std.specs.Float.{binary32, binary64, nan}
use Rattle.std.specs.Float.Ieee.{of_bits, to_bits}
use Rattle.text.specs.Bytes.{bytes}
use Rattle.text.specs.Lines.{advance_line, advance_text, at_line, double_field, end_line, newline, number_field, position_line, position_lines}
use Rattle.text.specs.Numerals.{decimal_of, digit_count, digit_count_by, digits_of, double_of, hex_of, single_of}

-- ---- numerals

decimal_cases : decimal_of 0 ++ decimal_of 9 ++ decimal_of 10 ++ decimal_of 65535 ≡ bytes "091065535"
unfolding decimal_of digits_of digit_count digit_count_by bytes
decimal_cases = refl

single_twelve : single_of (of_bits binary32 0x41400000) ≡ bytes "41400000"
unfolding single_of hex_of to_bits of_bits bytes
single_twelve = refl

single_nan : single_of nan ≡ bytes "7FC00000"
unfolding single_of hex_of to_bits bytes
single_nan = refl

double_nan : double_of nan ≡ bytes "7FF8000000000000"
unfolding double_of hex_of to_bits bytes
double_nan = refl

-- -0 keeps its sign
double_minus_zero : double_of (of_bits binary64 0x8000000000000000) ≡ bytes "8000000000000000"
unfolding double_of hex_of to_bits of_bits bytes
double_minus_zero = refl

-- ---- lines

abbrev double : ℕ → Float
double n = of_bits binary64 n

-- a position reached, with an offset that is a NaN, and a dead end 6 m short
two_positions :
    advance_text 0 1 2 (0 ∷ 2 ∷ 1 ∷ 300 ∷ [])
    (double 0x4021000000000000 ∷ nan ∷ double 0 ∷ double 0x4030000000000000 ∷ double 0x8000000000000000 ∷ double 0x4018000000000000 ∷ [])
    ≡ bytes "advance 0 1 2\n"
    ++ bytes "at 2 4021000000000000 7FF8000000000000\n"
    ++ bytes "end 300 4030000000000000 8000000000000000 4018000000000000\n"
unfolding bytes advance_text advance_line position_lines position_line at_line end_line newline number_field double_field decimal_of digits_of
    digit_count digit_count_by double_of hex_of to_bits of_bits
two_positions = refl
