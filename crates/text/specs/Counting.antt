-- How many digits numerals have, and the halves of sixteen hexadecimal digits.
use Rattle.std.specs.Prelude.{Bool, false, true, [], ◌++◌, ◌∷◌, refl, ◌≡◌, suc, zero, ℕ, ◌%◌, ◌+◌, ◌/◌, ◌<◌, ◌^◌, ◌≤◌, ltb, length}
use Rattle.std.proofs.Common.{ap, ◌∙◌, add-one, arith, length-append, ltb-false}
use Rattle.std.proofs.Math.Nat.{div-div-eq-div-mul}
use Rattle.text.specs.Numerals.{digits_of, hex_of, digit_count, digit_count_by}

pub length_digits : (k n : ℕ) → length (digits_of k n) ≡ k
unfolding digits_of
length_digits zero n = refl
length_digits (suc k) n = length-append (digits_of k (n / 10)) ((48 + n % 10) ∷ []) ∙ ap (λ (j : ℕ). j + 1) (length_digits k (n / 10)) ∙ add-one k

-- a number below 10 to the j + 1 has at most j + 1 digits
few : (k j n : ℕ) (b : Bool) → ltb n 10 ≡ b → n < 10 ^ suc j → digit_count_by k b n ≤ suc j
unfolding digit_count_by
few zero j n b e h = omega arith
few (suc k) j n true e h = omega arith
few (suc k) zero n false e h = let z = ltb-false n 10 e in absurd (omega arith)
few (suc k) (suc j) n false e h =
    let r = few k j (n / 10) (ltb (n / 10) 10) refl (omega arith) in
    omega arith

pub digit_count_few : (n : ℕ) → n < 18446744073709551616 → digit_count n ≤ 20
unfolding digit_count
digit_count_few n h = few n 19 n (ltb n 10) refl (omega arith)

-- a digit of the lower half is one of the whole
low_digits : (n : ℕ) → (n % 4294967296 / 268435456 % 16 ≡ n / 268435456 % 16)
    × (n % 4294967296 / 16777216 % 16 ≡ n / 16777216 % 16)
    × (n % 4294967296 / 1048576 % 16 ≡ n / 1048576 % 16)
    × (n % 4294967296 / 65536 % 16 ≡ n / 65536 % 16)
    × (n % 4294967296 / 4096 % 16 ≡ n / 4096 % 16)
    × (n % 4294967296 / 256 % 16 ≡ n / 256 % 16)
    × (n % 4294967296 / 16 % 16 ≡ n / 16 % 16)
    × (n % 4294967296 / 1 % 16 ≡ n / 1 % 16)
low_digits n = (omega arith, omega arith, omega arith, omega arith, omega arith, omega arith, omega arith, omega arith)

-- sixteen digits are those of the upper half, then those of the lower
pub hex_halves : (n : ℕ) → hex_of 8 (n / 4294967296) ++ hex_of 8 (n % 4294967296) ≡ hex_of 16 n
unfolding hex_of
hex_halves n =
    let e = low_digits n in
    simp (div-div-eq-div-mul, e.0, e.1, e.2, e.3, e.4, e.5, e.6, e.7)
