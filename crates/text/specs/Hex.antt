-- Hexadecimal digits, from the first to the last.
use Rattle.std.specs.Prelude.{◌∷◌, refl, ◌≡◌, suc, zero, ℕ, ◌%◌, ◌*◌, ◌-◌, ◌/◌, ◌<◌, ◌^◌, length}
use Rattle.std.proofs.Common.{ap, arith}
use Rattle.std.proofs.Math.Nat.{pow-suc}
use Rattle.text.specs.Numerals.{hex_digit, hex_of}

pub length_hex : (k n : ℕ) → length (hex_of k n) ≡ k
unfolding hex_of
length_hex zero n = refl
length_hex (suc k) n = ap (λ (j : ℕ). suc j) (length_hex k n)

sixteens : (i : ℕ) → 16 ^ i ≡ 2 ^ (4 * i)
sixteens zero = refl
sixteens (suc i) =
    let e : 4 * suc i ≡ suc (suc (suc (suc (4 * i)))) = omega arith in
    let r = sixteens i in
    rw e (simp pow-suc (omega arith))

-- one digit more
pub hex_more : (n i : ℕ) → 0 < i → hex_of i n ≡ hex_digit (n / 2 ^ (4 * (i - 1)) % 16) ∷ hex_of (i - 1) n
unfolding hex_of
hex_more n zero h = absurd (omega arith)
hex_more n (suc i) h = let e : suc i - 1 ≡ i = omega arith in rw (e, sixteens i)
