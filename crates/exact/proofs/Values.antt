-- What `round` makes of a fraction, and its error; a fraction below 2 ^ 127 does not overflow.
use Rattle.std.specs.Prelude.{◌≡◌, ℕ, ◌*◌, ◌^◌, ◌<◌, Bool, T}
use Rattle.std.proofs.Common.{sym, ◌∙◌, subst, lt_of_lt_of_le, le_of_eq, mul_right_comm, mul-lt-mul_of_pos_right, le_of_mul-le-mul_right, arith, pow_pos}
use Rattle.std.specs.Float.{binary32}
use Rattle.std.specs.Float.Ieee.{round}
use Rattle.std.specs.Float.Ieee.Order.{drop, kept}
use Rattle.std.specs.Float.Ieee.Scale.{grid, finite}
use Rattle.exact.specs.Rounding.{Err}
use Rattle.exact.proofs.Rounding.{round_err, round_err_whole}
use Rattle.exact.specs.Values.{U, finite_of_value, round_value, round_val, Rounded, at_U, no_overflow}

-- any fraction
pub rounded : (s : Bool) (num den : ℕ) → 0 < den → T (finite (round binary32 s num den))
    → Rounded (round binary32 s num den) s (num * U) den (8388608 * den)
rounded s num den D t =
    let x = subst (λ (n : ℕ). Err (grid binary32 num den) den n (8388608 * den)) (at_U num) (round_err (num * 2 ^ 149) den D) in
    record { g = grid binary32 num den; is = round_val s num den t; over = x.over; under = x.under }

-- a whole number w of units
pub rounded_whole : (s : Bool) (num den w : ℕ) → 0 < den → num * U ≡ w * den → T (finite (round binary32 s num den))
    → Rounded (round binary32 s num den) s w 1 0
rounded_whole s num den w D e t =
    let g = grid binary32 num den in
    let x : Err g den (w * den) 0 = subst (λ (n : ℕ). Err (kept 24 n den * 2 ^ drop 24 n den) den (w * den) 0) (sym (at_U num ∙ e))
    (round_err_whole w den D) in
    record {
      g = g;
      is = round_val s num den t;
      over = le_of_mul-le-mul_right {k = den} (omega (arith, x)) D;
      under = le_of_mul-le-mul_right {k = den} (omega (arith, x)) D;
    }

pub round_finite : (s : Bool) (num den : ℕ) → 0 < den → num < 2 ^ 127 * den → T (finite (round binary32 s num den))
round_finite s num den D h =
    let n = num * 2 ^ 149 in
    let l : n < 2 ^ 276 * den = lt_of_lt_of_le (mul-lt-mul_of_pos_right h (pow_pos 149))
    (le_of_eq (mul_right_comm (2 ^ 127) den (2 ^ 149))) in
    finite_of_value (round binary32 s num den) s (grid binary32 num den) U
    (round_value s num den (no_overflow (grid binary32 num den) den n (2 ^ 276) D (pow_pos 276) l (round_err n den D).over))
