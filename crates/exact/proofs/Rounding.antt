-- The error of one rounding (specs/Rounding), of every fraction.
use Rattle.std.proofs.Common.{sym, subst, arith}
use Prim.Native.Nat.{ℕ, zero, suc, ◌*◌, ◌^◌, ◌≤◌, ◌<◌}
use Rattle.std.specs.Float.Ieee.Order.{drop, kept}
use Rattle.exact.specs.Rounding.{Near, kept_is, Err, dropped, none_dropped, same, looser}

pub round_err : (n den : ℕ) → 0 < den → Err (kept 24 n den * 2 ^ drop 24 n den) den n (8388608 * den)
round_err n den D = let x = kept_is 24 n den (omega arith) D in go (kept 24 n den) (drop 24 n den) x.near x.large
  where
    go : (q k : ℕ) → Near q (den * 2 ^ k) n → (0 < k → 8388608 * 2 ^ k * den ≤ n) → Err (q * 2 ^ k) den n (8388608 * den)
    go q zero h b = none_dropped q den n h
    go q (suc k) h b = looser (q * 2 ^ suc k) den n (8388608 * den) (dropped q (2 ^ suc k) den n h (b (omega arith)))

-- n = w * den
pub round_err_whole : (w den : ℕ) → 0 < den → Err (kept 24 (w * den) den * 2 ^ drop 24 (w * den) den) den (w * den) 0
round_err_whole w den D =
    let x = kept_is 24 (w * den) den (omega arith) D in go (kept 24 (w * den) den) (drop 24 (w * den) den) x.near x.large
  where
    whole : Err (w * 1) den (w * den) 0
    whole = record { over = omega arith; under = omega arith }

    go : (q k : ℕ) → Near q (den * 2 ^ k) (w * den) → (0 < k → 8388608 * 2 ^ k * den ≤ w * den) → Err (q * 2 ^ k) den (w * den) 0
    go q zero h b = subst (λ (x : ℕ). Err (x * 1) den (w * den) 0) (sym (same q w den D h)) whole
    go q (suc k) h b = dropped q (2 ^ suc k) den (w * den) h (b (omega arith))
