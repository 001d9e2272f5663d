-- One rounding, in natural numbers. Of a fraction that is n / den units, `round` keeps a number q of steps of 2 ^ k units (`Kept`): the
-- nearest, and in a tie the even one. In binary32 the error is at most 2 ^ -24 of the fraction, and half a unit; of a fraction that is a
-- whole number of units, without the half unit (`Err`; proofs/Rounding shows it of every fraction).
use Rattle.std.specs.Prelude.{◌≡◌, refl, ◌⊎◌}
use Rattle.std.proofs.Common.{sym, subst, inl, inr, le_trans, le_of_eq, mul-le-mul_right, div-add-mod', mod-lt, mul-pos, le-div_iff_mul-le, arith, pow-add, pow_pos}
use Prim.Native.Nat.{ℕ, zero, suc, ◌+◌, ◌-◌, ◌*◌, ◌/◌, ◌%◌, ◌^◌, ◌≤◌, ◌<◌, compare, Ordering}
use Rattle.std.proofs.Math.Nat.{div-div-eq-div-mul}
use Rattle.std.specs.Float.Ieee.{size, nearest}
use Rattle.std.specs.Float.Ieee.Digits.{size_reaches}
use Rattle.std.specs.Float.Ieee.Fits.{kept-lt, nearest-le}
use Rattle.std.specs.Float.Ieee.Nearest.{closest, nearest-ge}
use Rattle.std.specs.Float.Ieee.Order.{drop, kept}
use Rattle.exact.specs.Naturals.{Cmp, cmp}

-- ---- q is the whole number nearest to n / u: |q * u - n| ≤ u / 2, and in a tie q is even
pub record Near (q u n : ℕ) : Type 0 where
  pub under : n * 2 ≤ q * u * 2 + u
  pub over : q * u * 2 ≤ n * 2 + u
  pub tie_under : n * 2 ≡ q * u * 2 + u → q % 2 ≡ 0
  pub tie_over : q * u * 2 ≡ n * 2 + u → q % 2 ≡ 0

pub near : (w r u n : ℕ) (o : Ordering) → w * u + r ≡ n → r < u → Cmp o (r * 2) u → Near (nearest w o) u n
near w r u n Ordering.lt e h c =
    record { under = omega arith; over = omega arith; tie_under = λ t. absurd (no₁ t); tie_over = λ t. absurd (no₂ t) }
  where
    no₁ : n * 2 ≡ w * u * 2 + u → ⊥
    no₁ t = omega arith

    no₂ : w * u * 2 ≡ n * 2 + u → ⊥
    no₂ t = omega arith
near w r u n Ordering.gt e h c =
    record { under = omega arith; over = omega arith; tie_under = λ t. absurd (no₁ t); tie_over = λ t. absurd (no₂ t) }
  where
    no₁ : n * 2 ≡ suc w * u * 2 + u → ⊥
    no₁ t = omega arith

    no₂ : suc w * u * 2 ≡ n * 2 + u → ⊥
    no₂ t = omega arith
near w r u n Ordering.eq e h c = record { under = bounds.0; over = bounds.1; tie_under = λ t. even w; tie_over = λ t. even w }
  where
    even : (w : ℕ) → (w + w % 2) % 2 ≡ 0
    even w = omega arith

    parity : (w : ℕ) → (w % 2 ≡ 0) ⊎ (w % 2 ≡ 1)
    parity w = go (w % 2) (mod-lt w (omega arith))
      where
        no : (r : ℕ) → suc (suc r) < 2 → ⊥
        no r h = omega arith

        go : (r : ℕ) → r < 2 → (r ≡ 0) ⊎ (r ≡ 1)
        go zero h = inl refl
        go (suc zero) h = inr refl
        go (suc (suc r)) h = absurd (no r h)

    bounds : (n * 2 ≤ (w + w % 2) * u * 2 + u) × ((w + w % 2) * u * 2 ≤ n * 2 + u)
    bounds =
        elim (parity w) [
          | inl z ↦ subst (λ (x : ℕ). (n * 2 ≤ (w + x) * u * 2 + u) × ((w + x) * u * 2 ≤ n * 2 + u)) (sym z) (omega arith, omega arith)
          | inr z ↦ subst (λ (x : ℕ). (n * 2 ≤ (w + x) * u * 2 + u) × ((w + x) * u * 2 ≤ n * 2 + u)) (sym z) (omega arith, omega arith)
        ]

pub closest_near : (n u : ℕ) → 0 < u → Near (closest n u) u n
closest_near n u h = near (n / u) (n % u) u n (compare (n % u * 2) u) (div-add-mod' n u) (mod-lt n h) (cmp (n % u * 2) u)

-- ---- what is kept of n / den, in a format of p digits: where digits are dropped, the fraction is 2 ^ (p - 1) steps or more
pub record Kept (p n den q k : ℕ) : Type 0 where
  pub near : Near q (den * 2 ^ k) n
  pub most : q ≤ 2 ^ p
  pub least : 0 < k → 2 ^ (p - 1) ≤ q
  pub large : 0 < k → 2 ^ (p - 1) * 2 ^ k * den ≤ n

pub kept_is : (p n den : ℕ) → 0 < p → 0 < den → Kept p n den (kept p n den) (drop p n den)
kept_is p n den P D =
    let k = drop p n den in
    let u = den * 2 ^ k in
    let U : 0 < u = mul-pos D (pow_pos k) in
    let large : 0 < k → 2 ^ (p - 1) * 2 ^ k * den ≤ n = λ K. (le-div_iff_mul-le D).0
    (le_trans (le_of_eq (sym (pow-add 2 (p - 1) k))) (size_reaches (n / den) (p - 1 + k) (in_use (size (n / den)) K))) in
    record {
      near = closest_near n u U;
      most = le_trans (nearest-le (n / u) (compare (n % u * 2) u))
          (subst (λ (x : ℕ). x < 2 ^ p) (div-div-eq-div-mul n den (2 ^ k)) (kept-lt p (n / den)));
      least = λ K. le_trans ((le-div_iff_mul-le U).1 (le_trans (le_of_eq (turn (2 ^ (p - 1)) (2 ^ k))) (large K)))
          (nearest-ge (n / u) (compare (n % u * 2) u));
      large = large;
    }
  where
    in_use : (z : ℕ) → 0 < z - p → p - 1 + (z - p) < z
    in_use z h = omega arith

    turn : (h t : ℕ) → h * (den * t) ≡ h * t * den
    turn h t = omega arith

-- ---- the error in binary32: g units are within 2 ^ -24 * (n + slack) / den of n / den
pub record Err (g den n slack : ℕ) : Type 0 where
  pub over : 16777216 * (g * den) ≤ 16777216 * n + n + slack
  pub under : 16777216 * n ≤ 16777216 * (g * den) + n + slack

-- the two cases, as arithmetic: q is the kept number, t = 2 ^ k
pub dropped : (q t den n : ℕ) → Near q (den * t) n → 8388608 * t * den ≤ n → Err (q * t) den n 0
dropped q t den n h k = record { over = omega arith; under = omega arith }

pub none_dropped : (q den n : ℕ) → Near q (den * 1) n → Err (q * 1) den n (8388608 * den)
none_dropped q den n h = record { over = omega arith; under = omega arith }

-- a whole number of units stays: q ≠ w would be an error of a whole den
pub same : (q w den : ℕ) → 0 < den → Near q (den * 1) (w * den) → q ≡ w
same q w den D h = omega (arith, not_less q w (omega arith), not_less w q (omega arith))
  where
    not_less : (q w : ℕ) → w * den * 2 ≤ q * den * 2 + den → ¬ (q < w)
    not_less q w h l = omega (arith, mul-le-mul_right den l)

pub looser : (g den n slack : ℕ) → Err g den n 0 → Err g den n slack
looser g den n slack h = record { over = omega arith; under = omega arith }
