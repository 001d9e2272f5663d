-- The whole numbers that a finite x goes to. |x| is num x / den x, and r is n with the sign of x, a zero's too.
use Rattle.std.specs.Prelude.{◌≡◌, true, false, ℕ, ◌+◌, ◌*◌, ◌≤◌, ◌<◌, Float}
use Rattle.std.specs.Float.Ieee.Exact.{HasValue}
use Rattle.float.specs.Sign.{is_negative}
use Rattle.float.specs.Whole.{num, den}

-- n ≤ a / c < n + 1
pub record Down (a c n : ℕ) : Type 0 where
  pub low : n * c ≤ a
  pub high : a < (n + 1) * c

-- a / c ≤ n < a / c + 1
pub record Up (a c n : ℕ) : Type 0 where
  pub low : a ≤ n * c
  pub high : n * c < a + c

-- n ≤ a / c + 1/2 < n + 1
pub record Half (a c n : ℕ) : Type 0 where
  pub low : 2 * n * c ≤ 2 * a + c
  pub high : 2 * a < 2 * n * c + c

-- r ≤ x < r + 1
pub record Floor (x r : Float) : Type 0 where
  pub n : ℕ
  pub is : HasValue r (is_negative x) n 1
  pub plus : is_negative x ≡ false → Down (num x) (den x) n
  pub minus : is_negative x ≡ true → Up (num x) (den x) n

-- x ≤ r < x + 1
pub record Ceil (x r : Float) : Type 0 where
  pub n : ℕ
  pub is : HasValue r (is_negative x) n 1
  pub plus : is_negative x ≡ false → Up (num x) (den x) n
  pub minus : is_negative x ≡ true → Down (num x) (den x) n

-- the nearest whole number, and of two the one farther from zero: |r| ≤ |x| + 1/2 < |r| + 1
pub record Round (x r : Float) : Type 0 where
  pub n : ℕ
  pub is : HasValue r (is_negative x) n 1
  pub near : Half (num x) (den x) n
