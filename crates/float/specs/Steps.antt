-- What the private steps of the functions say. The public contracts do not use them.
use Rattle.std.specs.Prelude.{◌≡◌, ℕ, ◌+◌, ◌*◌, ◌/◌, ◌^◌, ◌<◌, ◌≤◌, false, T, pos, from_bits, Float}
use Rattle.std.specs.Float.{fin, binary32, binary64}
use Rattle.std.specs.Float.Ieee.{lt}
use Rattle.float.specs.Sign.{is_negative}
use Rattle.float.specs.Whole.{num, den}
use Rattle.float.specs.Narrow.{narrow_of}

-- ---- roundings to a whole number
-- a is from 0 up to 2 ^ k, and has no minus
pub record Small (k : ℕ) (a : Float) : Type 0 where
  pub plus : is_negative a ≡ false
  pub below : T (lt a (fin false 1 (pos k)))

pub record WholePart (k : ℕ) (a : Float) (n : ℕ) : Type 0 where
  pub same : n ≡ num a / den a
  pub below : n < 2 ^ k

-- ---- f64 to f32
-- r is the pattern of the f32 nearest to the value of the f64 pattern a, or the infinity's
pub record Narrowed (a r : ℕ) : Type 0 where
  pub most : r ≤ 2139095040
  pub same : from_bits binary32 r ≡ narrow_of (from_bits binary64 a)

-- ---- the root
-- n has 47 or 48 binary digits, so that √n has 24 before the point
pub record Wide (n : ℕ) : Type 0 where
  pub least : 70368744177664 ≤ n
  pub most : n < 281474976710656

-- r is not below the whole part of √n, and how far it is from g
pub record Newton (n g r : ℕ) : Type 0 where
  pub above : n < (r + 1) * (r + 1)
  pub least : g ≤ 2 * r + 1
  pub most : 2 * r ≤ g + n / g

-- r is the whole part of √n
pub record Whole (n r : ℕ) : Type 0 where
  pub below : r * r ≤ n
  pub above : n < (r + 1) * (r + 1)
  pub least : 8388608 ≤ r
  pub most : r < 16777216

-- r is the whole number nearest to √n: r - 1/2 < √n < r + 1/2, with both sides squared
pub record Nearest (n r : ℕ) : Type 0 where
  pub low : r * r < n + r
  pub high : n ≤ r * r + r
  pub least : 8388608 ≤ r
  pub most : r ≤ 16777216

-- m has 24 binary digits, and a is a power that a square of m * 2 ^ a can have
pub record NormalRange (m a : ℕ) : Type 0 where
  pub least : 8388608 ≤ m
  pub most : m < 16777216
  pub from : 126 ≤ a
  pub to : a ≤ 402

-- v is n * 4 ^ k
pub record Square (v n k : ℕ) : Type 0 where
  pub same : n * (2 ^ k * 2 ^ k) ≡ v
  pub wide : Wide n
