-- The rounded square root of n units, in an f32's units of 2 ^ -149. No root is in the middle of two values, so there is no tie.
use Rattle.std.specs.Prelude.{◌≡◌, ℕ, ◌+◌, ◌-◌, ◌*◌, ◌^◌, ◌≤◌, ◌<◌, T, Float}
use Rattle.std.specs.Float.{binary32}
use Rattle.std.specs.Float.Ieee.{fits}
use Rattle.float_laws.specs.Nearest.{Units}

-- √n is nearer to g than to any other number a of units that is an f32: it is past the middle of a and g, (a + g) / 2, on g's side. Both
-- sides are squared.
pub record Closest (n g : ℕ) : Type 0 where
  pub from_lower : (v : Float) (a : ℕ) → T (fits binary32 v) → Units binary32 v a → a < g → (a + g) * (a + g) < 4 * n
  pub from_higher : (v : Float) (a : ℕ) → T (fits binary32 v) → Units binary32 v a → g < a → 4 * n < (a + g) * (a + g)

-- x is r steps of 2 ^ k units, r from 2 ^ 23 to 2 ^ 24, and √n is less than half a step away, (2 * r ± 1) / 2 steps. Both sides are squared.
pub record WithinHalf (n : ℕ) (x : Float) (r k : ℕ) : Type 0 where
  pub is : Units binary32 x (r * 2 ^ k)
  pub held : T (fits binary32 x)
  pub least : 8388608 ≤ r
  pub most : r ≤ 16777216
  pub past_lower : (2 * r - 1) * 2 ^ k * ((2 * r - 1) * 2 ^ k) < 4 * n
  pub below_upper : 4 * n < (2 * r + 1) * 2 ^ k * ((2 * r + 1) * 2 ^ k)
  -- at r = 2 ^ 23 the lower neighbour is half a step away, and the root is not below r itself
  pub not_below : r ≡ 8388608 → r * 2 ^ k * (r * 2 ^ k) ≤ n
