-- Nearest in a format, and of two values as near the one with an even last digit (IEEE 754-2019, 4.3.1). A unit is the format's smallest
-- value, 2 ^ -low: every finite value is a whole number of units.
use Rattle.std.specs.Prelude.{◌≡◌, false, ℕ, ◌+◌, ◌-◌, ◌*◌, ◌%◌, ◌^◌, ◌≤◌, ◌<◌, T, Float}
use Rattle.std.specs.Float.{Format}
use Rattle.std.specs.Float.Ieee.{prec, low, ones, fits, to_bits}
use Rattle.std.specs.Float.Ieee.Exact.{HasValue}

-- v is n units
abbrev pub Units : Format → Float → ℕ → Type 0
Units f v n = HasValue v false n (2 ^ low f)

-- r, which is g units, is nearest to num / den: every other value of the format, of a units, is at least as far, since num / den is on r's
-- side of their middle, (a + g) / 2 units, or in it.
-- In the middle the pattern of r is even.
pub record Nearest (f : Format) (num den : ℕ) (r : Float) (g : ℕ) : Type 0 where
  pub is : Units f r g
  pub held : T (fits f r)
  pub from_lower : (v : Float) (a : ℕ) → T (fits f v) → Units f v a → a < g → (a + g) * den ≤ 2 * (num * 2 ^ low f)
  pub from_higher : (v : Float) (a : ℕ) → T (fits f v) → Units f v a → g < a → 2 * (num * 2 ^ low f) ≤ (a + g) * den
  pub tie_lower : (v : Float) (a : ℕ) → T (fits f v) → Units f v a → a < g → (a + g) * den ≡ 2 * (num * 2 ^ low f) → to_bits f r % 2 ≡ 0
  pub tie_higher : (v : Float) (a : ℕ) → T (fits f v) → Units f v a → g < a → 2 * (num * 2 ^ low f) ≡ (a + g) * den → to_bits f r % 2 ≡ 0

-- the middle of the largest value and the next power of two, in half units: from there on a number overflows
abbrev pub reach : Format → ℕ
reach f = (2 * 2 ^ prec f - 1) * 2 ^ (ones f - 2)

-- num / den is below it
abbrev pub InReach : Format → ℕ → ℕ → Type 0
InReach f num den = 2 * (num * 2 ^ low f) < reach f * den
