-- Rust's `as` to an integer: toward zero, and no farther than the range goes.
use Rattle.std.specs.Prelude.{ℕ, ◌+◌, ◌*◌, ◌≤◌, ◌<◌}

-- n is the whole part of a / c, or where that is above `most`, n is `most`
pub record Saturated (most a c n : ℕ) : Type 0 where
  pub within : n ≤ most
  pub low : n * c ≤ a
  pub high : n < most → a < (n + 1) * c
