-- What `left_of` and `right_of` need of the plan's tables; crate `rows` says how their rows are read. Definitions only.
use Rattle.std.specs.Prelude.{List, ℕ, ◌+◌, ◌*◌, ◌<◌, ◌≤◌, length, Float}
use Rattle.rows.specs.Rows.{placed_lane, placed_section}

-- what an accepted plan of n lanes and m places gives: its rows stand in the tables, and a place has its lane and its section
pub record Seated (lanes : List ℕ) (n : ℕ) (fans places : List ℕ) (m : ℕ) (bounds : List Float) : Type 0 where
  pub lane_rows_law : 6 * n ≤ length lanes
  pub lane_limit : n ≤ 256
  pub fan_rows : 5 * n ≤ length fans
  pub place_rows : 3 * m ≤ length places
  pub place_limit : m ≤ 256
  pub place_lane_law : (p : ℕ) → p < m → placed_lane places p < n
  pub place_section_law : (p : ℕ) → p < m → 2 * placed_section places p + 1 < length bounds
