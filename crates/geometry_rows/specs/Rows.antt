-- The polylines of all lanes in the lent tables: the arc lengths and the tangents of each lane's points, lane after lane.
-- Definitions only.
use Rattle.std.specs.Prelude.{◌≡◌, cond, Option, None, Some, List, [], ◌++◌, ℕ, zero, suc, ◌+◌, ◌*◌, ◌≤◌, ◌<◌, eqb, length, get_or, Float}
use Rattle.geometry.specs.declared.Ends.{Ends}
use Rattle.geometry.specs.Over.{placed}
use Rattle.geometry.specs.Polyline.{vector_at, cumulative_of, tangents_of}
use Rattle.rows.specs.Rows.{first_point, part, point_count, points_of}

-- a table with the arc lengths, or the tangents, of the lane that has `count` points from `first` on
abbrev pub with_cumulative : List Float → ℕ → ℕ → List Float → List Float
with_cumulative points first count old = placed first (cumulative_of (part points (3 * first) (3 * (first + count))) count) old

abbrev pub with_tangents : List Float → ℕ → ℕ → Option Ends → List Float → List Float
with_tangents points first count ends old = placed (3 * first) (tangents_of (part points (3 * first) (3 * (first + count))) count ends) old

-- the tangents at the ends of lane i, where it gives them: row i of `ends`
unfoldable pub lane_ends : List ℕ → List Float → ℕ → Option Ends
lane_ends lanes ends i =
    cond (eqb (get_or lanes (6 * i + 3) 0) 0) None (Some (record { start = vector_at ends (2 * i); end = vector_at ends (2 * i + 1) }))

-- the arc lengths, and the tangents, of the lanes 0 .. k - 1
unfoldable pub cumulative_rows : List ℕ → List Float → ℕ → List Float
cumulative_rows lanes points zero = []
cumulative_rows lanes points (suc k) = cumulative_rows lanes points k ++ cumulative_of (points_of lanes points k) (point_count lanes k)

unfoldable pub tangent_rows : List ℕ → List Float → List Float → ℕ → List Float
tangent_rows lanes points ends zero = []
tangent_rows lanes points ends (suc k) = tangent_rows lanes points ends k ++ tangents_of (points_of lanes points k) (point_count lanes k)
    (lane_ends lanes ends k)

-- how many points the lanes 0 .. k - 1 have
unfoldable pub points_before : List ℕ → ℕ → ℕ
points_before lanes zero = 0
points_before lanes (suc k) = points_before lanes k + point_count lanes k

-- the rows of n lanes, whose points stand one after the other from the first on
pub record Rows (lanes : List ℕ) (n : ℕ) (points : List Float) : Type 0 where
  pub held : 6 * n ≤ length lanes
  pub firsts : (i : ℕ) → i < n → first_point lanes i ≡ points_before lanes i
  pub some : (i : ℕ) → i < n → 0 < point_count lanes i
  pub room : 3 * points_before lanes n ≤ length points

-- the tables of end tangents and of tangents have a row for each of n lanes, and room for each of their points
pub record TangentRoom (lanes : List ℕ) (n : ℕ) (ends tangents : List Float) : Type 0 where
  pub held : 6 * n ≤ length ends
  pub room : 3 * points_before lanes n ≤ length tangents
