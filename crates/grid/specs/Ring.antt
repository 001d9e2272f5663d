-- grid.rs, `Grid::ring`: the cells at Chebyshev distance r from the cell (cx, cy), in the order in which the search visits them; and when
-- the search stops.
-- The Rust counts from cx - r to cx + r in signed numbers and keeps what lies from 0 to cols - 1; here `-` stops at 0. Definitions only.
use Rattle.std.specs.Prelude.{ℕ, zero, suc, ◌+◌, ◌-◌, ◌*◌, ◌<◌, min, Bool, true, false, cond, ◌&&◌, ◌||◌, List, [], ◌∷◌, leb, ltb, eqb, Float}
use Rattle.std.specs.Float.{binary32}
use Rattle.std.specs.Float.Ieee.{mul, le}
use Rattle.grid.specs.declared.Grid.{Grid}
use Rattle.grid.specs.declared.Cell.{Cell}
use Rattle.grid.specs.declared.Run.{Run}
use Rattle.grid.specs.Grid.{of_whole}

-- a in front of xs, where it is in the grid
abbrev pub keep_if : {A : Type 0} → Bool → A → List A → List A
keep_if true a xs = a ∷ xs
keep_if false a xs = xs

-- x, x + 1, .. : k numbers
unfoldable pub count_from : ℕ → ℕ → List ℕ
count_from zero x = []
count_from (suc k) x = let rest = count_from k (suc x) in x ∷ rest

-- c - r ..= c + r, those from 0 up to n - 1
unfoldable pub near_to : ℕ → ℕ → ℕ → List ℕ
unfolding count_from
near_to c r n = count_from (min n (c + r + 1) - (c - r)) (c - r)

-- the two ends of it
unfoldable pub end_columns : ℕ → ℕ → ℕ → List ℕ
end_columns c r n = keep_if (leb r c && ltb (c - r) n) (c - r) (keep_if (ltb (c + r) n) (c + r) [])

-- the first and the last row of a ring, if they are in the grid
abbrev pub is_edge : ℕ → ℕ → ℕ → Bool
is_edge cy r iy = eqb (iy + r) cy || eqb iy (cy + r)

-- an edge row has all its columns, an inner row its two ends
abbrev pub columns_of : ℕ → ℕ → ℕ → ℕ → ℕ → List ℕ
columns_of cx cy r cols iy = cond (is_edge cy r iy) (near_to cx r cols) (end_columns cx r cols)

unfoldable pub row_cells : ℕ → List ℕ → List Cell → List Cell
row_cells iy [] rest = rest
row_cells iy (ix ∷ xs) rest = record { ix = ix; iy = iy } ∷ row_cells iy xs rest

unfoldable pub ring_rows : ℕ → ℕ → ℕ → ℕ → List ℕ → List Cell
unfolding near_to end_columns row_cells
ring_rows cx cy r cols [] = []
ring_rows cx cy r cols (iy ∷ ys) = let rest = ring_rows cx cy r cols ys in row_cells iy (columns_of cx cy r cols iy) rest

unfoldable pub ring_of : ℕ → ℕ → ℕ → ℕ → ℕ → List Cell
unfolding near_to ring_rows
ring_of cols rows cx cy r = ring_rows cx cy r cols (near_to cy r rows)

abbrev pub is_empty : List Cell → Bool
is_empty [] = true
is_empty (c ∷ cs) = false

-- ---- the stop rule

-- what ring r holds is r - 1 whole cells away, or more
abbrev pub ring_floor : Grid → ℕ → Float
ring_floor g r = mul binary32 (of_whole (r - 1)) g.cell

-- d2 is at most the square of it
unfoldable pub reached_at : Grid → ℕ → Float → Bool
reached_at g r d2 = le d2 (mul binary32 (ring_floor g r) (ring_floor g r))

-- ---- the same rows and columns as runs of numbers; `proofs/Runs.antt` proves that they are

-- x, x + step, .. below end; k bounds how many
unfoldable pub steps_from : ℕ → ℕ → ℕ → ℕ → List ℕ
steps_from zero x step end = []
steps_from (suc k) x step end = let rest = steps_from k (x + step) step end in cond (ltb x end) (x ∷ rest) []

abbrev pub steps : ℕ → ℕ → ℕ → List ℕ
steps x step end = steps_from (end - x) x step end

abbrev pub listed : Run → List ℕ
listed w = steps w.first w.step w.end

-- the rows of a ring, and the columns of an edge row
abbrev pub near_run : ℕ → ℕ → ℕ → Run
near_run c r n = record { first = c - r; end = min n (c + r + 1); step = 1 }

-- the columns of an inner row
abbrev pub ends_run : ℕ → ℕ → ℕ → Run
ends_run c r n = record { first = cond (leb r c) (c - r) (c + r); end = min n (c + r + 1); step = 2 * r }

abbrev pub columns_run : ℕ → ℕ → ℕ → ℕ → ℕ → Run
columns_run cx cy r cols iy = cond (is_edge cy r iy) (near_run cx r cols) (ends_run cx r cols)

-- where a ring is asked of: from a cell of the grid
pub record Inside (g : Grid) (cx cy : ℕ) : Type 0 where
  pub col : cx < g.cols
  pub row : cy < g.rows
