-- grid.rs: boxes, and the dimensions of the uniform grid over them. Definitions only.
-- Each `+`, `-`, `*` and `/` of an f32 is IEEE 754's (`lib.Ieee` at binary32), rounded once.
use Rattle.std.specs.Prelude.{ℕ, ◌-◌, ◌<◌, ◌≤◌, min, max, cond, ◌||◌, List, [], ◌∷◌, pos, Float}
use Rattle.std.specs.Float.{binary32}
use Rattle.std.specs.Float.Ieee.{add, sub, mul, div, lt, is_nan, of_bits, of_int, to_unsigned}
use Rattle.float.specs.Root.{sqrt_of}
use Rattle.float.specs.Choose.{max_of, min_of}
use Rattle.float.specs.Whole.{ceil_of, floor_of}
use Rattle.coords.specs.Coords.{zero⁺, one⁺}
use Rattle.grid.specs.declared.Aabb.{Aabb}
use Rattle.grid.specs.declared.Grid.{Grid}

-- 2, 1024 and 1e-3 as f32
abbrev pub two : Float
two = of_bits binary32 0x40000000

abbrev pub max_dim : Float
max_dim = of_bits binary32 0x44800000

abbrev pub milli : Float
milli = of_bits binary32 0x3a83126f

-- a `usize` as f32
abbrev pub of_whole : ℕ → Float
of_whole n = of_int binary32 (pos n)

-- ---- boxes

abbrev pub box_at : Float → Float → Aabb
box_at x y = record { min_x = x; max_x = x; min_y = y; max_y = y }

unfoldable pub grown : Aabb → Float → Float → Aabb
grown b x y =
    record { min_x = min_of b.min_x x; max_x = max_of b.max_x x; min_y = min_of b.min_y y; max_y = max_of b.max_y y }

abbrev pub padded : Float → Aabb → Aabb
padded r b = record {
  min_x = sub binary32 b.min_x r;
  max_x = add binary32 b.max_x r;
  min_y = sub binary32 b.min_y r;
  max_y = add binary32 b.max_y r;
}

unfoldable pub merge : Aabb → Aabb → Aabb
merge b c = record {
  min_x = min_of b.min_x c.min_x;
  max_x = max_of b.max_x c.max_x;
  min_y = min_of b.min_y c.min_y;
  max_y = max_of b.max_y c.max_y;
}

-- `reduce(Aabb::merge)` of b and the boxes after it
unfoldable pub extent_of : Aabb → List Aabb → Aabb
unfolding merge
extent_of b [] = b
extent_of b (c ∷ cs) = extent_of (merge b c) cs

-- how far v is outside of low .. high
unfoldable pub outside : Float → Float → Float → Float
outside low high v = max_of (max_of (sub binary32 low v) zero⁺) (sub binary32 v high)

unfoldable pub dist2 : Aabb → Float → Float → Float
unfolding outside
dist2 b x y =
    let dx = outside b.min_x b.max_x x in
    let dy = outside b.min_y b.max_y y in
    add binary32 (mul binary32 dx dx) (mul binary32 dy dy)

-- ---- dimensions

-- `(cells.ceil() as usize).clamp(1, MAX_DIM)`
unfoldable pub side : Float → ℕ
unfolding ceil_of
side cells = max 1 (min (to_unsigned 64 (ceil_of cells)) 1024)

-- the first cell size, of the wished number of cells
unfoldable pub first_cell : Float → Float → ℕ → Float
unfolding sqrt_of
first_cell w h items =
    let target = max_of (div binary32 (of_whole items) two) one⁺ in
    let area = mul binary32 (max_of w milli) (max_of h milli) in
    max_of (max_of (sqrt_of (div binary32 area target)) (div binary32 (max_of w h) max_dim)) milli

-- `Grid::build` for so many boxes within `extent`
unfoldable pub grid_of : Aabb → ℕ → Grid
unfolding first_cell side
grid_of extent items =
    let w = sub binary32 extent.max_x extent.min_x in
    let h = sub binary32 extent.max_y extent.min_y in
    let first = first_cell w h items in
    let cols = side (div binary32 w first) in
    let rows = side (div binary32 h first) in
    record {
      min_x = extent.min_x;
      min_y = extent.min_y;
      cell = max_of (max_of (div binary32 w (of_whole cols)) (div binary32 h (of_whole rows))) milli;
      cols = cols;
      rows = rows;
    }

-- ---- cells

-- the cell of an offset: NaN and what is below zero go to the first, and what is above the last to that
unfoldable pub bucket : Float → Float → ℕ → ℕ
unfolding floor_of
bucket offset cell count =
    let i = floor_of (div binary32 offset cell) in
    cond (is_nan i || lt i zero⁺) 0 (min (to_unsigned 64 i) (count - 1))

abbrev pub col_of : Grid → Float → ℕ
col_of g x = bucket (sub binary32 x g.min_x) g.cell g.cols

abbrev pub row_of : Grid → Float → ℕ
row_of g y = bucket (sub binary32 y g.min_y) g.cell g.rows

-- a grid has a cell, and at most MAX_DIM a side
pub record Sides (g : Grid) : Type 0 where
  pub cols : 0 < g.cols
  pub rows : 0 < g.rows
  pub few_cols : g.cols ≤ 1024
  pub few_rows : g.rows ≤ 1024
