-- Worked values of the definitions, by computation. The dimensions are those that grid.rs answers.
use Rattle.std.specs.Prelude.{◌≡◌, refl, true, false, [], ◌∷◌, ℕ, Float}
use Rattle.std.specs.Float.{nan, binary32}
use Rattle.std.specs.Float.Ieee.{of_bits, of_int, add, sub, mul, div, lt, le, eq, is_nan, to_unsigned}
use Rattle.grid.specs.declared.Aabb.{Aabb}
use Rattle.grid.specs.declared.Grid.{Grid}
use Rattle.grid.specs.declared.Cell.{Cell}
use Rattle.grid.specs.Grid.{box_at, grown, padded, dist2, grid_of, bucket}
use Rattle.grid.specs.Ring.{ring_of, reached_at}
use Rattle.grid.specs.Grid.{side, first_cell}

f : ℕ → Float
f = of_bits binary32

-- ---- P: bucket, cell 1, count 4: -1 gives 0, 3.5 gives 3, 9 gives 3; NaN gives 0

below : bucket (f 0xbf800000) (f 0x3f800000) 4 ≡ 0
unfolding f bucket div lt is_nan to_unsigned of_bits
below = refl

within : bucket (f 0x40600000) (f 0x3f800000) 4 ≡ 3
unfolding f bucket div lt is_nan to_unsigned of_bits
within = refl

above : bucket (f 0x41100000) (f 0x3f800000) 4 ≡ 3
unfolding f bucket div lt is_nan to_unsigned of_bits
above = refl

no_number : bucket nan (f 0x3f800000) 4 ≡ 0
unfolding f bucket div lt is_nan to_unsigned of_bits
no_number = refl

-- ---- rings

cell : ℕ → ℕ → Cell
cell x y = record { ix = x; iy = y }

-- an edge row whole, the ends of the row between, an edge row whole
about_the_middle : ring_of 3 3 1 1 1 ≡ cell 0 0 ∷ cell 1 0 ∷ cell 2 0 ∷ cell 0 1 ∷ cell 2 1 ∷ cell 0 2 ∷ cell 1 2 ∷ cell 2 2 ∷ []
unfolding ring_of cell
about_the_middle = refl

-- at a corner the row of the corner comes first, with its one end
about_a_corner : ring_of 3 3 0 0 1 ≡ cell 1 0 ∷ cell 0 1 ∷ cell 1 1 ∷ []
unfolding ring_of cell
about_a_corner = refl

own_cell : ring_of 3 3 2 0 0 ≡ cell 2 0 ∷ []
unfolding ring_of cell
own_cell = refl

past_the_grid : ring_of 3 3 0 0 3 ≡ []
unfolding ring_of
past_the_grid = refl

-- ---- boxes

box : ℕ → ℕ → ℕ → ℕ → Aabb
unfolding f
box a b c d = record { min_x = f a; max_x = f b; min_y = f c; max_y = f d }

-- from (0, 8) to (4, 6)
around_two : grown (box_at (f 0) (f 0x41000000)) (f 0x40800000) (f 0x40c00000) ≡ box 0 0x40800000 0x40c00000 0x41000000
unfolding f box grown of_bits lt eq is_nan
around_two = refl

-- a maximum of -0 becomes +0
padded_by_nothing : padded (f 0) (box 0x80000000 0x80000000 0x80000000 0x80000000) ≡ box 0x80000000 0 0x80000000 0
unfolding f box of_bits add sub
padded_by_nothing = refl

-- 3 m beside and 4 m below the box from (0, 0) to (1, 1)
three_four_five : dist2 (box 0 0x3f800000 0 0x3f800000) (f 0x40800000) (f 0xc0800000) ≡ f 0x41c80000
unfolding f box dist2 of_bits add sub mul lt eq is_nan
three_four_five = refl

-- ---- dimensions

grid : ℕ → ℕ → ℕ → Grid
unfolding f
grid side cols rows = record { min_x = f 0; min_y = f 0; cell = f side; cols = cols; rows = rows }

-- 8 m by 6 m with nine boxes: 3 by 2 cells of 3 m
nine_boxes : grid_of (box 0 0x41000000 0 0x40c00000) 9 ≡ grid 0x40400000 3 2
unfolding f box grid grid_of of_bits of_int add sub mul div lt eq is_nan to_unsigned
nine_boxes = refl

-- a straight road of 8 m with two boxes: 90 cells in one row
straight_road : grid_of (box 0 0x41000000 0 0) 2 ≡ grid 0x3db60b61 90 1
unfolding f box grid grid_of of_bits of_int add sub mul div lt eq is_nan to_unsigned
straight_road = refl

-- 8,192 m of it with 1,152 boxes: no side has more than 1,024 cells
most_columns : grid_of (box 0 0x46000000 0 0) 1152 ≡ grid 0x41000000 1024 1
unfolding f box grid grid_of of_bits of_int add sub mul div lt eq is_nan to_unsigned
most_columns = refl

-- one point: one cell of 1 mm
one_point : grid_of (box 0 0 0 0) 1 ≡ grid 0x3a83126f 1 1
unfolding f box grid grid_of of_bits of_int add sub mul div lt eq is_nan to_unsigned
one_point = refl

-- ---- the stop rule: before ring 3 of cells of 2 m the search is over at 4 m, and not at the next f32 above 16 m²

reached_at_four : reached_at (grid 0x40000000 9 9) 3 (f 0x41800000) ≡ true
unfolding f grid reached_at of_bits of_int mul le lt eq
reached_at_four = refl

not_reached_past_four : reached_at (grid 0x40000000 9 9) 3 (f 0x41800001) ≡ false
unfolding f grid reached_at of_bits of_int mul le lt eq
not_reached_past_four = refl

-- before rings 0 and 1 only at no distance
reached_at_nothing : reached_at (grid 0x40000000 9 9) 0 (f 0) ≡ true
unfolding f grid reached_at of_bits of_int mul le lt eq
reached_at_nothing = refl

not_reached_near : reached_at (grid 0x40000000 9 9) 1 (f 1) ≡ false
unfolding f grid reached_at of_bits of_int mul le lt eq
not_reached_near = refl

-- ---- more of the dimensions

-- a straight road along y: the floor of 1e-3 m is under both sides
along_y : grid_of (box 0 0 0 0x41000000) 2 ≡ grid 0x3db60b61 1 90
unfolding f box grid grid_of of_bits of_int add sub mul div lt eq is_nan to_unsigned
along_y = refl

-- 1,024 cells a side and no more, at least one; what is over a whole number of cells takes one more
sides :
    (side (f 0x44800000) ≡ 1024)
    × (side (f 0x44800001) ≡ 1024)
    × (side (f 0x447fffff) ≡ 1024)
    × (side (f 0x447fc000) ≡ 1023)
    × (side (f 0) ≡ 1)
unfolding f side of_bits to_unsigned
sides = (refl, refl, refl, refl, refl)

-- the first cell size on 4 m by 4 m. 2 items a cell: two boxes have one cell of 4 m, three have cells of two thirds of its area, and eight have four
-- cells of 2 m; one box has one cell too; and on a single point, a cell of 1e-3 m
items_a_cell :
    (first_cell (f 0x40800000) (f 0x40800000) 1 ≡ f 0x40800000)
    × (first_cell (f 0x40800000) (f 0x40800000) 2 ≡ f 0x40800000)
    × (first_cell (f 0x40800000) (f 0x40800000) 3 ≡ f 0x405105ec)
    × (first_cell (f 0x40800000) (f 0x40800000) 8 ≡ f 0x40000000)
    × (first_cell (f 0) (f 0) 8 ≡ f 0x3a83126f)
unfolding f first_cell of_bits of_int mul div lt eq is_nan
items_a_cell = (refl, refl, refl, refl, refl)

-- and on a line of 8,192 m with 1,152 boxes: 8 m, a 1,024th, whichever way it runs
longest_cell : (first_cell (f 0x46000000) (f 0) 1152 ≡ f 0x41000000) × (first_cell (f 0) (f 0x46000000) 1152 ≡ f 0x41000000)
unfolding f first_cell of_bits of_int mul div lt eq is_nan
longest_cell = (refl, refl)
