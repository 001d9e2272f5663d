-- How lanes, spans and answers stand in the tables that the code reads and writes; crate `rows` says how rows of lanes are read. Definitions only.
use Rattle.std.specs.Prelude.{◌≡◌, Bool, ◌&&◌, leb, List, [], ◌∷◌, ℕ, zero, suc, ◌+◌, ◌-◌, ◌*◌, ◌<◌, ◌≤◌, length, get_or, Float, Option, None, Some}
use Rattle.std.specs.Float.{nan}
use Rattle.geometry.specs.declared.Projection.{Projection}
use Rattle.geometry.specs.Polyline.{cumulative_of}
use Rattle.lists.specs.Over.{over, placed}
use Rattle.lists.specs.Rows.{rows}
use Rattle.rows.specs.Rows.{arcs_of, end_point, lane_number, point_count, points_of, type_of}
use Rattle.grid.specs.declared.Aabb.{Aabb}
use Rattle.grid.specs.declared.Grid.{Grid}
use Rattle.grid.specs.Grid.{col_of, row_of, Sides}
use Rattle.network.specs.declared.LaneIndex.{LaneIndex}
use Rattle.network.specs.declared.Nearest.{Nearest}
use Rattle.network.specs.Lanes.{Lane, Span}
use Rattle.network.specs.Nearest.{Best, none, found, boxes_of, grid_for, Item, item_of, items_from, ceiling, wins, enough, measured}

-- ---- lanes

-- the lane of a row
unfoldable pub lane_at : List ℕ → List Float → ℕ → Lane
lane_at lanes points row = record {
  row = row;
  number = lane_number lanes row;
  kind = type_of lanes row;
  count = point_count lanes row;
  points = points_of lanes points row;
}

-- k lanes from a row on
unfoldable pub lanes_from : List ℕ → List Float → ℕ → ℕ → List Lane
unfolding lane_at
lanes_from lanes points zero row = []
lanes_from lanes points (suc k) row = lane_at lanes points row ∷ lanes_from lanes points k (suc row)

-- what a row must be for the lane to be read: two points or more, all of them in the table, and a type that the table of drives has
pub record Row (lanes : List ℕ) (points : List Float) (drives : List Bool) (row : ℕ) : Type 0 where
  pub in_table : 6 * row + 5 < length lanes
  pub kind : type_of lanes row < length drives
  pub two : 2 ≤ point_count lanes row
  pub within : 3 * end_point lanes row ≤ length points

pub record Rows (lanes : List ℕ) (points : List Float) (drives : List Bool) (n : ℕ) : Type 0 where
  pub each : (row : ℕ) → row < n → Row lanes points drives row

-- the arc lengths of the points of every row
pub record Arcs (lanes : List ℕ) (points cumulative : List Float) (n : ℕ) : Type 0 where
  pub within : (row : ℕ) → row < n → end_point lanes row ≤ length cumulative
  pub each : (row : ℕ) → row < n
      → arcs_of lanes cumulative row
      ≡ cumulative_of (points_of lanes points row) (point_count lanes row)

-- ---- the rows of an index

-- a span: its lane's row, its first segment, and the segment after its last
abbrev pub span_row : Span → List ℕ
span_row s = s.lane.row ∷ s.first ∷ (s.first + s.count) ∷ []

abbrev pub box_row : Aabb → List Float
box_row b = b.min_x ∷ b.max_x ∷ b.min_y ∷ b.max_y ∷ []

abbrev pub span_box : Span → List Float
span_box s = box_row s.box

-- box i of the table, and n boxes from box i on
unfoldable pub box_in : List Float → ℕ → Aabb
box_in boxes i = record {
  min_x = get_or boxes (4 * i) nan;
  max_x = get_or boxes (4 * i + 1) nan;
  min_y = get_or boxes (4 * i + 2) nan;
  max_y = get_or boxes (4 * i + 3) nan;
}

unfoldable pub box_list : List Float → ℕ → ℕ → List Aabb
unfolding box_in
box_list boxes zero i = []
box_list boxes (suc n) i = box_in boxes i ∷ box_list boxes n (suc i)

-- the columns and the rows of a box in the grid
abbrev pub range_row : Grid → Aabb → List ℕ
range_row g b = col_of g b.min_x ∷ col_of g b.max_x ∷ row_of g b.min_y ∷ row_of g b.max_y ∷ []

-- ---- what building the index does

-- the spans ss written from span k on
pub record Added (ss : List Span) (k r : ℕ) (spans spans' : List ℕ) (boxes boxes' : List Float) : Type 0 where
  pub count : r ≡ k + length ss
  pub in_spans : spans' ≡ placed (3 * k) (rows span_row ss) spans
  pub in_boxes : boxes' ≡ placed (4 * k) (rows span_box ss) boxes

-- the tables have room for them
pub record Room (ss : List Span) (k : ℕ) (spans : List ℕ) (boxes : List Float) : Type 0 where
  pub in_spans : 3 * (k + length ss) ≤ length spans
  pub in_boxes : 4 * (k + length ss) ≤ length boxes

-- the index of the spans ss: what is answered, and what the three tables hold then
pub record Built (ss : List Span) (r : LaneIndex) (spans spans' : List ℕ) (boxes boxes' : List Float)
    (ranges ranges' : List ℕ) : Type 0 where
  pub count : r.count ≡ length ss
  pub grid : r.grid ≡ grid_for ss
  pub in_spans : spans' ≡ over (rows span_row ss) spans
  pub in_boxes : boxes' ≡ over (rows span_box ss) boxes
  pub in_ranges : ranges' ≡ over (rows (range_row (grid_for ss)) (boxes_of ss)) ranges

-- ---- the index as a query reads it

-- span i, and n spans from span i on
unfoldable pub span_in : List ℕ → List Float → List ℕ → List Float → ℕ → Span
unfolding lane_at box_in
span_in lanes points spans boxes i =
    let first = get_or spans (3 * i + 1) 0 in
    record {
      lane = lane_at lanes points (get_or spans (3 * i) 0);
      first = first;
      count = get_or spans (3 * i + 2) 0 - first;
      box = box_in boxes i;
    }

unfoldable pub span_list : List ℕ → List Float → List ℕ → List Float → ℕ → ℕ → List Span
unfolding span_in
span_list lanes points spans boxes zero i = []
span_list lanes points spans boxes (suc n) i = span_in lanes points spans boxes i ∷ span_list lanes points spans boxes n (suc i)

abbrev pub item_in : List ℕ → List Float → List ℕ → List Float → LaneIndex → ℕ → Item
item_in lanes points spans boxes index i = item_of index.grid i (span_in lanes points spans boxes i)

abbrev pub item_list : List ℕ → List Float → List ℕ → List Float → LaneIndex → ℕ → ℕ → List Item
item_list lanes points spans boxes index n i = items_from index.grid i (span_list lanes points spans boxes n i)

-- whether the columns of entry i hold a column, its rows a row, or both a cell
abbrev pub columns_within : List ℕ → ℕ → ℕ → Bool
columns_within ranges i ix = leb (get_or ranges (4 * i) 0) ix && leb ix (get_or ranges (4 * i + 1) 0)

abbrev pub rows_within : List ℕ → ℕ → ℕ → Bool
rows_within ranges i iy = leb (get_or ranges (4 * i + 2) 0) iy && leb iy (get_or ranges (4 * i + 3) 0)

unfoldable pub within : List ℕ → ℕ → ℕ → ℕ → Bool
within ranges i ix iy =
    leb (get_or ranges (4 * i) 0) ix &&
    (leb ix (get_or ranges (4 * i + 1) 0) && (leb (get_or ranges (4 * i + 2) 0) iy && leb iy (get_or ranges (4 * i + 3) 0)))

-- a lane that can be projected onto: its points and their arc lengths are in the tables
pub record Line (lanes : List ℕ) (points cumulative : List Float) (row : ℕ) : Type 0 where
  pub in_table : 6 * row + 5 < length lanes
  pub two : 2 ≤ point_count lanes row
  pub within : 3 * end_point lanes row ≤ length points
  pub arcs_within : end_point lanes row ≤ length cumulative
  pub arcs : arcs_of lanes cumulative row
      ≡ cumulative_of (points_of lanes points row) (point_count lanes row)

-- what the query may count on at span i
pub record Entry (lanes : List ℕ) (points cumulative : List Float) (spans : List ℕ) (boxes : List Float) (ranges : List ℕ) (g : Grid)
    (i : ℕ) : Type 0 where
  pub line : Line lanes points cumulative (get_or spans (3 * i) 0)
  pub some : get_or spans (3 * i + 1) 0 < get_or spans (3 * i + 2) 0
  pub last : get_or spans (3 * i + 2) 0 < point_count lanes (get_or spans (3 * i) 0)
  pub lo_x : get_or ranges (4 * i) 0 ≡ col_of g (box_in boxes i).min_x
  pub hi_x : get_or ranges (4 * i + 1) 0 ≡ col_of g (box_in boxes i).max_x
  pub lo_y : get_or ranges (4 * i + 2) 0 ≡ row_of g (box_in boxes i).min_y
  pub hi_y : get_or ranges (4 * i + 3) 0 ≡ row_of g (box_in boxes i).max_y

-- what it may count on in all
pub record Index (lanes : List ℕ) (points cumulative : List Float) (spans : List ℕ) (boxes : List Float) (ranges : List ℕ)
    (index : LaneIndex) : Type 0 where
  pub spans_room : 3 * index.count ≤ length spans
  pub boxes_room : 4 * index.count ≤ length boxes
  pub ranges_room : 4 * index.count ≤ length ranges
  pub each : (i : ℕ) → i < index.count → Entry lanes points cumulative spans boxes ranges index.grid i
  pub sides : 0 < index.count → Sides index.grid

-- ---- answers

abbrev pub told : Best → Option Nearest
told none = None
told (found d i l q) = Some (record { dist2 = d; span = i; row = l.row; projection = q })

-- the definition's form of an answer
abbrev pub best_of : List ℕ → List Float → Option Nearest → Best
best_of lanes points None = none
best_of lanes points (Some b) = found b.dist2 b.span (lane_at lanes points b.row) b.projection

-- what the steps that know no lanes answer, whatever the lanes are
abbrev pub CeilingIs : Option Nearest → Float → Type 0
CeilingIs best r = (lanes : List ℕ) (points : List Float) → r ≡ ceiling (best_of lanes points best)

abbrev pub WinsIs : Float → ℕ → Option Nearest → Bool → Type 0
WinsIs d2 item best r = (lanes : List ℕ) (points : List Float) → r ≡ wins d2 item (best_of lanes points best)

abbrev pub EnoughIs : Grid → ℕ → Option Nearest → Bool → Type 0
EnoughIs g ring best r = (lanes : List ℕ) (points : List Float) → r ≡ enough g ring (best_of lanes points best)

abbrev pub MeasuredIs : Float → ℕ → ℕ → Projection → Option Nearest → Option Nearest → Type 0
MeasuredIs d2 item row q best r =
    (lanes : List ℕ) (points : List Float) → best_of lanes points r ≡ measured d2 item (lane_at lanes points row) q (best_of lanes points best)
