-- advance.rs, `left_of` and `right_of`, by ASAM OpenDRIVE: a section's lane numbers fall from left to right, as a lane with the road's direction
-- sees it; a Backward lane sees it reversed, and Both counts as Forward. So the lane beside is the one with the next larger or the next smaller
-- number in the section. Here by the rows of the plan's tables; `specs/InPlan.antt` has it by the plan's records. Definitions only.
use Rattle.std.specs.Prelude.{Bool, cond, not, ◌&&◌, ◌||◌, List, ℕ, zero, suc, eqb, ltb, leb, Float, Result, Ok, Err}
use Rattle.std.specs.Float.{binary64}
use Rattle.std.specs.Float.Ieee.{le, of_bits}
use Rattle.plan_format.specs.declared.Refusal.{Refusal}
use Rattle.plan_format.specs.Refusals.{number_of}
use Rattle.plan_find.specs.FirstRow.{first_row, is_lane}
use Rattle.rows.specs.Rows.{lane_number, direction_of, place_of, placed_lane, placed_section, raised_number, start_of, end_of}
use Rattle.beside.specs.declared.LanePosition.{LanePosition}
use Rattle.beside.specs.declared.BesideAnswer.{BesideAnswer}

-- b lies past a, toward the larger numbers (true) or toward the smaller
abbrev pub beyond : Bool → ℕ → ℕ → Bool
beyond larger a b = cond larger (ltb a b) (ltb b a)

-- the larger numbers are on the left (side 0), and on the right of a Backward lane
abbrev pub toward_larger : ℕ → ℕ → Bool
toward_larger direction side = cond (eqb direction 1) (not (eqb side 0)) (eqb side 0)

-- of m places: place k stands in section j, past the number `here`, and nearer to it than place `best`, where that is a place
abbrev pub nearer_at : List ℕ → ℕ → ℕ → ℕ → Bool → ℕ → ℕ → Bool
nearer_at places m j here larger best k =
    let x = raised_number places k in
    eqb (placed_section places k) j && (beyond larger here x && (leb m best || beyond larger x (raised_number places best)))

-- the nearest of the first k places, 256 where none lies on that side
unfoldable pub next_row : List ℕ → ℕ → ℕ → ℕ → Bool → ℕ → ℕ
next_row places m j here larger zero = 256
next_row places m j here larger (suc k) =
    let best = next_row places m j here larger k in
    cond (nearer_at places m j here larger best k) k best

-- both ends of a section count as within it; a NaN lies in none
abbrev pub in_section : List Float → ℕ → Float → Bool
in_section bounds j s = le (start_of bounds j) s && le s (end_of bounds j)

abbrev pub zero64 : Float
zero64 = of_bits binary64 0

-- all zeros, which no caller takes for a place
abbrev pub nowhere : LanePosition
nowhere = record { lane = record { 0 = 0 }; s = zero64; offset = zero64 }

-- the number of a refusal; all else is zero
abbrev pub refusal : ℕ → BesideAnswer
refusal number = record { number = number; at = nowhere }

-- the center of the lane with this number, and of the lane in row i, at s
abbrev pub center_of : ℕ → Float → BesideAnswer
center_of number s = record { number = 0; at = record { lane = record { 0 = number }; s = s; offset = zero64 } }

-- the answer that C gets
abbrev pub answer_of : Result LanePosition Refusal → BesideAnswer
answer_of (Ok at) = record { number = 0; at = at }
answer_of (Err e) = refusal (number_of e)

abbrev pub center_at : List ℕ → ℕ → Float → BesideAnswer
center_at lanes i s = center_of (lane_number lanes i) s

abbrev pub pick : Bool → BesideAnswer → BesideAnswer → BesideAnswer
pick b x y = cond b x y

-- of n lanes and m places, from the lane in row i. 12: there is none, or it has no place, or s is not within its section; 15: no lane is on that side
unfoldable pub beside_row : List ℕ → ℕ → List ℕ → List ℕ → ℕ → List Float → Float → ℕ → ℕ → BesideAnswer
beside_row lanes n fans places m bounds s side i =
    let p = place_of fans i in
    let j = placed_section places p in
    let r = next_row places m j (raised_number places p) (toward_larger (direction_of lanes i) side) m in
    pick (ltb i n && (ltb p m && in_section bounds j s)) (pick (ltb r m) (center_at lanes (placed_lane places r) s) (refusal 15)) (refusal 12)

unfoldable pub beside_rows : List ℕ → ℕ → List ℕ → List ℕ → ℕ → List Float → LanePosition → ℕ → BesideAnswer
beside_rows lanes n fans places m bounds at side =
    beside_row lanes n fans places m bounds at.s side (first_row (is_lane lanes at.lane.0) n 0 256)
