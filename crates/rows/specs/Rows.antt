-- The entries of the plan's tables by their names, for the crates that read them (`plan_format`, specs/Tables.antt, says what a row has).
-- Definitions only.
use Rattle.std.specs.Prelude.{List, ℕ, ◌*◌, ◌+◌, ◌-◌, Float, drop, get_or, take}
use Rattle.std.specs.Float.{nan}
use Rattle.geometry.specs.Polyline.{arc_length}

-- the entries a .. e - 1 of a list
abbrev pub part : {A : Type 0} → List A → ℕ → ℕ → List A
part xs a e = take (e - a) (drop a xs)

-- ---- row i of `lanes`

abbrev pub lane_number : List ℕ → ℕ → ℕ
lane_number lanes i = get_or lanes (6 * i) 0

-- in the order of `LaneType`
abbrev pub type_of : List ℕ → ℕ → ℕ
type_of lanes i = get_or lanes (6 * i + 1) 0

-- 0 Forward, 1 Backward, 2 Both
abbrev pub direction_of : List ℕ → ℕ → ℕ
direction_of lanes i = get_or lanes (6 * i + 2) 0

-- its first point, how many it has, and their end
abbrev pub first_point : List ℕ → ℕ → ℕ
first_point lanes i = get_or lanes (6 * i + 4) 0

abbrev pub point_count : List ℕ → ℕ → ℕ
point_count lanes i = get_or lanes (6 * i + 5) 0

abbrev pub end_point : List ℕ → ℕ → ℕ
end_point lanes i = first_point lanes i + point_count lanes i

-- its points (x y z of each), the arc length and the tangent (x y z) at each
abbrev pub points_of : List ℕ → List Float → ℕ → List Float
points_of lanes points i = part points (3 * first_point lanes i) (3 * end_point lanes i)

abbrev pub arcs_of : List ℕ → List Float → ℕ → List Float
arcs_of lanes cumulative i = part cumulative (first_point lanes i) (end_point lanes i)

abbrev pub tangents_of : List ℕ → List Float → ℕ → List Float
tangents_of lanes tangents i = part tangents (3 * first_point lanes i) (3 * end_point lanes i)

abbrev pub length_of : List ℕ → List Float → ℕ → Float
length_of lanes cumulative i = arc_length (arcs_of lanes cumulative i)

-- ---- row i of `fans`: how a lane's links stand in `links`, successors first, then predecessors, then neighbours

abbrev pub first_link : List ℕ → ℕ → ℕ
first_link fans i = get_or fans (5 * i) 0

abbrev pub successors : List ℕ → ℕ → ℕ
successors fans i = get_or fans (5 * i + 1) 0

abbrev pub predecessors : List ℕ → ℕ → ℕ
predecessors fans i = get_or fans (5 * i + 2) 0

abbrev pub neighbours : List ℕ → ℕ → ℕ
neighbours fans i = get_or fans (5 * i + 3) 0

abbrev pub first_neighbour : List ℕ → ℕ → ℕ
first_neighbour fans i = first_link fans i + successors fans i + predecessors fans i

-- the row of the lane's place, or 256
abbrev pub place_of : List ℕ → ℕ → ℕ
place_of fans i = get_or fans (5 * i + 4) 0

-- ---- row k of `links`: the number of the lane led to, and its row, or 256

abbrev pub leads_to : List ℕ → ℕ → ℕ
leads_to links k = get_or links (2 * k + 1) 0

-- ---- row p of `places`

abbrev pub placed_lane : List ℕ → ℕ → ℕ
placed_lane places p = get_or places (3 * p) 0

abbrev pub placed_section : List ℕ → ℕ → ℕ
placed_section places p = get_or places (3 * p + 1) 0

-- the OpenDRIVE lane number plus 2^31, which keeps the order
abbrev pub raised_number : List ℕ → ℕ → ℕ
raised_number places p = get_or places (3 * p + 2) 0

-- ---- row j of `bounds` and of `sections`: where a section starts and ends, and its stations

abbrev pub start_of : List Float → ℕ → Float
start_of bounds j = get_or bounds (2 * j) nan

abbrev pub end_of : List Float → ℕ → Float
end_of bounds j = get_or bounds (2 * j + 1) nan

abbrev pub first_station : List ℕ → ℕ → ℕ
first_station sections j = get_or sections (4 * j + 2) 0

abbrev pub end_station : List ℕ → ℕ → ℕ
end_station sections j = first_station sections j + get_or sections (4 * j + 3) 0

abbrev pub stations_of : List ℕ → List Float → ℕ → List Float
stations_of sections stations j = part stations (first_station sections j) (end_station sections j)
