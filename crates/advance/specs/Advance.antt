-- advance.rs, `advance`: every place a distance on along the lanes: the first branches, what a run from them answers, and the numbers of a
-- refusal. `specs/` of `explore` says how a run goes on. Definitions only.
use Rattle.std.specs.Prelude.{◌≡◌, Bool, true, false, cond, not, ◌&&◌, List, [], ◌∷◌, ◌++◌, ℕ, ◌*◌, eqb, ltb, leb, length, Float, Result, Ok, Err}
use Rattle.std.specs.Float.{binary64}
use Rattle.std.specs.Float.Ieee.{mul, le}
use Rattle.std.specs.Float.Ieee.Scale.{finite}
use Rattle.float.specs.Sign.{abs_of}
use Rattle.geometry.specs.Over.{over}
use Rattle.road.specs.Along.{along_of}
use Rattle.rows.specs.Rows.{direction_of, place_of, placed_section, points_of, stations_of}
use Rattle.plan_format.specs.declared.Refusal.{Refusal}
use Rattle.plan_format.specs.Refusals.{number_of}
use Rattle.plan_find.specs.FirstRow.{first_row, is_lane}
use Rattle.beside.specs.declared.LanePosition.{LanePosition}
use Rattle.beside.specs.Beside.{in_section, zero64}
use Rattle.branches.specs.declared.Branch.{Branch}
use Rattle.branches.specs.Tables.{Tables}
use Rattle.branches.specs.Branches.{side_of}
use Rattle.ends.specs.declared.Advance.{Advance}
use Rattle.ends.specs.Ends.{case_of, position_of, short_of}
use Rattle.explore.specs.Explore.{State, run_from}
use Rattle.advance.specs.declared.Advanced.{Advanced}

abbrev pub none_yet : List Branch → State
none_yet todo = record { front = record { todo = todo; entered = []; full = false }; found = record { placed = []; out = [] } }

-- a first branch, from lane i
abbrev pub first_branch : Bool → ℕ → Float → Float → Float → Bool → Branch
first_branch ahead i arc offset distance up =
    record { lane = i; arc = arc; up = up; left = mul binary64 offset (side_of ahead up); remaining = abs_of distance }

abbrev pub pick_branches : Bool → List Branch → List Branch → List Branch
pick_branches b x y = cond b x y

-- one with its traffic, or one each way, of which that up the centerline is taken first
unfoldable pub first_branches : List ℕ → Bool → ℕ → Float → Float → Float → List Branch
first_branches lanes ahead i arc offset distance =
    let up = cond (eqb (direction_of lanes i) 0) ahead (not ahead) in
    pick_branches (eqb (direction_of lanes i) 2)
    (first_branch ahead i arc offset distance true ∷ first_branch ahead i arc offset distance false ∷ [])
    (first_branch ahead i arc offset distance up ∷ [])

-- each entered key gives at most one branch, and there are at most two first ones: after 1,026 steps none is left, or the keys did not fit
unfoldable pub explored : Tables → ℕ → Float → Float → Float → State
explored t i arc offset distance =
    let ahead = le zero64 distance in
    run_from t ahead 1026 (none_yet (first_branches t.lanes ahead i arc offset distance))

-- the rows of a list, the oldest element's first
unfoldable pub rows_of : {A : Type 0} → (Advance → List A) → List Advance → List A
rows_of row [] = []
rows_of row (x ∷ xs) = rows_of row xs ++ row x

-- the two lists of an answer: case and lane; s, offset and metres short
abbrev pub case_row : Advance → List ℕ
case_row a = case_of a ∷ (position_of a).lane.0 ∷ []

abbrev pub metre_row : Advance → List Float
metre_row a = (position_of a).s ∷ (position_of a).offset ∷ short_of a ∷ []

-- what `advance` answers, and what it leaves in the lists lent for it
pub record Answer : Type 0 where
  pub advanced : Advanced
  pub rows : List ℕ
  pub metres : List Float

-- the number of a refusal; all else is zero, and the lists stay
abbrev pub refusal : ℕ → Advanced
refusal number = record { number = number; keys = 0; positions = 0 }

-- the answer of a search
abbrev pub advanced_of : Result Advanced Refusal → Advanced
advanced_of (Ok a) = a
advanced_of (Err e) = refusal (number_of e)

abbrev pub refused_with : ℕ → List ℕ → List Float → Answer
refused_with number rows metres = record { advanced = refusal number; rows = rows; metres = metres }

abbrev pub pick_answer : Bool → Answer → Answer → Answer
pick_answer b x y = cond b x y

-- 14: more than 1,024 keys would be entered, or the answer is longer than a list lent for it. Entries past an answer stay.
unfoldable pub answered_by : Bool → ℕ → List Advance → List ℕ → List Float → Answer
answered_by full keys out rows metres =
    pick_answer (not full && (leb (2 * length out) (length rows) && leb (3 * length out) (length metres)))
    (record {
      advanced = record { number = 0; keys = keys; positions = length out };
      rows = over (rows_of case_row out) rows;
      metres = over (rows_of metre_row out) metres;
    })
    (refused_with 14 rows metres)

abbrev pub answered : State → List ℕ → List Float → Answer
answered q rows metres = answered_by q.front.full (length q.front.entered) q.found.out rows metres

-- what a call answers and leaves in its lists is this answer
abbrev pub AnswerOf : Advanced → List ℕ → List Float → Answer → Type 0
AnswerOf r rows metres a = ◌≡◌ {A = Answer} (record { advanced = r; rows = rows; metres = metres }) a

-- `bounds` are the sections' starts and ends. From the lane in row i; 12: there is none, or it has no place, or s is not within its section;
-- 13: the distance is not finite
unfoldable pub advance_row : Tables → List Float → ℕ → Float → Float → Float → List ℕ → List Float → Answer
advance_row t bounds i s offset distance rows metres =
    let p = place_of t.fans i in
    let j = placed_section t.places p in
    let arc = along_of (points_of t.lanes t.points i) (stations_of t.sections t.stations j) s in
    pick_answer (ltb i t.lane_count && (ltb p t.place_count && in_section bounds j s))
    (pick_answer (finite distance) (answered (explored t i arc offset distance) rows metres) (refused_with 13 rows metres))
    (refused_with 12 rows metres)

unfoldable pub advance_rows : Tables → List Float → LanePosition → Float → List ℕ → List Float → Answer
advance_rows t bounds from distance rows metres =
    let i = first_row (is_lane t.lanes from.lane.0) t.lane_count 0 256 in
    advance_row t bounds i from.s from.offset distance rows metres
