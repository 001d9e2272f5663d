-- The nearest lane of a plan to a point: the lanes from the plan's records, and the whole answer with its number. Definitions only.
use Rattle.std.specs.Prelude.{cond, Result, Ok, Err, List, [], ◌∷◌, suc, ℕ, ◌≤◌, Float, length}
use Rattle.coords.specs.Coords.{finite_point, zero⁺}
use Rattle.coords.specs.declared.Point.{Point}
use Rattle.network.specs.Lanes.{Lane, driving, drives_table}
use Rattle.network.specs.Nearest.{Best, found, nearest_lane, none}
use Rattle.network.specs.Tables.{Arcs, Rows, lanes_from}
use Rattle.plan_format.specs.Plan.{Decoded, Plan, accepted, refused}
use Rattle.plan_format.specs.Records.{lane_id}
use Rattle.plan_format.specs.Records as records
use Rattle.plan_format.specs.Refusals.{number_of}
use Rattle.plan_format.specs.declared.Refusal.{Refusal}
use Rattle.nearest.specs.declared.NearestAnswer.{NearestAnswer}
use Rattle.nearest.specs.declared.NearestLane.{NearestLane}

-- the lane of a record that stands in a row
abbrev pub row_lane : ℕ → records.Lane → Lane
row_lane row l = record { row = row; number = l.number; kind = l.type; count = l.count; points = l.points }

unfoldable pub lanes_after : ℕ → List records.Lane → List Lane
lanes_after row [] = []
lanes_after row (l ∷ ls) = row_lane row l ∷ lanes_after (suc row) ls

-- the lanes of a plan, in file order
abbrev pub lanes_of : Plan → List Lane
lanes_of p = lanes_after 0 p.lanes

-- an answer with a number of document 01's list: all else is zero
abbrev pub refusal : ℕ → NearestAnswer
refusal n =
    record {
      number = n;
      lane = lane_id 0;
      projection = record { s = zero⁺; point = record { x = zero⁺; y = zero⁺; z = zero⁺ }; offset = zero⁺ };
    }

-- the answer that C gets
abbrev pub nearest_by : Result NearestLane Refusal → NearestAnswer
nearest_by (Ok a) = record { number = 0; lane = a.lane; projection = a.projection }
nearest_by (Err e) = refusal (number_of e)

-- NUMBER 10 where there is none; else the lane's number and the projection onto it
abbrev pub answer_of : Best → NearestAnswer
answer_of none = refusal 10
answer_of (found d i l q) = record { number = 0; lane = lane_id l.number; projection = q }

-- NUMBER 9: a coordinate is not finite
unfoldable pub nearest_among : List Lane → Point → NearestAnswer
unfolding nearest_lane
nearest_among ls q = cond (finite_point q) (answer_of (nearest_lane drives_table ls q)) (refusal 9)

-- THE ANSWER
abbrev pub nearest_in : Plan → Point → NearestAnswer
nearest_in p q = nearest_among (lanes_of p) q

-- the same of a file as it was read: numbers 1 to 8 where it was refused
abbrev pub nearest_from : Decoded → Point → NearestAnswer
nearest_from (refused n) q = refusal n
nearest_from (accepted p) q = nearest_in p q

-- what the rows of n lanes must be to be asked: each with its points and their arc lengths, and no more spans than the index has room for
pub record Searchable (lanes : List ℕ) (points cumulative : List Float) (n : ℕ) : Type 0 where
  pub rows : Rows lanes points drives_table n
  pub arcs : Arcs lanes points cumulative n
  pub few : length (driving drives_table (lanes_from lanes points n 0)) ≤ 1152
