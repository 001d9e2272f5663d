-- The nearest lane of an accepted plan. For every finite point: number 10 exactly when no lane drives, and where one does, 0 and a lane that
-- drives. For one with coordinates from -4,096 to 4,096 document 01's taped distance holds of the answer.
-- Definitions only; proofs/Theorem.antt proves `NearestNumbers`, `NearestTaped` and both of a file, `NearestOfFile`.
use Rattle.std.specs.Prelude.{false, true, List, ◌≡◌, ℕ}
use Rattle.accuracy.specs.Taped.{Answered, Found, In, SomeDrives}
use Rattle.coords.specs.Coords.{finite_point}
use Rattle.coords.specs.declared.Point.{Point}
use Rattle.geometry_laws.specs.Range.{PointIn}
use Rattle.nearest.specs.Nearest.{lanes_of, nearest_in, refusal}
use Rattle.nearest.specs.declared.NearestAnswer.{NearestAnswer}
use Rattle.network.specs.Lanes.{Lane, drives, drives_table}
use Rattle.plan.specs.Accepted.{Accepted}
use Rattle.plan_format.specs.Laws.{Bytes}
use Rattle.plan_format.specs.Plan.{Plan, accepted, decode}
use Rattle.plan_format.specs.Records.{lane_id}

-- no lane of the plan drives
abbrev pub NoneDrives : Plan → Type 0
NoneDrives p = (l : Lane) → In l (lanes_of p) → drives drives_table l ≡ false

-- 0, and the lane and the point that were found
abbrev pub answer_with : (p : Plan) (q : Point) → Found drives_table (lanes_of p) q → NearestAnswer
answer_with p q f = record { number = 0; lane = lane_id f.lane.number; projection = f.proj }

-- `nearest_lane` answers 0, with a lane of the plan that drives
pub record DrivingAnswer (p : Plan) (q : Point) : Type 0 where
  pub found : Found drives_table (lanes_of p) q
  pub is : nearest_in p q ≡ answer_with p q found

-- `nearest_lane` answers 0, with the lane and the point of which `Answered` holds: the lane drives, the point is within 0.1 m of it and at most
-- 0.1 m farther than any point of a driving lane
pub record TapedAnswer (p : Plan) (q : Point) : Type 0 where
  pub answered : Answered drives_table (lanes_of p) q
  pub is : nearest_in p q ≡ answer_with p q answered.chosen

-- for every finite point
pub record Numbers (p : Plan) (q : Point) : Type 0 where
  pub ten_only : (nearest_in p q).number ≡ 10 → NoneDrives p
  pub none_drives : NoneDrives p → nearest_in p q ≡ refusal 10
  pub one_drives : SomeDrives drives_table (lanes_of p) → DrivingAnswer p q

abbrev pub NearestNumbers : Type 0
NearestNumbers = (p : Plan) (q : Point) → Accepted p → finite_point q ≡ true → Numbers p q

-- for a point in the range: it is finite, and where a lane drives the tape bears the answer out
pub record TapedPoint (p : Plan) (q : Point) : Type 0 where
  pub finite : finite_point q ≡ true
  pub one_drives : SomeDrives drives_table (lanes_of p) → TapedAnswer p q

abbrev pub NearestTaped : Type 0
NearestTaped = (p : Plan) (q : Point) → Accepted p → PointIn q → TapedPoint p q

-- both, of an accepted file
abbrev pub NearestOfFile : Type 0
NearestOfFile =
    (file : List ℕ) → Bytes file → (p : Plan) → decode 0 file ≡ accepted p → (q : Point)
    → (finite_point q ≡ true → Numbers p q) × (PointIn q → TapedPoint p q)
