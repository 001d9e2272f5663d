-- The pose on a lane at an arc length: of a plan's lanes, and of its rows. Definitions only.
use Rattle.std.specs.Prelude.{cond, Result, Ok, Err, List, ℕ, ◌*◌, ◌+◌, ◌<◌, ◌≤◌, eqb, Float, get_or, length}
use Rattle.coords.specs.Coords.{zero_vector, zero⁺}
use Rattle.geometry.specs.Locate.{pose_along}
use Rattle.geometry.specs.Partition.{Rising}
use Rattle.geometry.specs.Polyline.{Line}
use Rattle.geometry.specs.declared.Pose.{Pose}
use Rattle.plan_find.specs.FirstRow.{first_row, is_lane}
use Rattle.plan_format.specs.Plan.{Decoded, Plan, accepted, lane_of, refused}
use Rattle.plan_format.specs.Refusals.{number_of}
use Rattle.plan_format.specs.declared.Refusal.{Refusal}
use Rattle.rows.specs.Rows.{arcs_of, end_point, points_of, tangents_of}
use Rattle.tables.specs.LaneTables.{cumulative_row, no_lane, tangent_row}
use Rattle.pose.specs.declared.Posed.{Posed}

abbrev pub refused_pose : ℕ → Posed
refused_pose n = record { number = n; pose = record { position = record { x = zero⁺; y = zero⁺; z = zero⁺ }; heading = zero_vector } }

abbrev pub posed_at : Pose → Posed
posed_at q = record { number = 0; pose = q }

-- the answer that C gets
abbrev pub posed_by : Result Pose Refusal → Posed
posed_by (Ok q) = posed_at q
posed_by (Err e) = refused_pose (number_of e)

-- NUMBER 12: the plan has no lane with the number n
unfoldable pub pose_in : Plan → ℕ → Float → Posed
pose_in p n s =
    let l = get_or p.lanes (lane_of p n) no_lane in
    cond (eqb (lane_of p n) 256) (refused_pose 12) (posed_at (pose_along l.points (cumulative_row l) (tangent_row l) s))

-- the answer for a file
abbrev pub pose_of : Decoded → ℕ → Float → Posed
pose_of (refused k) n s = refused_pose k
pose_of (accepted p) n s = pose_in p n s

-- the same of k rows
unfoldable pub pose_row : ℕ → Float → ℕ → List ℕ → List Float → List Float → List Float → Posed
pose_row n s k lanes points cumulative tangents =
    let i = first_row (is_lane lanes n) k 0 256 in
    cond (eqb i 256) (refused_pose 12)
    (posed_at (pose_along (points_of lanes points i) (arcs_of lanes cumulative i) (tangents_of lanes tangents i) s))

-- row i is there, and its lane's polyline
pub record Polyline (lanes : List ℕ) (points cumulative tangents : List Float) (i : ℕ) : Type 0 where
  pub row : 6 * i + 6 ≤ length lanes
  pub points_there : 3 * end_point lanes i ≤ length points
  pub arcs_there : end_point lanes i ≤ length cumulative
  pub tangents_there : 3 * end_point lanes i ≤ length tangents
  pub line : Line (points_of lanes points i) (arcs_of lanes cumulative i)
  pub rising : Rising (arcs_of lanes cumulative i)

-- k rows, at most 256
pub record Polylines (k : ℕ) (lanes : List ℕ) (points cumulative tangents : List Float) : Type 0 where
  pub few : k ≤ 256
  pub lanes_there : 6 * k ≤ length lanes
  pub each : (i : ℕ) → i < k → Polyline lanes points cumulative tangents i
