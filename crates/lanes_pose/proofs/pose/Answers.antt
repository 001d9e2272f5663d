-- `pose` opens the plan; a refused file gets its number, an accepted one the pose from its rows.
use Rattle.std.proofs.Common.{arith, refl, Ok}
use Rattle.plan_format.specs.Laws.{Bytes}
use Rattle.plan_format.specs.Refusals.{read_by}
use Rattle.pose.specs.Lanes.{posed_by}
use Rattle.lanes_pose.specs.Pose.{pose_calls, pose_fronts}
use Rattle.lanes_pose.proofs.pose.Goals as goal

pub pose_from-requires : goal.pose_from-requires
pose_from-requires c =
    let a = c.args in
    let bytes : Bytes a.file.now = (λ i. omega (arith, c.type_inv.file i)) in
    pose_fronts 0 a.file.now bytes (read_by (Ok c.in_ok-counts.counts)) _ _ c.in_ok-counts.ensures refl

pub returns : goal.returns
returns c =
    let a = c.args in
    let bytes : Bytes a.file.now = (λ i. omega (arith, c.type_inv.file i)) in
    pose_calls 0 a.file.now bytes (read_by (Ok c.in_ok-counts.counts)) _ _ c.in_ok-counts.ensures refl a.lane.0 a.s
    (posed_by c.pose_from.result) c.pose_from.ensures
