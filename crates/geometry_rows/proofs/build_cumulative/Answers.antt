-- `build_cumulative` writes lane by lane: at each turn the rows of the lanes so far stand there.
use mathlib.Core.Path.{refl, ap, ◌∙◌}
use native.Mathlib.Omega.{arith}
use lib.ListN.{length}
use Rattle.geometry.specs.Polyline.{cumulative_of}
use Rattle.geometry.specs.PolylineLaws.{length_cumulative}
use Rattle.geometry.specs.Over.{length_placed}
use Rattle.rows.specs.Rows.{first_point, point_count, points_of}
use Rattle.geometry_rows.specs.Rows.{cumulative_rows}
use Rattle.geometry_rows.specs.RowsLaws.{lane_room, cumulative_rows_next}
use Rattle.geometry_rows.proofs.build_cumulative.Goals as goal

pub loop-i-init : goal.loop-i-init
unfolding cumulative_rows
loop-i-init c = (refl, refl)

pub write_lane_cumulative-requires : goal.write_lane_cumulative-requires
write_lane_cumulative-requires c =
    let i = c.loop-i.i in
    let r = c.requires in
    let room = lane_room c.args.lanes.now c.args.n c.args.points.now r.0 i
    c.loop-i-test.true in
    omega (arith, r.0.some i c.loop-i-test.true, r.0.room, r.1, c.loop-i.invariant.0)

pub loop-i-preserved : goal.loop-i-preserved
loop-i-preserved c =
    let a = c.args in
    let l = c.loop-i in
    let r = c.requires in
    let lanes = a.lanes.now in
    let lane = cumulative_of (points_of lanes a.points.now l.i) (point_count lanes l.i) in
    let room = lane_room lanes a.n a.points.now r.0 l.i c.loop-i-test.true in
    let long = length_cumulative (points_of lanes a.points.now l.i) (point_count lanes l.i) in (
      ap length c.write_lane_cumulative.ensures ∙ length_placed (first_point lanes l.i) lane
          l.cumulative (omega (arith, r.1, l.invariant.0)) ∙ l.invariant.0,
      c.write_lane_cumulative.ensures ∙ cumulative_rows_next lanes a.n a.points.now r.0 l.i
          c.loop-i-test.true a.cumulative.now l.cumulative l.invariant.1,
    )
