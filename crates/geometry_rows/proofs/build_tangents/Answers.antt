-- `build_tangents` writes lane by lane: at each turn the rows of the lanes so far stand there.
use mathlib.Core.Path.{refl, ap, ◌∙◌}
use Prim.Native.Nat.{◌*◌}
use native.Mathlib.Omega.{arith}
use lib.ListN.{length}
use Rattle.std.specs.Prelude.{Option}
use Rattle.geometry.specs.declared.Ends.{Ends}
use Rattle.geometry.specs.Polyline.{tangents_of}
use Rattle.geometry.specs.PolylineLaws.{length_tangents}
use Rattle.geometry.specs.Over.{placed, length_placed}
use Rattle.rows.specs.Rows.{first_point, point_count, points_of}
use Rattle.geometry_rows.specs.Rows.{lane_ends, tangent_rows}
use Rattle.geometry_rows.specs.RowsLaws.{lane_room, tangent_rows_next}
use Rattle.geometry_rows.proofs.build_tangents.Goals as goal

pub loop-i-init : goal.loop-i-init
unfolding tangent_rows
loop-i-init c = (refl, refl)

pub write_lane_tangents-requires : goal.write_lane_tangents-requires
write_lane_tangents-requires c =
    let i = c.loop-i.i in
    let r = c.requires in
    let room = lane_room c.args.lanes.now c.args.n c.args.points.now r.0 i
    c.loop-i-test.true in
    omega (arith, r.0.room, r.1.room, c.loop-i.invariant.0)

pub loop-i-preserved : goal.loop-i-preserved
loop-i-preserved c =
    let a = c.args in
    let l = c.loop-i in
    let r = c.requires in
    let lanes = a.lanes.now in
    let points = points_of lanes a.points.now l.i in
    let lane = tangents_of points (point_count lanes l.i) (lane_ends lanes a.ends.now l.i) in
    let room = lane_room lanes a.n a.points.now r.0 l.i c.loop-i-test.true in
    let long = length_tangents points (point_count lanes l.i) (lane_ends lanes a.ends.now l.i) (point_count lanes l.i) in
    let written = c.write_lane_tangents.ensures
    ∙ ap (λ (e : Option Ends). placed (3 * first_point lanes l.i) (tangents_of points (point_count lanes l.i) e) l.tangents)
    c.lane_ends.ensures in (
      ap length written ∙ length_placed (3 * first_point lanes l.i) lane l.tangents (omega (arith, r.1.room, l.invariant.0)) ∙ l.invariant.0,
      written ∙ tangent_rows_next lanes a.n a.points.now r.0 l.i c.loop-i-test.true a.tangents.now
          l.tangents a.ends.now l.invariant.1,
    )
