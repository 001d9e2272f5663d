-- The counts of the answer are within the lists; the answer written out is the reply.
use Rattle.std.proofs.Common.{sym, length-take-le, arith}
use Rattle.replies.specs.Lent.{from_lent}
use Rattle.replies.specs.Replied.{route_replied, route_room}
use Rattle.replies.proofs.route_reply.Goals as goal

pub slice_bounds-chain-end : goal.slice_bounds-chain-end
slice_bounds-chain-end g c =
    let R =
    route_room c.args.file.now c.args.x c.args.y c.args.z c.args.u c.args.v c.args.w c.from-a.result
    _ _ (from_lent c.new-t.ensures (rw (← c.from-a.ensures) at c.route-answer.ensures.calls)) in
    R.0

pub slice_bounds-lanes-end : goal.slice_bounds-lanes-end
slice_bounds-lanes-end g c =
    let R =
    route_room c.args.file.now c.args.x c.args.y c.args.z c.args.u c.args.v c.args.w c.from-a.result
    _ _ (from_lent c.new-t.ensures (rw (← c.from-a.ensures) at c.route-answer.ensures.calls)) in
    sym (length-take-le _ _ R.0)

pub overflow_mul-waypoints : goal.overflow_mul-waypoints
overflow_mul-waypoints g c =
    let R =
    route_room c.args.file.now c.args.x c.args.y c.args.z c.args.u c.args.v c.args.w c.from-a.result
    _ _ (from_lent c.new-t.ensures (rw (← c.from-a.ensures) at c.route-answer.ensures.calls)) in
    omega arith

pub slice_bounds-waypoints-end : goal.slice_bounds-waypoints-end
slice_bounds-waypoints-end g c =
    let R =
    route_room c.args.file.now c.args.x c.args.y c.args.z c.args.u c.args.v c.args.w c.from-a.result
    _ _ (from_lent c.new-t.ensures (rw (← c.from-a.ensures) at c.route-answer.ensures.calls)) in
    R.1

pub slice_bounds-points-end : goal.slice_bounds-points-end
slice_bounds-points-end g c =
    let R =
    route_room c.args.file.now c.args.x c.args.y c.args.z c.args.u c.args.v c.args.w c.from-a.result
    _ _ (from_lent c.new-t.ensures (rw (← c.from-a.ensures) at c.route-answer.ensures.calls)) in
    sym (length-take-le _ _ R.1)

pub returns : goal.returns
returns g c =
    route_replied c.args.file.now c.args.x c.args.y c.args.z c.args.u c.args.v c.args.w c.from-a.result
    _ _ (from_lent c.new-t.ensures (rw (← c.from-a.ensures) at c.route-answer.ensures.calls))
    c.route_text.ensures
