-- The counts of the answer are within the lists; the answer written out is the reply.
use Rattle.std.proofs.Common.{sym, length-take-le, arith}
use Rattle.replies.specs.Lent.{from_lent}
use Rattle.replies.specs.Replied.{advance_replied, advance_room}
use Rattle.replies.proofs.advance_reply.Goals as goal

pub overflow_mul-rows : goal.overflow_mul-rows
overflow_mul-rows g c =
    let R =
    advance_room c.args.file.now c.args.lane c.args.s c.args.offset c.args.distance c.from-a.result
    _ _ (from_lent c.new-t.ensures (rw (← c.from-a.ensures) at c.advance-answer.ensures)) in
    omega arith

pub slice_bounds-rows-end : goal.slice_bounds-rows-end
slice_bounds-rows-end g c =
    let R =
    advance_room c.args.file.now c.args.lane c.args.s c.args.offset c.args.distance c.from-a.result
    _ _ (from_lent c.new-t.ensures (rw (← c.from-a.ensures) at c.advance-answer.ensures)) in
    R.0

pub slice_bounds-rows-end-2 : goal.slice_bounds-rows-end-2
slice_bounds-rows-end-2 g c =
    let R =
    advance_room c.args.file.now c.args.lane c.args.s c.args.offset c.args.distance c.from-a.result
    _ _ (from_lent c.new-t.ensures (rw (← c.from-a.ensures) at c.advance-answer.ensures)) in
    sym (length-take-le _ _ R.0)

pub overflow_mul-metres : goal.overflow_mul-metres
overflow_mul-metres g c =
    let R =
    advance_room c.args.file.now c.args.lane c.args.s c.args.offset c.args.distance c.from-a.result
    _ _ (from_lent c.new-t.ensures (rw (← c.from-a.ensures) at c.advance-answer.ensures)) in
    omega arith

pub slice_bounds-metres-end : goal.slice_bounds-metres-end
slice_bounds-metres-end g c =
    let R =
    advance_room c.args.file.now c.args.lane c.args.s c.args.offset c.args.distance c.from-a.result
    _ _ (from_lent c.new-t.ensures (rw (← c.from-a.ensures) at c.advance-answer.ensures)) in
    R.1

pub slice_bounds-metres-end-2 : goal.slice_bounds-metres-end-2
slice_bounds-metres-end-2 g c =
    let R =
    advance_room c.args.file.now c.args.lane c.args.s c.args.offset c.args.distance c.from-a.result
    _ _ (from_lent c.new-t.ensures (rw (← c.from-a.ensures) at c.advance-answer.ensures)) in
    sym (length-take-le _ _ R.1)

pub returns : goal.returns
returns g c =
    advance_replied c.args.file.now c.args.lane c.args.s c.args.offset c.args.distance c.from-a.result
    _ _ (from_lent c.new-t.ensures (rw (← c.from-a.ensures) at c.advance-answer.ensures))
    c.advance_text.ensures
