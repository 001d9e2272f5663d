-- `Kept::sample_segment` keeps `Sampling`: the samples left make of the points now all of them. It stops once there is no room.
use Rattle.std.proofs.Common.{◌∙◌, ◌+◌, ap, arith, length}
use Rattle.std.specs.Float.Ieee.{binary32, sub}
use Rattle.geometry.specs.Locate.{point_along}
use Rattle.sampling.specs.Passes.{length_putting, sampled_as, sampling_ends, sampling_next, sampling_stops, segment_point, segment_samples}
use Rattle.sampling.proofs.Kept.sample_segment.Goals as goal

pub returns-then-abs : goal.returns-then-abs
returns-then-abs c =
    λ qs old e f.
    let a = c.args in
    segment_point (point_along a.line.points.now a.line.cumulative.now) a.entry a.exit c.abs.result c.abs.ensures qs a.room.points
    c.point_at.result old _ _ _ _ c.if-abs.true c.point_at.ensures e f c.push_dedup.ensures.kept c.push_dedup.ensures.written
    c.requires.1

pub returns-then-room-self : goal.returns-then-room-self
returns-then-room-self c =
    λ qs old e f.
    let a = c.args in
    let l = c.loop-k in
    let point = point_along a.line.points.now a.line.cumulative.now in
    let p = c.point_at-in-loop-k.ensures ∙ ap point c.sample_at.ensures in
    sampled_as a.room.points _ _ old _ _ (segment_samples point a.entry a.exit c.abs.result c.abs.ensures qs c.steps_of-steps.result
    c.if-abs.false c.steps_of-steps.ensures)
    (sampling_stops point a.entry (sub binary32 a.exit a.entry) c.steps_of-steps.result l.k _ old _ _ _ _ (l.invariant.sampled qs old e f)
    (rw p at c.push_dedup-in-loop-k.ensures.kept) (rw p at c.push_dedup-in-loop-k.ensures.written) a.room.points
    (omega arith) l.invariant.few c.if-room-self.true)

pub loop-k-preserved : goal.loop-k-preserved
loop-k-preserved c =
    let a = c.args in
    let l = c.loop-k in
    let point = point_along a.line.points.now a.line.cumulative.now in
    let p = c.point_at-in-loop-k.ensures ∙ ap point c.sample_at.ensures in
    record {
      few = c.if-room-self.false;
      same = ap length c.push_dedup-in-loop-k.ensures.written ∙ length_putting l.self _ l.out ∙ l.invariant.same;
      sampled = λ qs old e f. sampling_next point a.entry (sub binary32 a.exit a.entry) c.steps_of-steps.result l.k _ old _ _ _ _
          (l.invariant.sampled qs old e f) (rw p at c.push_dedup-in-loop-k.ensures.kept) (rw p at c.push_dedup-in-loop-k.ensures.written)
          c.loop-k-test.true;
    }

pub returns-else-room-self : goal.returns-else-room-self
returns-else-room-self c =
    λ qs old e f.
    let a = c.args in
    let l = c.loop-k in
    let point = point_along a.line.points.now a.line.cumulative.now in
    let p = c.point_at-in-loop-k.ensures ∙ ap point c.sample_at.ensures in
    let S = sampling_next point a.entry (sub binary32 a.exit a.entry) c.steps_of-steps.result l.k _ old _ _ _ _
    (l.invariant.sampled qs old e f) (rw p at c.push_dedup-in-loop-k.ensures.kept) (rw p at c.push_dedup-in-loop-k.ensures.written) (omega arith) in
    sampled_as a.room.points _ _ old _ _ (segment_samples point a.entry a.exit c.abs.result c.abs.ensures qs c.steps_of-steps.result
    c.if-abs.false c.steps_of-steps.ensures)
    (sampling_ends point a.entry (sub binary32 a.exit a.entry) c.steps_of-steps.result (l.k + 1) _ old _ _ S
    (omega arith) a.room.points c.if-room-self.false)
