-- Each turn adds its piece to what is written.
use Rattle.std.proofs.Common.{Option, ℕ, ◌<◌, length, subst, sym}
use Rattle.replies.specs.Ending.{first_start, next_less, to_come}
use Rattle.plan_run.proofs.Text.{begun, further}
use Rattle.plan_run.proofs.run.Goals as goal

pub loop-next-init : goal.loop-next-init
loop-next-init g c =
    let W = c.first_piece-next.ensures in
    (first_start c.args.file.now W, begun c.args.file.now W c.as_slice.ensures.value c.in_ok-write_all.ensures.bytes)

pub loop-next-smaller : goal.loop-next-smaller
loop-next-smaller g c =
    let n = length c.args.file.now in
    let so_far = rw c.in-Some.is at c.loop-next.invariant in
    subst (λ (r : Option ℕ). to_come n c.next_piece-next.result < to_come n r) (sym c.in-Some.is)
    (next_less c.args.file.now c.in-Some.at c.next_piece-next.ensures so_far.0).1

pub loop-next-preserved : goal.loop-next-preserved
loop-next-preserved g c =
    let W = c.next_piece-next.ensures in
    let so_far = rw c.in-Some.is at c.loop-next.invariant in (
      (next_less c.args.file.now c.in-Some.at W so_far.0).0,
      further c.args.file.now so_far.1 W c.as_slice-in-Some.ensures.value c.in_ok-write_all-2.ensures.bytes,
    )
