-- Where more pieces follow, each begins farther on in the file, so that the loop ends. What was written and what follows are the text.
use Rattle.std.proofs.Common.{length}
use Rattle.replies.specs.Ending.{Begins, to_come}
use Rattle.plan_run.proofs.Text.{Writing}
use Rattle.plan_run.proofs.run.Given as goal

abbrev pub invariant-loop-next : goal.invariant-loop-next
invariant-loop-next g l = Begins (length l.file) l.next × Writing l.file (g.W.Write.contents l.fn.to) (g.W.Write.contents l.to) l.next

abbrev pub decreases-loop-next : goal.decreases-loop-next
decreases-loop-next g l = to_come (length l.file) l.next
