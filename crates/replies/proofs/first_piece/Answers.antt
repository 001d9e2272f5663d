-- The plan line of what `check` answers is the first piece.
use Rattle.std.proofs.Common.{arith}
use Rattle.plan_format.specs.Laws.{Bytes}
use Rattle.replies.specs.Written.{first_plan, first_refused}
use Rattle.replies.proofs.first_piece.Goals as goal

pub returns-in-Ok : goal.returns-in-Ok
returns-in-Ok g c =
    let bytes : Bytes c.args.file.now = (λ i. omega (arith, c.type_inv.file i)) in
    first_plan c.args.file.now bytes c.clear.ensures c.in-Ok.c c.in-Ok.ensures.read c.plan_text.ensures

pub returns-in-Err : goal.returns-in-Err
returns-in-Err g c =
    let bytes : Bytes c.args.file.now = (λ i. omega (arith, c.type_inv.file i)) in
    first_refused c.args.file.now bytes c.clear.ensures c.in-Err.refusal c.in-Err.ensures.read c.number.ensures c.plan_text-in-Err.ensures
