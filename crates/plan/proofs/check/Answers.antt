-- Number 2, the scan, then the whole file; each refusal is the definition's.
use Rattle.std.proofs.Common.{refl}
use Rattle.std.proofs.lemmas.Result.{err_from_is_err_and}
use Rattle.plan_format.specs.Refusals.{number_of, refusal_number}
use Rattle.plan.specs.Checking.{checked_accepted, checked_large, checked_refused, checked_stopped, standing}
use Rattle.plan.proofs.check.Goals as goal

pub returns-then-file-gt65536 : goal.returns-then-file-gt65536
returns-then-file-gt65536 c = checked_large c.args.side c.args.file.now _ _ _ c.if-file-gt65536.true refl

pub returns-in_err-counts : goal.returns-in_err-counts
returns-in_err-counts c =
    let p = err_from_is_err_and c.from_residual.result c.from_residual.ensures.1 in
    let e = c.in_err-counts.field-0.0 in
    rw (p.1, p.2)
    (checked_stopped c.args.side c.args.file.now _ _ _ _ (refusal_number e) c.in_err-counts.ensures c.if-file-gt65536.false)

pub returns-in_err-check_whole : goal.returns-in_err-check_whole
returns-in_err-check_whole c =
    let p = err_from_is_err_and c.from_residual-in_err-check_whole.result c.from_residual-in_err-check_whole.ensures.1 in
    let e = c.in_err-check_whole.field-0.0 in
    let K = standing c.args.file.now _ _ refl c.in_ok-counts.ensures c.if-file-gt65536.false in
    rw (p.1, p.2)
    (checked_refused c.args.side c.args.file.now _ K (number_of e) c.in_err-check_whole.ensures.number (refusal_number e) _ _ refl)

pub returns : goal.returns
returns c =
    let K = standing c.args.file.now _ _ refl c.in_ok-counts.ensures c.if-file-gt65536.false in
    checked_accepted c.args.side c.args.file.now _ K 0 c.in_ok-check_whole.ensures.number refl _ c.in_ok-check_whole.ensures.rows _ refl
    c.in_ok-counts.ensures
