-- No length fits an unknown kind.
use borrow.Author.Rules.{rules}
use Rattle.std.proofs.Common.{sym}
use Rattle.std.proofs.lemmas.Result.{err_from_is_err_and}
use Rattle.plan_format.specs.Kinds.{kind_unknown}
use Rattle.plan_format.specs.Plan.{record_number}
use Rattle.plan_format.specs.Queries.{whole}
use Rattle.plan_scan.proofs.record_at.Goals as goal

pub returns-in_err-kind-clause-number : goal.returns-in_err-kind-clause-number
unfolding record_number whole
returns-in_err-kind-clause-number c =
    let p = err_from_is_err_and c.from_residual-in_err-kind.result c.from_residual-in_err-kind.ensures.1 in
    let unknown = kind_unknown c.args.file.now c.args.at c.u16_at.result c.in_ok-found.found.size _ (sym c.in_err-kind.ensures) in
    rw (p.1, p.2, unknown.1) (search rules)
