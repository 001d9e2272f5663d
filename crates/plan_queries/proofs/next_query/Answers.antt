-- Each turn passes one record, of the file itself.
use Rattle.std.proofs.Common.{ap, ◌∙◌}
use Rattle.plan_format.specs.Queries.{is_query}
use Rattle.plan_queries.specs.Seeking.{seek_end, seek_found, seek_misfit}
use Rattle.plan_queries.proofs.next_query.Goals as goal

pub returns-in-Some-query_kind : goal.returns-in-Some-query_kind
returns-in-Some-query_kind c =
    let w = c.in-Some.ensures in
    let k = c.in-Some-query_kind.ensures in
    let f = c.in_ok-as_kind-in-Some-query_kind.ensures in
    rw (c.next.ensures, w.1)
    (seek_found c.args.file.now c.args.first c.loop-found.at c.loop-found.invariant w.3 _ c.in-Some.found.size (k.0 ∙ c.u16_at.ensures.0) w.2
    (ap is_query k.0 ∙ k.1)
    (rw (w.0, w.1) at f.2)
    c.query_at-query.result
    (rw (f.0, w.0, w.1) at c.query_at-query.ensures))

pub returns-in_err-as_kind-in-Some-query_kind : goal.returns-in_err-as_kind-in-Some-query_kind
returns-in_err-as_kind-in-Some-query_kind c =
    let w = c.in-Some.ensures in
    let k = c.in-Some-query_kind.ensures in
    rw c.from_residual.ensures
    (seek_misfit c.args.file.now c.args.first c.loop-found.at c.loop-found.invariant w.3 _ c.in-Some.found.size (k.0 ∙ c.u16_at.ensures.0) w.2
    (ap is_query k.0 ∙ k.1)
    (rw (w.0, w.1) at c.in_err-as_kind-in-Some-query_kind.ensures))

pub returns : goal.returns
returns c = seek_end c.args.file.now c.args.first c.loop-found.at c.loop-found.invariant c.in_default.ensures
