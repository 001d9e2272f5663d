-- Number 1, then `check`; only an accepted file is loaded.
use Rattle.std.proofs.Common.{refl, sym, ◌∙◌}
use Rattle.std.proofs.lemmas.Result.{err_from_is_err_and}
use Rattle.plan_format.specs.Refusals.{refusal_number}
use Rattle.plan_format.specs.Tables.{tables}
use Rattle.plan.specs.Loading.{answers_accepted, answers_refused, answers_short, long_enough, short_listed}
use Rattle.plan.proofs.read_plan.Goals as goal

pub returns-then-are_short : goal.returns-then-are_short
returns-then-are_short c =
    let a = c.args in
    let t =
    tables a.lanes.now a.points.now a.ends.now a.fans.now a.links.now a.sections.now
    a.bounds.now a.stations.now a.places.now in
    answers_short a.side a.file.now t (short_listed t ∙ sym c.are_short.ensures ∙ c.if-are_short.true) _ refl

pub returns-in_err-counts : goal.returns-in_err-counts
returns-in_err-counts c =
    let p = err_from_is_err_and c.from_residual.result c.from_residual.ensures.1 in
    let e = c.in_err-counts.field-0.0 in
    let a = c.args in
    let t =
    tables a.lanes.now a.points.now a.ends.now a.fans.now a.links.now a.sections.now
    a.bounds.now a.stations.now a.places.now in
    rw (p.1, p.2)
    (answers_refused a.side a.file.now t (short_listed t ∙ sym c.are_short.ensures ∙ c.if-are_short.false) _ _ _ c.in_err-counts.ensures
    (refusal_number e))

pub load-requires : goal.load-requires
load-requires c =
    let a = c.args in
    let t =
    tables a.lanes.now a.points.now a.ends.now a.fans.now a.links.now a.sections.now
    a.bounds.now a.stations.now a.places.now in
    ((c.in_ok-counts.ensures.ready refl).1, long_enough t (short_listed t ∙ sym c.are_short.ensures ∙ c.if-are_short.false))

pub returns : goal.returns
returns c =
    let a = c.args in
    let t =
    tables a.lanes.now a.points.now a.ends.now a.fans.now a.links.now a.sections.now
    a.bounds.now a.stations.now a.places.now in
    answers_accepted a.side a.file.now t (short_listed t ∙ sym c.are_short.ensures ∙ c.if-are_short.false) _ _ _ c.in_ok-counts.ensures
    refl _ c.load.ensures
