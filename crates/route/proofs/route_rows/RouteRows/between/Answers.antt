-- A missing lane is refused; two lanes give the route between them.
use Rattle.std.proofs.Common.{length, refl}
use Rattle.std.proofs.lemmas.Result.{err_from_is_err_and}
use Rattle.route.specs.Route.{refusal}
use Rattle.plan_format.specs.Refusals.{ok_or_refused}
use Rattle.route.specs.Steps.{both_found, from_none, refuses, routes_as, to_none}
use Rattle.sampling.specs.Structs.{tables_in}
use Rattle.route.proofs.route_rows.RouteRows.between.Goals as goal

pub returns-in_err-start : goal.returns-in_err-start
returns-in_err-start c =
    let a = c.args in
    let r = a.self.now in
    let p = err_from_is_err_and c.from_residual.result c.from_residual.ensures.1 in
    let m = ok_or_refused a.from _ _ c.in_err-start.ensures.value in
    routes_as (refusal 10) _ _ a.chain.now _ a.waypoints.now _
    (from_none (tables_in r.linked) r.linked.lanes.count (length a.chain.now) (length a.waypoints.now) a.from a.to m.0)
    (refuses 10 _ a.chain.now a.waypoints.now (rw (p.1, p.2, m.1) refl))

pub returns-in_err-goal : goal.returns-in_err-goal
returns-in_err-goal c =
    let a = c.args in
    let r = a.self.now in
    let p = err_from_is_err_and c.from_residual-in_err-goal.result c.from_residual-in_err-goal.ensures.1 in
    let m = ok_or_refused a.to _ _ c.in_err-goal.ensures.value in
    routes_as (refusal 10) _ _ a.chain.now _ a.waypoints.now _
    (to_none (tables_in r.linked) r.linked.lanes.count (length a.chain.now) (length a.waypoints.now) a.from a.to _ c.in_ok-start.ensures.ok_part m.0)
    (refuses 10 _ a.chain.now a.waypoints.now (rw (p.1, p.2, m.1) refl))

pub returns : goal.returns
returns c =
    let a = c.args in
    let r = a.self.now in
    routes_as _ _ _ a.chain.now _ a.waypoints.now _
    (both_found (tables_in r.linked) r.linked.lanes.count (length a.chain.now) (length a.waypoints.now) a.from a.to _ c.in_ok-start.ensures.ok_part _
    c.in_ok-goal.ensures.ok_part)
    c.find_and_follow.ensures
