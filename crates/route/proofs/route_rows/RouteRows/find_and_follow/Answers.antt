-- No path; else the path is followed.
use Rattle.std.proofs.Common.{ap, length, refl, subst, sym, ◌∙◌}
use Rattle.std.proofs.lemmas.Result.{err_from_is_err_and}
use Rattle.route.specs.PathRows.{OfPath, path_rows}
use Rattle.route.specs.Route.{refusal, suffices}
use Rattle.plan_format.specs.Refusals.{ok_or_refused}
use Rattle.route.specs.Steps.{path_refused, refuses, routes_as}
use Rattle.route.specs.Structs.{graph_in}
use Rattle.sampling.specs.Structs.{tables_in}
use Rattle.search.specs.Structs.{result_of}
use Rattle.route.proofs.route_rows.RouteRows.find_and_follow.Goals as goal

pub returns-in_err-path : goal.returns-in_err-path
returns-in_err-path c =
    let a = c.args in
    let r = a.self.now in
    let p = err_from_is_err_and c.from_residual.result c.from_residual.ensures.1 in
    let m = ok_or_refused c.lane_path.result _ _ c.in_err-path.ensures.value in
    let none = sym c.lane_path.ensures ∙ ap result_of m.0 in
    routes_as (refusal 11) _ _ a.chain.now _ a.waypoints.now _
    (path_refused (tables_in r.linked) r.linked.lanes.count (length a.chain.now) (length a.waypoints.now) a.start.projection.s a.goal.projection.s _ none)
    (refuses 11 _ a.chain.now a.waypoints.now (rw (p.1, p.2, m.1) refl))

pub invariant_of-drive : goal.invariant_of-drive
invariant_of-drive c =
    let a = c.args in
    let r = a.self.now in
    let lanes = r.linked.lanes.rows.now in
    let rows =
    path_rows (suffices lanes a.start.row a.start.projection.s a.goal.row a.goal.projection.s) lanes (graph_in r) a.start.row a.goal.row c.requires.0
    c.requires.1 in
    let found = sym c.lane_path.ensures ∙ ap result_of c.in_ok-path.ensures.ok_part in
    record { in_rows = rw c.deref.ensures.0 (subst (OfPath r.linked.lanes.count) found rows) }

pub returns : goal.returns
returns c =
    let found = sym c.lane_path.ensures ∙ ap result_of c.in_ok-path.ensures.ok_part in
    rw found (rw c.deref.ensures.0 at c.follow.ensures)
