-- A coordinate that is not finite is refused; else the lanes nearest to the two points are rows of the tables.
use Rattle.std.proofs.Common.{length, refl}
use Rattle.network.specs.Tables.{lanes_from}
use Rattle.route.specs.Route.{refusal}
use Rattle.route.specs.Steps.{both_near, from_is, from_row, not_finite, refuses, routes_as, to_is, to_row}
use Rattle.sampling.specs.Structs.{tables_in}
use Rattle.route.proofs.route_rows.RouteRows.route.Goals as goal

pub returns-then-not-both_finite : goal.returns-then-not-both_finite
returns-then-not-both_finite c =
    let a = c.args in
    let r = a.self.now in
    let ls = lanes_from r.linked.lanes.rows.now r.linked.lanes.points.now r.linked.lanes.count 0 in
    routes_as (refusal 9) _ _ a.chain.now _ a.waypoints.now _
    (not_finite (tables_in r.linked) r.linked.lanes.count (length a.chain.now) (length a.waypoints.now) ls a.from a.to c.both_finite.result
    c.both_finite.ensures c.if-not-both_finite.true) (refuses 9 _ a.chain.now a.waypoints.now refl)

pub between-requires : goal.between-requires
between-requires c =
    let a = c.args in
    let r = a.self.now in
    let near = c.nearest_rows in (
      from_row r.linked.lanes.rows.now r.linked.lanes.points.now r.linked.lanes.count a.from a.to near.result near.ensures,
      to_row r.linked.lanes.rows.now r.linked.lanes.points.now r.linked.lanes.count a.from a.to near.result near.ensures,
    )

pub returns : goal.returns
returns c =
    let a = c.args in
    let r = a.self.now in
    let near = c.nearest_rows in
    let ls = lanes_from r.linked.lanes.rows.now r.linked.lanes.points.now r.linked.lanes.count 0 in
    routes_as _ _ _ a.chain.now _ a.waypoints.now _
    (both_near (tables_in r.linked) r.linked.lanes.count (length a.chain.now) (length a.waypoints.now) ls a.from a.to c.both_finite.result
    c.both_finite.ensures _ _ c.if-not-both_finite.false
    (from_is r.linked.lanes.rows.now r.linked.lanes.points.now r.linked.lanes.count a.from a.to near.result near.ensures)
    (to_is r.linked.lanes.rows.now r.linked.lanes.points.now r.linked.lanes.count a.from a.to near.result near.ensures)) c.between.ensures
