-- `route` opens the plan; a refused file gets its number and leaves the lists, an accepted one is routed over its rows.
use Rattle.std.proofs.Common.{arith, refl, Ok}
use Rattle.plan_format.specs.Laws.{Bytes}
use Rattle.plan_format.specs.Refusals.{read_by}
use Rattle.route.specs.Structs.{answered}
use Rattle.calling.specs.Calling.{point}
use Rattle.lanes_route.proofs.Fronts.{route_calls, route_fronts}
use Rattle.lanes_route.proofs.route.Goals as goal

pub route_from-requires : goal.route_from-requires
route_from-requires c =
    let a = c.args in
    let bytes : Bytes a.file.now = (λ i. omega (arith, c.type_inv.file i)) in
    route_fronts 0 a.file.now bytes (read_by (Ok c.in_ok-counts.counts)) _ _ c.in_ok-counts.ensures refl

pub returns : goal.returns
returns c =
    let a = c.args in
    let bytes : Bytes a.file.now = (λ i. omega (arith, c.type_inv.file i)) in
    route_calls 0 a.file.now bytes (read_by (Ok c.in_ok-counts.counts)) _ _ c.in_ok-counts.ensures refl (point a.x a.y a.z)
    (point a.u a.v a.w) a.chain.now _ a.waypoints.now _ (answered c.route_from.result) c.route_from.ensures
