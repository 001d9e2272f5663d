-- `route_kept` makes the promise of what `lanes_route::route` ensures.
use native.Mathlib.Omega.{arith}
use Rattle.calling.specs.Calling.{point}
use Rattle.plan_format.specs.Laws.{Bytes}
use Rattle.lanes_promise.specs.Promise.{route_kept}
use Rattle.lanes_promise.proofs.route.Goals as goal

pub returns-clause-promise : goal.returns-clause-promise
returns-clause-promise c =
    let a = c.args in
    let bytes : Bytes a.file.now = (λ i. omega (arith, c.type_inv.file i)) in
    route_kept a.file.now bytes _ _ (point a.x a.y a.z) (point a.u a.v a.w) a.chain.now _ a.waypoints.now _ _ c.route.ensures
