-- The chain or the points do not fit; else both lists are written.
use Rattle.std.proofs.Common.{length, refl, arith}
use Rattle.search.specs.Search.{found}
use Rattle.route.specs.Route.{followed, refusal}
use Rattle.route.specs.Steps.{chain_over, count_fits, count_over, points_over, refuses, route_answer, route_fits, routes_as}
use Rattle.sampling.specs.Structs.{tables_in}
use Rattle.route.proofs.route_rows.Drive.follow.Goals as goal

pub returns-then-chain-self : goal.returns-then-chain-self
returns-then-chain-self c =
    let a = c.args in
    let T = tables_in a.self.now.linked in
    routes_as (refusal 14) _ _ a.chain.now _ a.waypoints.now _
    (chain_over T a.self.now.path.now a.cost a.self.now.s a.self.now.t (length a.chain.now) (length a.waypoints.now) c.if-chain-self.true)
    (refuses 14 _ a.chain.now a.waypoints.now refl)

pub returns-then-room-count : goal.returns-then-room-count
returns-then-room-count c =
    let a = c.args in
    let T = tables_in a.self.now.linked in
    routes_as (refusal 14) _ _ a.chain.now _ a.waypoints.now _
    (points_over T a.self.now.path.now a.cost a.self.now.s a.self.now.t (length a.chain.now) (length a.waypoints.now)
    (rw c.of-room.ensures at (count_over _ _ _ c.count_points-count.ensures c.if-room-count.true))) (refuses 14 _ a.chain.now a.waypoints.now refl)

pub write_points-requires : goal.write_points-requires
write_points-requires c =
    let e = count_fits _ _ _ c.count_points-count.ensures c.if-room-count.false in
    omega (arith, e, c.of-room.ensures, c.if-room-count.false)

pub returns : goal.returns
unfolding followed
returns c =
    let a = c.args in
    let T = tables_in a.self.now.linked in
    let e = count_fits _ _ _ c.count_points-count.ensures c.if-room-count.false in
    routes_as (followed T a.self.now.s a.self.now.t (found a.self.now.path.now a.cost)) _ _ a.chain.now _ a.waypoints.now _
    (route_fits T a.self.now.path.now a.cost a.self.now.s a.self.now.t (length a.chain.now) (length a.waypoints.now) c.if-chain-self.false
    (omega (arith, e, c.of-room.ensures, c.if-room-count.false)))
    (record {
      answer_is = route_answer T a.self.now.path.now a.cost a.self.now.s a.self.now.t c.count_points-count.result e;
      chain_is = c.write_chain.ensures;
      waypoints_is = c.write_points.ensures;
    })
