-- `pose` gets number 12 where the search finds no row.
use Rattle.std.proofs.Common.{arith, refl, ap, sym, ℕ, Option, ◌≡◌, ◌∙◌}
use Rattle.std.proofs.lemmas.Result.{err_from_is_err_and}
use Rattle.std.specs.Prelude.{unwrap_or}
use Rattle.plan_format.specs.Refusals.{ok_or_refused}
use Rattle.pose.specs.Laws.{known, unknown}
use Rattle.pose.proofs.Lanes.pose.Goals as goal

pub returns-in_err-i : goal.returns-in_err-i
returns-in_err-i c =
    let a = c.args in
    let s = a.self.now in
    let none = (ok_or_refused _ _ _ c.in_err-i.ensures.value).0 in
    let row = sym (ap (λ (o : Option ℕ). unwrap_or o 256) none) ∙ c.find_lane.ensures.row in
    let p = err_from_is_err_and c.from_residual.result c.from_residual.ensures.1 in
    rw (p.1, p.2, (ok_or_refused _ _ _ c.in_err-i.ensures.value).1)
    (unknown a.lane.0 a.s s.lanes.count s.lanes.rows.now s.lanes.points.now s.lanes.cumulative.now s.tangents.now 256 row refl _ refl)

pub returns : goal.returns
returns c =
    let a = c.args in
    let s = a.self.now in
    let few = s.polylines.few in
    let found = rw c.in_ok-i.ensures.ok_part at c.find_lane.ensures.found in
    let below = found.0 in
    let row = sym (ap (λ (o : Option ℕ). unwrap_or o 256) c.in_ok-i.ensures.ok_part) ∙ c.find_lane.ensures.row in
    known a.lane.0 a.s s.lanes.count s.lanes.rows.now s.lanes.points.now s.lanes.cumulative.now s.tangents.now c.in_ok-i.i row
    (λ q. absurd (omega arith)) c.pose_on.result c.pose_on.ensures
