-- `nearest_lane` answers none for an empty index and for a point that is not finite, and searches otherwise.
use mathlib.Core.Path.{sym, ◌∙◌}
use native.Mathlib.Omega.{arith}
use Rattle.network.proofs.Walk.{nothing_indexed, not_finite, found_nearest}
use Rattle.network.proofs.Spans.nearest_lane.Goals as goal

pub returns-then-self-eq0 : goal.returns-then-self-eq0
returns-then-self-eq0 c =
    let a = c.args in
    let s = a.self.now in
    nothing_indexed s.lanes.now s.points.now s.spans.now s.boxes.now a.p s.index.count c.if-self-eq0.true

pub returns-then-is_finite : goal.returns-then-is_finite
returns-then-is_finite c =
    let a = c.args in
    let s = a.self.now in
    found_nearest s.lanes.now s.points.now s.spans.now s.boxes.now a.p s.index.count s.index.grid _ (omega arith)
    (sym c.is_finite.ensures ∙ c.if-is_finite.true) s.gridded c.search.ensures

pub returns : goal.returns
returns c =
    let a = c.args in
    let s = a.self.now in
    not_finite s.lanes.now s.points.now s.spans.now s.boxes.now a.p s.index.count
    (sym c.is_finite.ensures ∙ c.if-is_finite.false)
