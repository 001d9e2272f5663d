-- `consider` tries the box first, and measures a span whose box does not lose.
use mathlib.Core.Path.{refl, sym, ap, ◌∙◌}
use lib.Ieee.{Float, lt}
use Rattle.coords.specs.Coords.{length_squared}
use Rattle.grid.specs.declared.Aabb.{Aabb}
use Rattle.grid.specs.Grid.{dist2}
use Rattle.network.specs.Nearest.{item_of}
use Rattle.network.specs.Tables.{span_in, best_of, item_in}
use Rattle.network.proofs.Walk.{box_loses, box_stays, projected_is}
use Rattle.network.proofs.Spans.consider.Goals as goal

pub returns-then-ceiling-dist2 : goal.returns-then-ceiling-dist2
unfolding item_of span_in
returns-then-ceiling-dist2 c =
    let a = c.args in
    let s = a.self.now in
    let box = c.dist2.ensures ∙ ap (λ (b : Aabb). dist2 b a.p.x a.p.y) c.box_at.ensures in
    let lost =
    ap (λ (v : Float). lt v c.dist2.result)
    (sym (c.ceiling.ensures s.lanes.now s.points.now)) ∙ c.if-ceiling-dist2.true in
    box_loses a.p (item_in s.lanes.now s.points.now s.spans.now s.boxes.now s.index a.i)
    (best_of s.lanes.now s.points.now a.best) _ box lost

pub returns : goal.returns
unfolding item_of span_in
returns c =
    let a = c.args in
    let s = a.self.now in
    let box =
    c.dist2.ensures
    ∙ ap (λ (b : Aabb). dist2 b a.p.x a.p.y)
    c.box_at.ensures in
    let stays =
    ap (λ (v : Float). lt v c.dist2.result)
    (sym (c.ceiling.ensures s.lanes.now s.points.now))
    ∙ c.if-ceiling-dist2.false in
    let q =
    projected_is s.lanes.now s.points.now s.cumulative.now s.spans.now s.boxes.now s.ranges.now s.index.grid
    a.i a.p _
    (s.indexed.each a.i c.requires) _ refl c.project-projection.ensures in
    let d2 = c.length_squared-d2.ensures ∙ ap length_squared c.sub.ensures in
    box_stays a.p (item_in s.lanes.now s.points.now s.spans.now s.boxes.now s.index a.i)
    (best_of s.lanes.now s.points.now a.best) _ box
    _ _ _ stays q d2 (c.measure.ensures s.lanes.now s.points.now)
