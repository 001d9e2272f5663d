-- `offer` considers the span where the cell's list has it.
use mathlib.Core.Path.{sym, ap, ◌∙◌}
use mathlib.Core.Bool.{Bool}
use Rattle.network.specs.Nearest.{offered}
use Rattle.network.specs.Tables.{best_of, item_in}
use Rattle.network.proofs.Walk.{holds_is}
use Rattle.network.proofs.Spans.offer.Goals as goal

pub returns-then-holds : goal.returns-then-holds
returns-then-holds g c =
    let a = c.args in
    let s = a.self.now in
    let it = item_in s.lanes.now s.points.now s.spans.now s.boxes.now s.index a.i in
    let is =
    holds_is s.lanes.now s.points.now s.cumulative.now s.spans.now s.boxes.now s.ranges.now s.index a.i
    a.cell.ix a.cell.iy (s.indexed.each a.i c.requires) in
    c.consider.ensures
    ∙ ap (λ (t : Bool). offered t a.p it (best_of s.lanes.now s.points.now a.best))
    (sym c.if-holds.true ∙ c.holds.ensures ∙ is)

pub returns : goal.returns
unfolding offered
returns g c =
    let a = c.args in
    let s = a.self.now in
    let it = item_in s.lanes.now s.points.now s.spans.now s.boxes.now s.index a.i in
    let is =
    holds_is s.lanes.now s.points.now s.cumulative.now s.spans.now s.boxes.now s.ranges.now s.index a.i
    a.cell.ix a.cell.iy (s.indexed.each a.i c.requires) in
    ap (λ (t : Bool). offered t a.p it (best_of s.lanes.now s.points.now a.best))
    (sym c.if-holds.false ∙ c.holds.ensures ∙ is)
