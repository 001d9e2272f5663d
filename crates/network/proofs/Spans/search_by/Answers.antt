-- `search_by` takes one ring a turn; `Searching` says where it stands.
use mathlib.Core.Path.{sym, ◌∙◌}
use native.Mathlib.Omega.{arith}
use Rattle.grid.proofs.Sides.{inside}
use Rattle.network.specs.Tables.{item_list, span_list}
use Rattle.network.proofs.Walk.{search_start, search_enough, search_outgrown, search_next, search_over, searched_is}
use Rattle.network.proofs.Spans.search_by.Goals as goal

pub loop-r-init : goal.loop-r-init
loop-r-init g c =
    let a = c.args in
    let s = a.self.now in
    let i = inside s.index.grid (s.indexed.sides c.requires) a.p.x a.p.y in
    let sides = s.indexed.sides c.requires in
    let last = c.max-last.ensures in (
      omega arith,
      record { col = rw c.col.ensures i.col; row = rw c.row.ensures i.row },
      search_start a.p (item_list s.lanes.now s.points.now s.spans.now s.boxes.now s.index s.index.count 0)
          s.index.grid _ _ _,
    )

pub returns-then-enough : goal.returns-then-enough
returns-then-enough g c =
    let a = c.args in
    let s = a.self.now in
    let l = c.loop-r in
    search_enough _ _ _ _ _ _ l.invariant.2 (sym (c.enough.ensures s.lanes.now s.points.now) ∙ c.if-enough.true)
    ∙ searched_is a.p s.index.grid
    (span_list s.lanes.now s.points.now s.spans.now s.boxes.now s.index.count 0) _ _ _
    c.col.ensures c.row.ensures c.max-last.ensures

pub returns-then-outgrown : goal.returns-then-outgrown
returns-then-outgrown g c =
    let a = c.args in
    let s = a.self.now in
    let l = c.loop-r in
    search_outgrown _ _ _ _ _ _ l.invariant.2 c.loop-r-test.true
    (sym (c.enough.ensures s.lanes.now s.points.now) ∙ c.if-enough.false)
    (sym c.outgrown.ensures ∙ c.if-outgrown.true)
    ∙ searched_is a.p s.index.grid
    (span_list s.lanes.now s.points.now s.spans.now s.boxes.now s.index.count 0) _ _ _
    c.col.ensures c.row.ensures c.max-last.ensures

pub loop-r-preserved : goal.loop-r-preserved
loop-r-preserved g c =
    let a = c.args in
    let s = a.self.now in
    let l = c.loop-r in (
      l.invariant.0,
      l.invariant.1,
      search_next _ _ _ _ _ _ l.invariant.2 _ c.loop-r-test.true
          (sym (c.enough.ensures s.lanes.now s.points.now) ∙ c.if-enough.false)
          (sym c.outgrown.ensures ∙ c.if-outgrown.false) c.visit_ring-best.ensures,
    )

pub returns-else-outgrown : goal.returns-else-outgrown
returns-else-outgrown g c =
    let a = c.args in
    let s = a.self.now in
    let l = c.loop-r in
    let next =
    search_next _ _ _ _ _ _ l.invariant.2 _ c.loop-r-test.true
    (sym (c.enough.ensures s.lanes.now s.points.now) ∙ c.if-enough.false)
    (sym c.outgrown.ensures ∙ c.if-outgrown.false) c.visit_ring-best.ensures in
    search_over _ _ _ _ _ _ next (omega arith)
    ∙ searched_is a.p s.index.grid
    (span_list s.lanes.now s.points.now s.spans.now s.boxes.now s.index.count 0) _ _ _
    c.col.ensures c.row.ensures c.max-last.ensures
