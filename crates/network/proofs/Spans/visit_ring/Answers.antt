-- `visit_ring` visits one row a turn.
use mathlib.Core.Path.{ap, ◌∙◌}
use native.Mathlib.Omega.{arith}
use Rattle.grid.specs.declared.Run.{Run}
use Rattle.grid.specs.Ring.{ring_rows, steps}
use Rattle.network.specs.Nearest.{visit_ring}
use Rattle.network.specs.Tables.{best_of, item_list}
use Rattle.network.proofs.Walk.{ring_next, ring_end, ring_whole}
use Rattle.network.proofs.Spans.visit_ring.Goals as goal

pub loop-iy-preserved : goal.loop-iy-preserved
loop-iy-preserved g c =
    let a = c.args in
    let s = a.self.now in
    let l = c.loop-iy in
    let g = s.index.grid in
    let its = item_list s.lanes.now s.points.now s.spans.now s.boxes.now s.index s.index.count 0 in (
      l.invariant.0,
      l.invariant.1,
      omega arith,
      ring_next a.p its a.ring.center.ix a.ring.center.iy a.ring.r g.cols c.ring_rows-rows.result.end l.iy
          c.ring_columns.result (best_of s.lanes.now s.points.now l.b) _ _
          c.loop-iy-test.true l.invariant.2 (omega arith) c.ring_columns.ensures c.visit_row-b.ensures
          l.invariant.3,
    )

pub returns : goal.returns
returns g c =
    let a = c.args in
    let s = a.self.now in
    let l = c.loop-iy in
    let g = s.index.grid in
    let its = item_list s.lanes.now s.points.now s.spans.now s.boxes.now s.index s.index.count 0 in
    let b = best_of s.lanes.now s.points.now a.best in
    ring_end a.p its a.ring.center.ix a.ring.center.iy a.ring.r g.cols c.ring_rows-rows.result.end l.iy
    (best_of s.lanes.now s.points.now l.b) _ c.loop-iy-test.false l.invariant.3
    ∙ ap (λ (w : Run). visit_ring a.p its (ring_rows a.ring.center.ix a.ring.center.iy a.ring.r g.cols (steps w.first 1 w.end)) b)
    c.ring_rows-rows.ensures
    ∙ ring_whole a.p its g.cols g.rows a.ring.center.ix a.ring.center.iy a.ring.r b
