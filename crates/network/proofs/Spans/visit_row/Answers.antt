-- `visit_row` visits one cell a turn.
use Prim.Native.Nat.{◌+◌}
use native.Mathlib.Omega.{arith}
use Rattle.network.specs.Tables.{best_of, item_list}
use Rattle.network.proofs.Walk.{row_next, row_end}
use Rattle.network.proofs.Spans.visit_row.Goals as goal

pub loop-ix-preserved : goal.loop-ix-preserved
loop-ix-preserved g c =
    let l = c.loop-ix in
    let a = c.args in
    let s = a.self.now in
    row_next a.p (item_list s.lanes.now s.points.now s.spans.now s.boxes.now s.index s.index.count 0) a.iy
    l.ix a.columns.step a.columns.end
    (best_of s.lanes.now s.points.now l.b) _ _ c.requires.0 c.loop-ix-test.true c.visit_cell-b.ensures l.invariant

pub returns : goal.returns
returns g c =
    let l = c.loop-ix in
    let a = c.args in
    let s = a.self.now in
    row_end a.p (item_list s.lanes.now s.points.now s.spans.now s.boxes.now s.index s.index.count 0) a.iy
    l.ix a.columns.step a.columns.end
    (best_of s.lanes.now s.points.now l.b) _ c.loop-ix-test.false l.invariant

pub returns-2 : goal.returns-2
returns-2 g c =
    let l = c.loop-ix in
    let a = c.args in
    let s = a.self.now in
    let its = item_list s.lanes.now s.points.now s.spans.now s.boxes.now s.index s.index.count 0 in
    row_end a.p its a.iy (l.ix + a.columns.step) a.columns.step a.columns.end (best_of s.lanes.now s.points.now c.visit_cell-b.result) _ (omega arith)
    (row_next a.p its a.iy l.ix a.columns.step a.columns.end (best_of s.lanes.now s.points.now l.b) _ _ c.requires.0
    c.loop-ix-test.true c.visit_cell-b.ensures l.invariant)
