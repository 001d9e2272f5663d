-- `visit_cell` offers one span a turn.
use mathlib.Core.Path.{◌≡◌}
use Prim.Native.Nat.{◌+◌, ◌-◌}
use native.Mathlib.Omega.{arith}
use Rattle.network.specs.Tables.{best_of}
use Rattle.network.proofs.Walk.{cell_next, cell_end}
use Rattle.network.proofs.Spans.visit_cell.Goals as goal

pub loop-i-preserved : goal.loop-i-preserved
loop-i-preserved g c =
    let l = c.loop-i in
    let a = c.args in
    let s = a.self.now in
    let n = s.index.count in
    let less : n - (l.i + 1) ≡ n - l.i - 1 = omega arith in
    rw less
    (cell_next s.lanes.now s.points.now s.cumulative.now s.spans.now s.boxes.now s.ranges.now s.index
    a.p a.cell (n - l.i) l.i (best_of s.lanes.now s.points.now l.b) _ _ (omega arith) c.offer-b.ensures l.invariant)

pub returns : goal.returns
returns g c =
    let l = c.loop-i in
    let a = c.args in
    let s = a.self.now in
    cell_end s.lanes.now s.points.now s.cumulative.now s.spans.now s.boxes.now s.ranges.now s.index a.p
    a.cell
    (s.index.count - l.i) l.i (best_of s.lanes.now s.points.now l.b) _ (omega arith) l.invariant
