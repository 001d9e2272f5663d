-- `visit_cell` offers one span a turn.
use Rattle.std.proofs.Common.{◌≡◌, ◌-◌}
use Rattle.network.specs.Indexed.{best_in}
use Rattle.network.specs.Nearest.{visit_cell}
use Rattle.network.specs.Tables.{item_list}
use Rattle.network.proofs.Spans.visit_cell.Given as goal

abbrev pub invariant-loop-i : goal.invariant-loop-i
invariant-loop-i g l =
    let s = l.self in
    let n = s.index.count in
    visit_cell l.p l.cell (item_list s.lanes.now s.points.now s.spans.now s.boxes.now s.index (n - l.i) l.i) (best_in s l.b)
    ≡ visit_cell l.p l.cell (item_list s.lanes.now s.points.now s.spans.now s.boxes.now s.index n 0) (best_in s l.initial.b)
