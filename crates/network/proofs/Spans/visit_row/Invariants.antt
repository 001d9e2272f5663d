-- `visit_row` visits one cell a turn.
use Rattle.std.proofs.Common.{◌≡◌, []}
use Rattle.grid.specs.Ring.{row_cells, steps}
use Rattle.network.specs.Indexed.{best_in, items_of}
use Rattle.network.specs.Nearest.{visit_ring}
use Rattle.network.proofs.Spans.visit_row.Given as goal

abbrev pub invariant-loop-ix : goal.invariant-loop-ix
invariant-loop-ix g l =
    visit_ring l.p (items_of l.self) (row_cells l.iy (steps l.ix l.ix-step l.ix-end) []) (best_in l.self l.b)
    ≡ visit_ring l.p (items_of l.self) (row_cells l.iy (steps l.initial.ix l.ix-step l.ix-end) []) (best_in l.self l.initial.b)
