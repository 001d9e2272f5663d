-- `visit_ring` visits one row a turn.
use Rattle.std.proofs.Common.{◌≡◌, ◌+◌, ◌≤◌}
use Rattle.grid.specs.Ring.{ring_rows, steps}
use Rattle.network.specs.Indexed.{best_in, items_of}
use Rattle.network.specs.Nearest.{visit_ring}
use Rattle.network.proofs.Spans.visit_ring.Given as goal

abbrev pub invariant-loop-iy : goal.invariant-loop-iy
invariant-loop-iy g l =
    (l.iy-end ≤ 1024) × (l.iy-end ≤ l.ring.center.iy + l.ring.r + 1) × (l.ring.center.iy ≤ l.iy + l.ring.r)
    × (visit_ring l.p (items_of l.self) (ring_rows l.ring.center.ix l.ring.center.iy l.ring.r l.g.cols (steps l.iy 1 l.iy-end)) (best_in l.self l.b)
    ≡ visit_ring l.p (items_of l.self) (ring_rows l.ring.center.ix l.ring.center.iy l.ring.r l.g.cols (steps l.initial.iy 1 l.iy-end)) (best_in l.self l.initial.b))
