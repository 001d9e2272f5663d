-- `search_by` takes one ring a turn; `Searching` says where it stands.
use Rattle.std.proofs.Common.{◌+◌, ◌≤◌, false}
use Rattle.grid.specs.Ring.{Inside}
use Rattle.network.specs.Indexed.{best_in, items_of}
use Rattle.network.specs.Nearest.{none, rings_from}
use Rattle.network.proofs.Walk.{Searching}
use Rattle.network.proofs.Spans.search_by.Given as goal

abbrev pub invariant-loop-r : goal.invariant-loop-r
invariant-loop-r g l =
    (l.last ≤ 1024) × Inside l.g l.center.ix l.center.iy
    × Searching l.p (items_of l.self) l.g l.center.ix l.center.iy
    (rings_from l.p l.g (items_of l.self) l.center.ix l.center.iy (l.last + 1) 0 false none) l.last l.r
    (best_in l.self l.best)
