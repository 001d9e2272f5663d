-- `least` is `least_open`: `best` is the least of the lanes below `i`, with its cost and number.
use Rattle.search.specs.Loops.{Scan}
use Rattle.search.proofs.graph.Graph.least.Given as goal

abbrev pub invariant-loop-i : goal.invariant-loop-i
invariant-loop-i l = Scan l.lanes l.search l.i l.best l.cost l.number
