-- `relax_links` relaxes its rows: those left make of the state now what all make of the first one.
use Rattle.std.proofs.Common.{◌≡◌}
use Rattle.search.specs.Loops.{expanded_from, link_rows}
use Rattle.search.specs.Structs.{state_of}
use Rattle.search.proofs.graph.Graph.relax_links.Given as goal

abbrev pub invariant-loop-at : goal.invariant-loop-at
invariant-loop-at l =
    let X = link_rows l.links l.self.count l.lane l.cost l.step l.first l.end in
    expanded_from X l.at (state_of l.search) ≡ expanded_from X l.first (state_of l.initial.search)
