-- `expand` relaxes the successors and then the neighbours, which are the links that `out` gives.
use Rattle.std.proofs.Common.{◌∙◌, ap}
use Rattle.search.specs.LaneGraph.{LaneGraph}
use Rattle.search.specs.Loops.{expanded_out, neighbours_relaxed}
use Rattle.search.specs.Structs.{graph_of, state_of}
use Rattle.search.proofs.graph.Graph.expand.Goals as goal

pub returns : goal.returns
returns c =
    let a = c.args in
    let G : LaneGraph = graph_of a.self.now in
    let successors = ap (neighbours_relaxed G a.lane a.cost) c.relax_links-s.ensures in
    c.relax_links.ensures ∙ successors ∙ expanded_out G a.lane a.cost (state_of a.search)
