-- `settle` is `settled`: the lane's mark is set, and its links are relaxed at its distance.
use Rattle.std.proofs.Common.{◌∙◌, arith}
use Rattle.search.specs.Loops.{marked_is, settled_expanded}
use Rattle.search.specs.Search.{marked}
use Rattle.search.specs.Structs.{graph_of}
use Rattle.search.proofs.graph.Graph.settle.Goals as goal

pub returns : goal.returns
unfolding marked
returns c =
    let a = c.args in
    let few = a.self.now.readable.few in
    c.expand.ensures ∙ (rw marked_is (settled_expanded (graph_of a.self.now) a.u a.search (omega arith)))
