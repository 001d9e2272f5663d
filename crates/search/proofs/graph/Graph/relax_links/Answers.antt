-- `relax_links` relaxes its rows: those left make of the state now what all make of the first one.
use Rattle.std.proofs.Common.{◌∙◌, sym}
use Rattle.search.specs.Loops.{LinkRows, link_rows, relaxed_all, relaxed_none, relaxed_one}
use Rattle.search.specs.Structs.{state_of}
use Rattle.search.proofs.graph.Graph.relax_links.Goals as goal
use Rattle.search.proofs.graph.Graph.relax_links.Goals.{then-next-self, else-next-self}

pub loop-at-preserved : goal.loop-at-preserved
loop-at-preserved c =
    let a = c.args in
    let o = c.loop-at in
    let X : LinkRows = link_rows a.self.now.links.now a.self.now.count a.lane a.cost a.step a.first a.end in
    elim c.if-next-self.branch [
      | then-next-self w ↦
          rw (w.search-is, w.relax.ensures)
          (relaxed_one X o.at (state_of o.search) c.loop-at-test.true w.if-next-self.true ∙ o.invariant)
      | else-next-self w ↦
          rw w.search-is (relaxed_none X o.at (state_of o.search) c.loop-at-test.true w.if-next-self.false ∙ o.invariant)
    ]

pub returns : goal.returns
returns c =
    let a = c.args in
    let o = c.loop-at in
    let X : LinkRows = link_rows a.self.now.links.now a.self.now.count a.lane a.cost a.step a.first a.end in
    sym (relaxed_all X o.at (state_of o.search) c.loop-at-test.false) ∙ o.invariant
