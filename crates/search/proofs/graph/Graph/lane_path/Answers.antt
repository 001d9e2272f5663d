-- `lane_path` is the search: the start is expanded, `find` runs, and where it ends at the goal `reconstruct` gives the chain.
use Rattle.std.proofs.Common.{◌∙◌, ap, ap₂, arith, false}
use Rattle.std.specs.Float.{inf}
use Rattle.std.specs.Float.Ieee.{binary32, nan, of_bits}
use Rattle.plan_format.specs.Laws.{get_d_any}
use Rattle.search.specs.LaneGraph.{expanded_in}
use Rattle.search.specs.Loops.{searched_is}
use Rattle.search.specs.Search.{found}
use Rattle.search.specs.Structs.{graph_of, result_of, state_of}
use Rattle.search.proofs.graph.Graph.lane_path.Goals as goal

pub returns-in_err-search : goal.returns-in_err-search
returns-in_err-search c =
    let a = c.args in
    let g = a.self.now in
    let first = c.expand-opened.ensures ∙ ap (expanded_in (graph_of g) a.start (of_bits binary32 0)) c.new.ensures in
    ap result_of c.from_residual.ensures ∙ c.in_err-search.ensures a.start
    ∙ searched_is g a.start a.goal (state_of c.expand-opened.result) first

pub returns : goal.returns
returns c =
    let a = c.args in
    let g = a.self.now in
    let s = c.in_ok-search.search in
    let few = g.readable.few in
    let below = c.requires.1 in
    let first = c.expand-opened.ensures ∙ ap (expanded_in (graph_of g) a.start (of_bits binary32 0)) c.new.ensures in
    let cost = get_d_any s.dist a.goal nan (inf false) (omega (arith, s.dists)) in
    ap₂ found c.reconstruct.ensures cost ∙ c.in_ok-search.ensures a.start
    ∙ searched_is g a.start a.goal (state_of c.expand-opened.result) first
