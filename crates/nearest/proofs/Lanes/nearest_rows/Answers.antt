-- `nearest_rows` builds the index, and asks it once for each point.
use Rattle.std.proofs.Common.{arith, ◌∙◌}
use Rattle.std.specs.Prelude.{None}
use Rattle.std.proofs.lemmas.List.{length-replicate}
use Rattle.nearest.proofs.Asking.{answered_next, asked, may_ask}
use Rattle.nearest.proofs.Lanes.nearest_rows.Goals as goal

pub invariant_of-spans : goal.invariant_of-spans
invariant_of-spans g c =
    let s = c.args.self.now in
    let asks = may_ask _ _ _ _ s.searchable _ _ _ _ _ _ _ c.driving-index.ensures (omega arith) (omega arith) (omega arith) in
    record { indexed = asks.0; gridded = asks.1 }

pub loop-i-preserved : goal.loop-i-preserved
loop-i-preserved g c =
    let s = c.args.self.now in
    let l = c.loop-i in
    answered_next _ _ _ _ _ l.found l.i _ _ (omega arith) (length-replicate g.row.N None ∙ (omega arith))
    (asked _ _ _ _ s.searchable _ _ _ _ _ _ _ c.driving-index.ensures (omega arith) (omega arith) (omega arith) _ _ c.nearest_lane.ensures)
    l.invariant
