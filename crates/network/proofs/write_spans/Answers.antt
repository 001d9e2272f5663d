-- `write_spans` takes one lane a turn; `Adding` says where it stands.
use Rattle.network.proofs.Adding.{add_room, add_next, add_end}
use Rattle.network.proofs.write_spans.Goals as goal

pub add_lane-k-requires : goal.add_lane-k-requires
add_lane-k-requires c =
    let taken = c.loop-row-test.true in
    (c.requires.0.each c.loop-row.row taken, add_room _ _ _ _ _ _ c.loop-row.invariant taken c.requires.1)

pub loop-row-preserved : goal.loop-row-preserved
loop-row-preserved c =
    let taken = c.loop-row-test.true in
    add_next _ _ _ _ _ _ c.loop-row.invariant _ _ _ taken c.add_lane-k.ensures

pub returns : goal.returns
returns c = add_end _ _ _ _ _ _ c.loop-row.invariant c.loop-row-test.false
