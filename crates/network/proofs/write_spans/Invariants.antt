-- `write_spans` takes one lane a turn; `Adding` says where it stands.
use Rattle.network.proofs.Adding.{Adding}
use Rattle.network.proofs.write_spans.Given as goal

abbrev pub invariant-loop-row : goal.invariant-loop-row
invariant-loop-row l =
    Adding l.lanes l.points l.drives l.n l.initial.spans l.initial.boxes l.row l.k l.spans l.boxes
