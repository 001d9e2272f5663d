-- `write_tangents` writes front to back, and hands the direction of each segment on from the point where it starts to the one where it ends.
use Rattle.std.proofs.Common.{◌≡◌, ◌<◌}
use Rattle.geometry.specs.Polyline.{incoming_at, tangents_to}
use Rattle.geometry.specs.Over.{over}
use Rattle.geometry.proofs.write_tangents.Given as goal

abbrev pub invariant-loop-i : goal.invariant-loop-i
invariant-loop-i l = record {
  handed_on : l.i < l.n → l.incoming ≡ incoming_at l.points l.i;
  written : l.tangents ≡ over (tangents_to l.points l.n l.ends l.i) l.initial.tangents;
}
