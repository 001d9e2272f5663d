-- `write_cumulative` writes front to back: at each turn the arc lengths up to point i stand there, and `acc` is the one at i.
use Rattle.std.proofs.Common.{◌≡◌, ◌+◌}
use Rattle.geometry.specs.Polyline.{arc_at, cumulative_of}
use Rattle.geometry.specs.Over.{over}
use Rattle.geometry.proofs.write_cumulative.Given as goal

abbrev pub invariant-loop-i : goal.invariant-loop-i
invariant-loop-i l = record {
  sum : l.acc ≡ arc_at l.points l.i;
  written : l.cumulative ≡ over (cumulative_of l.points (l.i + 1)) l.initial.cumulative;
}
