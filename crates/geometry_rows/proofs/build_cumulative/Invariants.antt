-- `build_cumulative` writes lane by lane: at each turn the rows of the lanes so far stand there.
use mathlib.Core.Path.{◌≡◌}
use lib.ListN.{length}
use Rattle.geometry.specs.Over.{over}
use Rattle.geometry_rows.specs.Rows.{cumulative_rows}
use Rattle.geometry_rows.proofs.build_cumulative.Given as goal

abbrev pub invariant-loop-i : goal.invariant-loop-i
invariant-loop-i l = (length l.cumulative ≡ length l.initial.cumulative) ×
    (l.cumulative ≡ over (cumulative_rows l.lanes l.points l.i) l.initial.cumulative)
