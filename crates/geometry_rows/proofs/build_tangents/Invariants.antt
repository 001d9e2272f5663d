-- `build_tangents` writes lane by lane: at each turn the rows of the lanes so far stand there.
use mathlib.Core.Path.{◌≡◌}
use lib.ListN.{length}
use Rattle.geometry.specs.Over.{over}
use Rattle.geometry_rows.specs.Rows.{tangent_rows}
use Rattle.geometry_rows.proofs.build_tangents.Given as goal

abbrev pub invariant-loop-i : goal.invariant-loop-i
invariant-loop-i l = (length l.tangents ≡ length l.initial.tangents) ×
    (l.tangents ≡ over (tangent_rows l.lanes l.points l.ends l.i) l.initial.tangents)
