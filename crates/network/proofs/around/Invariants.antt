-- `around` takes in one point a turn: after the point i the box is that of the points first to i.
use mathlib.Core.Path.{◌≡◌}
use Prim.Native.Nat.{◌-◌}
use Rattle.network.specs.Lanes.{around}
use Rattle.network.proofs.around.Given as goal

abbrev pub invariant-loop-i : goal.invariant-loop-i
invariant-loop-i l = (l.b ≡ around l.line l.first (l.i - l.first))
