-- The invariant: r is the whole part of √n or above it. Nothing is asked of the guess but its range: a better one only saves turns.
use Rattle.std.proofs.Common.{◌+◌, ◌*◌, ◌<◌}
use Rattle.float.proofs.root.whole_root.Given as goal

abbrev pub invariant-loop-r : goal.invariant-loop-r
invariant-loop-r l = (l.n < (l.r + 1) * (l.r + 1)) × (l.r < 4294967296)

abbrev pub decreases-loop-r : goal.decreases-loop-r
decreases-loop-r l = l.r
