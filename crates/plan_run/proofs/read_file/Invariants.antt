-- Each turn reads at least one byte into what is left of the buffer, so that the loop ends; what was read are the bytes that the reader lost.
use Rattle.std.proofs.Common.{length, ◌-◌, ◌≤◌, ◌≡◌, take}
use Rattle.std.specs.Io.KnownBytes.{Consumes}
use Rattle.plan_run.proofs.read_file.Given as goal

abbrev pub invariant-loop-len : goal.invariant-loop-len
invariant-loop-len g l =
    (length l.file ≡ length l.initial.file) × (l.len ≤ length l.file)
    × Consumes (g.R.Read.remaining l.initial.from) (g.R.Read.remaining l.from) (take l.len l.file)

abbrev pub decreases-loop-len : goal.decreases-loop-len
decreases-loop-len g l = length l.initial.file - l.len
