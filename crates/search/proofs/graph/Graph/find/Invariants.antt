-- `find` is `run`: the turns left make of the state now what all make of the first one.
use Rattle.std.proofs.Common.{ℕ, ◌≡◌, ◌-◌}
use Rattle.search.specs.Loops.{run_from}
use Rattle.search.specs.Structs.{state_of}
use Rattle.search.proofs.graph.Graph.find.Given as goal

abbrev pub invariant-loop : goal.invariant-loop
invariant-loop l =
    (start : ℕ) → run_from l.self l.goal start (257 - l.counter) (state_of l.search) ≡ run_from l.self l.goal start 257 (state_of l.initial.search)
