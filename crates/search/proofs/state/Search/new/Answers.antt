-- `new` is the blank state.
use Rattle.std.proofs.Common.{ℕ, arith}
use Rattle.std.specs.Float.Ieee.{of_bits}
use Rattle.search.specs.Loops.{marks_none, replicate_all}
use Rattle.search.specs.Search.{blank}
use Rattle.search.proofs.state.Search.new.Goals as goal

pub invariant_of-result-clause-inside : goal.invariant_of-result-clause-inside
invariant_of-result-clause-inside c k = omega (arith, replicate_all {C = ℕ} 256 k 0)

pub returns : goal.returns
unfolding blank of_bits
returns c = rw marks_none
