-- The places that were not looked at yet are told apart as all are.
use Rattle.std.proofs.Common.{◌≡◌}
use Rattle.std.specs.Prelude.{take, reverse}
use Rattle.std.specs.List.{list_any}
use Rattle.ends.specs.Ends.{placing_of, same_placing}
use Rattle.ends.proofs.Found.holds.Given as goal

abbrev pub invariant-loop-i : goal.invariant-loop-i
invariant-loop-i l =
    list_any (λ a. same_placing (placing_of a) l.k) (reverse (take l.i l.out)) ≡ list_any (λ a. same_placing (placing_of a) l.k) (reverse l.out)
