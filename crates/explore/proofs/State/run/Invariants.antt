-- After some turns what is left of the counted steps makes of the state what the whole run makes of the first.
use Rattle.std.proofs.Common.{◌≡◌, ◌-◌, ◌≤◌}
use Rattle.arrayvec.specs.ArrayVec.{array_vec_len}
use Rattle.branches.specs.Held.{tables_of}
use Rattle.explore.specs.Explore.{run_from}
use Rattle.explore.specs.Held.{state_of}
use Rattle.explore.proofs.State.run.Given as goal

abbrev pub invariant-loop : goal.invariant-loop
invariant-loop l =
    record {
      placed : array_vec_len l.self.found.out ≤ l.counter;
      left :
          run_from (tables_of l.plan) l.ahead (1026 - l.counter) (state_of l.self)
          ≡ run_from (tables_of l.plan) l.ahead 1026 (state_of l.initial.self);
    }
