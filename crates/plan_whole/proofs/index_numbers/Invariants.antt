-- From the last record to the first, so each turn is one clause of the definition's search.
use Rattle.std.proofs.Common.{map, drop}
use Rattle.plan_whole.specs.ByNumber.{ByNumber}
use Rattle.plan_whole.specs.Keys.{key_at}
use Rattle.plan_whole.proofs.index_numbers.Given as goal

abbrev pub invariant-loop-i : goal.invariant-loop-i
invariant-loop-i l = ByNumber l.rows (map (key_at l.file 0) (drop l.i l.part)) l.i
