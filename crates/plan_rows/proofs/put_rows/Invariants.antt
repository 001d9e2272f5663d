-- Each turn writes the values of the next record.
use Rattle.std.proofs.Common.{◌≡◌, ◌+◌, drop, length, List, ℕ}
use Rattle.lists.specs.Filling.{Filling}
use Rattle.plan_format.specs.Tables.{rows}
use Rattle.plan_rows.specs.Counted.{Counts, Reads}
use Rattle.plan_rows.proofs.put_rows.Given as goal

abbrev pub invariant-loop-at : goal.invariant-loop-at
invariant-loop-at g l =
    (row : ℕ → List _) → Counts (goal.N-post g l.count) l.starts row
    → (l.k + length (rows row (drop l.at-index l.starts)) ≡ length (rows row l.starts))
    × (Reads (goal.R-post g l.read) l.starts row → Filling _ l.initial.out l.out l.k (rows row (drop l.at-index l.starts)) (rows row l.starts))
