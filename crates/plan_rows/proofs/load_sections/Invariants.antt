-- Each turn writes the next row; `first` is the sum of the counts so far.
use Rattle.std.proofs.Common.{ℕ, map, ◌*◌, ◌≤◌, drop}
use Rattle.lists.specs.Filling.{Filling}
use Rattle.plan_format.specs.Plan.{section_count}
use Rattle.plan_format.specs.Records.{section_at}
use Rattle.plan_format.specs.Tables.{section_row, rows_from}
use Rattle.plan_rows.proofs.load_sections.Given as goal

abbrev pub invariant-loop-i : goal.invariant-loop-i
invariant-loop-i l =
    (l.first ≤ 65536 * l.i) × Filling ℕ l.initial.out l.out (4 * l.i)
    (rows_from section_row section_count l.first (map (section_at l.file) (drop l.i l.sections)))
    (rows_from section_row section_count 0 (map (section_at l.file) l.sections))
