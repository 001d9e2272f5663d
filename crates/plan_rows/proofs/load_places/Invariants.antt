-- Each turn writes the row of the next place.
use Rattle.std.proofs.Common.{ℕ, [], map, ◌*◌, drop}
use Rattle.lists.specs.Filling.{Filling}
use Rattle.plan_format.specs.Plan.{plan_of}
use Rattle.plan_format.specs.Records.{place_at}
use Rattle.plan_format.specs.Tables.{place_row, rows}
use Rattle.plan_scan.specs.Parts.{listed}
use Rattle.plan_rows.proofs.load_places.Given as goal

abbrev pub invariant-loop-i : goal.invariant-loop-i
invariant-loop-i l =
    Filling ℕ l.initial.out l.out (3 * l.i)
    (rows (place_row (plan_of l.file (listed l.lanes [] l.sections []))) (map (place_at l.file) (drop l.i l.places)))
    (rows (place_row (plan_of l.file (listed l.lanes [] l.sections []))) (map (place_at l.file) l.places))
