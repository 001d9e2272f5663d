-- Each turn writes the next row; `first` is the sum of the counts so far.
use Rattle.std.proofs.Common.{ℕ, map, ◌*◌, ◌≤◌, drop}
use Rattle.lists.specs.Filling.{Filling}
use Rattle.plan_format.specs.Plan.{lane_count}
use Rattle.plan_format.specs.Records.{lane_at}
use Rattle.plan_format.specs.Tables.{lane_row, rows_from}
use Rattle.plan_rows.proofs.load_lanes.Given as goal

abbrev pub invariant-loop-i : goal.invariant-loop-i
invariant-loop-i l =
    (l.first ≤ 65536 * l.i) × Filling ℕ l.initial.out l.out (6 * l.i)
    (rows_from lane_row lane_count l.first (map (lane_at l.file) (drop l.i l.lanes)))
    (rows_from lane_row lane_count 0 (map (lane_at l.file) l.lanes))
