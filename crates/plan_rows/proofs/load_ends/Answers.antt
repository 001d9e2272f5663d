-- The rows are the tangents of each lane, six floats.
use Rattle.std.proofs.Common.{◌≡◌, ℕ, List, Float, ◌∙◌, ap, sym, arith, rules, get_or}
use Rattle.lists.specs.Rows.{rows_length}
use Rattle.plan_format.specs.Records.{lane_at}
use Rattle.plan_format.specs.Tables.{over, end_row}
use Rattle.plan_rows.specs.Counted.{rows_map}
use Rattle.plan_rows.specs.Runs.{end_length}
use Rattle.plan_rows.proofs.load_ends.Goals as goal

pub put_rows-requires-clause-room : goal.put_rows-requires-clause-room
put_rows-requires-clause-room c =
    let s = c.args.file.now in (
      λ (p : ℕ). end_row (lane_at s p),
      λ j h n e. let m : n ≡ 6 = search rules in m ∙ sym (end_length s (get_or c.args.lanes.now j 0)),
      omega (arith, rows_length (λ (p : ℕ). end_row (lane_at s p)) 6 (end_length s) c.args.lanes.now, c.requires.0.count, c.requires.2),
    )

pub returns : goal.returns
returns c =
    let s = c.args.file.now in
    c.put_rows.ensures (λ (p : ℕ). end_row (lane_at s p))
    (λ j h n e. let m : n ≡ 6 = search rules in m ∙ sym (end_length s (get_or c.args.lanes.now j 0)))
    (λ j h i x d l e. let v : x ≡ get_or (end_row (lane_at s (get_or c.args.lanes.now j 0))) i d = search rules in v)
    ∙ ap (λ (r : List Float). over r c.args.out.now) (sym (rows_map end_row (lane_at s) c.args.lanes.now))
