-- The rows are the points of each lane.
use Rattle.std.proofs.Common.{◌≡◌, ℕ, List, Float, ◌+◌, ◌*◌, ◌∙◌, ap, sym, arith, rules, get_or, length}
use Rattle.fields.specs.Fields.{f32_at, u16_at}
use Rattle.plan_format.specs.Records.{lane_at}
use Rattle.plan_format.specs.Tables.{over, point_row}
use Rattle.plan_rows.specs.Counted.{rows_map}
use Rattle.plan_rows.specs.Runs.{points_length, point_at, point_count}
use Rattle.plan_rows.proofs.load_points.Goals as goal

pub put_rows-requires-clause-room : goal.put_rows-requires-clause-room
put_rows-requires-clause-room c =
    let s = c.args.file.now in
    let all = ap length (rows_map point_row (lane_at s) c.args.lanes.now) in (
      λ (p : ℕ). point_row (lane_at s p),
      λ j h n e. let m : n ≡ 3 * u16_at s (get_or c.args.lanes.now j 0 + 11) = search rules in
          m ∙ sym (point_count s (get_or c.args.lanes.now j 0)),
      omega (arith, all, points_length s c.args.lanes.now, c.requires.2, c.requires.3),
    )

pub returns : goal.returns
returns c =
    let s = c.args.file.now in
    c.put_rows.ensures (λ (p : ℕ). point_row (lane_at s p))
    (λ j h n e. let m : n ≡ 3 * u16_at s (get_or c.args.lanes.now j 0 + 11) = search rules in
    m ∙ sym (point_count s (get_or c.args.lanes.now j 0)))
    (λ j h i x d l e. let v : x ≡ f32_at s (get_or c.args.lanes.now j 0 + 13 + 4 * i) = search rules in
    v ∙ sym (point_at s (get_or c.args.lanes.now j 0) i d l))
    ∙ ap (λ (r : List Float). over r c.args.out.now) (sym (rows_map point_row (lane_at s) c.args.lanes.now))
