-- Each turn writes the next row; `first` is the sum of the counts so far.
use Rattle.std.proofs.Common.{◌≡◌, ℕ, ◌+◌, ◌*◌, arith, refl}
use Rattle.lists.specs.Filling.{fill_end}
use Rattle.plan_format.specs.Plan.{lane_count}
use Rattle.plan_format.specs.Records.{lane_at}
use Rattle.plan_format.specs.Rows.{from_end, from_next}
use Rattle.plan_format.specs.Tables.{lane_row}
use Rattle.plan_rows.proofs.load_lanes.Goals as goal

pub loop-i-preserved : goal.loop-i-preserved
loop-i-preserved c =
    let l = c.loop-i in
    let row =
    rw (
      c.u16_at.ensures.0,
      c.u8_at.ensures.0,
      c.u8_at-in-loop-i.ensures.0,
      c.u8_at-in-loop-i-2.ensures.0,
      c.u16_at-n.ensures.0,
    ) at c.put_row.ensures in
    let next : 6 * (l.i + 1) ≡ 6 * l.i + 6 = omega arith in (
      omega (arith, c.u16_at-n.ensures.1, l.invariant.0),
      rw next
          (from_next lane_row lane_count (lane_at c.args.file.now) c.args.lanes.now l.i l.first c.args.out.now l.out (6 * l.i)
          l.invariant.1 c.loop-i-test.true _ 6 c.u16_at-n.result row refl c.u16_at-n.ensures.0
          (omega (arith, c.requires.0.count, c.requires.1, c.loop-i-test.true))),
    )

pub returns : goal.returns
returns c =
    let l = c.loop-i in
    fill_end ℕ c.args.out.now l.out (6 * l.i) _ _ l.invariant.1
    (from_end lane_row lane_count (lane_at c.args.file.now) c.args.lanes.now l.i l.first c.loop-i-test.false)
