-- Each turn writes the values of the next record; the rows that `room` knows say that they end within the table.
use Rattle.std.proofs.Common.{◌≡◌, arith, length}
use Rattle.lists.specs.Filling.{fill_end}
use Rattle.plan_rows.specs.Counted.{count_next, read_next, rows_none}
use Rattle.plan_rows.proofs.put_rows.Goals as goal

pub overflow_add-end : goal.overflow_add-end
overflow_add-end g c =
    let l = c.loop-at in
    let known = c.requires.room in
    let n = known.1 l.at-index c.loop-at-test.true _ c.count.ensures in
    let more = count_next known.0 c.args.starts.now l.at-index l.k c.count.result (l.invariant known.0 known.1).0 c.loop-at-test.true n in
    omega (arith, known.2)

pub slice_bounds-put_values-end : goal.slice_bounds-put_values-end
slice_bounds-put_values-end g c =
    let l = c.loop-at in
    let known = c.requires.room in
    let n = known.1 l.at-index c.loop-at-test.true _ c.count.ensures in
    let more = count_next known.0 c.args.starts.now l.at-index l.k c.count.result (l.invariant known.0 known.1).0 c.loop-at-test.true n in
    omega (arith, known.2, l.auto.out)

pub loop-at-preserved : goal.loop-at-preserved
loop-at-preserved g c = λ row C.
    let l = c.loop-at in
    let known = c.requires.room in
    let m = known.1 l.at-index c.loop-at-test.true _ c.count.ensures in
    let more = count_next known.0 c.args.starts.now l.at-index l.k c.count.result (l.invariant known.0 known.1).0 c.loop-at-test.true m in
    let n = C l.at-index c.loop-at-test.true _ c.count.ensures in
    let size : length c.put_values.new.out ≡ c.count.result = omega (arith, known.2, l.auto.out, c.put_values.auto.out) in (
      count_next row c.args.starts.now l.at-index l.k c.count.result (l.invariant row C).0 c.loop-at-test.true n,
      λ R.
          read_next row c.args.starts.now l.at-index c.args.out.now l.out c.put_values.new.out l.k _ c.count.result
          ((l.invariant row C).1 R) c.loop-at-test.true n size (omega arith) (omega (arith, known.2))
          (λ j d h. R l.at-index c.loop-at-test.true j _ d (omega arith) (c.put_values.ensures j d (omega (arith, c.put_values.auto.out)))),
    )

pub returns : goal.returns
returns g c = λ row C R.
    let l = c.loop-at in
    fill_end _ c.args.out.now l.out l.k _ _ ((l.invariant row C).1 R) (rows_none row c.args.starts.now l.at-index c.loop-at-test.false)
