-- Each turn is one step of the walk.
use Rattle.std.proofs.Common.{sym, arith}
use Rattle.std.proofs.lemmas.Result.{err_from_is_err_and}
use Rattle.plan_format.specs.Refusals.{number_of, refusal_number}
use Rattle.plan_scan.specs.Scan.{room_for, scan_end, scan_next, scan_start, scan_stop}
use Rattle.plan_scan.proofs.scan.Goals as goal

pub loop-at-init : goal.loop-at-init
loop-at-init c = scan_start c.args.file.now c.clear.new.self c.clear.ensures

pub returns-in_err-record : goal.returns-in_err-record
returns-in_err-record c =
    let p = err_from_is_err_and c.from_residual.result c.from_residual.ensures.1 in
    let l = c.loop-at in
    let e = c.in_err-record.field-0.0 in
    rw (p.1, p.2)
    (scan_stop c.args.file.now l.at l.starts l.invariant c.loop-at-test.true (number_of e) c.in_err-record.ensures.number
    (refusal_number e) l.starts)

pub add-requires : goal.add-requires
add-requires c =
    let l = c.loop-at in
    room_for c.args.file.now l.at l.starts l.invariant (sym c.in_ok-record.ensures.number) c.in_ok-record.record c.in_ok-record.ensures.read

pub loop-at-preserved : goal.loop-at-preserved
loop-at-preserved c =
    let l = c.loop-at in
    scan_next c.args.file.now l.at l.starts l.invariant (sym c.in_ok-record.ensures.number) c.in_ok-record.record
    c.in_ok-record.ensures.read c.loop-at-test.true c.add.new.self c.add.ensures

pub returns : goal.returns
returns c =
    let l = c.loop-at in
    rw c.counts.ensures (scan_end c.args.file.now l.at l.starts l.invariant (omega arith))
