-- Each turn reads one float.
use Rattle.std.proofs.Common.{ap, sym, ◌∙◌, ◌≡◌, ◌+◌, ◌-◌, ◌*◌, arith}
use Rattle.std.specs.Float.Ieee.{lt}
use Rattle.plan_format.specs.Plan.{station}
use Rattle.plan_scan.specs.Ranges.{rising_back, rising_good, rising_none, rising_out}
use Rattle.plan_scan.proofs.are_rising.Goals as goal

pub returns-then-not-is_station : goal.returns-then-not-is_station
returns-then-not-is_station c =
    let l = c.loop-k in
    let a = c.args in
    let out = sym (c.is_station.ensures ∙ ap station c.f64_at-x.ensures) ∙ c.if-not-is_station.true in
    sym (sym l.invariant ∙ rising_out a.file.now (a.first + 8 * l.k) l.last (a.n - l.k) (omega arith) out)

pub returns-then-not-last-x : goal.returns-then-not-last-x
returns-then-not-last-x c =
    let l = c.loop-k in
    let a = c.args in
    let back = sym (ap (lt l.last) c.f64_at-x.ensures) ∙ c.if-not-last-x.true in
    sym (sym l.invariant ∙ rising_back a.file.now (a.first + 8 * l.k) l.last (a.n - l.k) (omega arith) back)

pub loop-k-preserved : goal.loop-k-preserved
loop-k-preserved c =
    let l = c.loop-k in
    let a = c.args in
    let x = c.f64_at-x.ensures in
    let fine = sym (c.is_station.ensures ∙ ap station x) ∙ c.if-not-is_station.false in
    let above = sym (ap (lt l.last) x) ∙ c.if-not-last-x.false in
    let p : a.first + 8 * (l.k + 1) ≡ a.first + 8 * l.k + 8 = omega arith in
    let q : a.n - (l.k + 1) ≡ a.n - l.k - 1 = omega arith in
    rw (p, q, x) (rising_good a.file.now (a.first + 8 * l.k) l.last (a.n - l.k) (omega arith) fine above ∙ l.invariant)

pub returns : goal.returns
returns c =
    let l = c.loop-k in
    sym (rising_none c.args.file.now (c.args.first + 8 * l.k) l.last (c.args.n - l.k) (omega arith)) ∙ l.invariant
