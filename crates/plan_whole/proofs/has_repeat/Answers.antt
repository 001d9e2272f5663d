-- What is left of the keys repeats one exactly when all do.
use Rattle.std.proofs.Common.{rules, sym, ◌∙◌}
use Rattle.plan_whole.specs.Keys.{repeat_end, repeat_here, repeat_later}
use Rattle.plan_whole.proofs.has_repeat.Goals as goal

pub returns-then-holds : goal.returns-then-holds
returns-then-holds c =
    let l = c.loop-key in
    sym (sym l.invariant ∙ repeat_here l.rest.now c.in-Some.later.now c.in-Some.key.now (search rules)
    (sym c.holds.ensures ∙ c.if-holds.true))

pub loop-key-preserved : goal.loop-key-preserved
loop-key-preserved c =
    let l = c.loop-key in
    repeat_later l.rest.now c.in-Some.later.now c.in-Some.key.now (search rules)
    (sym c.holds.ensures ∙ c.if-holds.false) ∙ l.invariant

pub returns : goal.returns
returns c =
    let l = c.loop-key in
    sym (sym l.invariant ∙ repeat_end l.rest.now (search rules))
