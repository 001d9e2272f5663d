-- No number has a row at first; then each turn gives one its own.
use Rattle.std.specs.Prelude.{◌≡◌, length, replicate}
use Rattle.std.proofs.Common.{arith, rules, ◌∙◌}
use Rattle.std.proofs.lemmas.List.{get_or-replicate}
use Rattle.plan_whole.specs.ByNumber.{numbers_clear, numbers_first, numbers_next}
use Rattle.plan_whole.proofs.index_numbers.Goals as goal

pub loop-i-init : goal.loop-i-init
loop-i-init c =
    let a = c.args in
    let e : c.fill.new.self ≡ replicate (length a.rows.now) 256 = c.fill.ensures.after (λ y h. search rules) in
    numbers_first a.file.now a.part.now c.fill.new.self
    (numbers_clear c.fill.new.self (c.fill.ensures.len ∙ c.requires.1)
    (λ n l. rw e (get_or-replicate (length a.rows.now) n 256 0 (omega (arith, c.requires.1)))))

pub loop-i-preserved : goal.loop-i-preserved
loop-i-preserved c =
    let l = c.loop-i in
    numbers_next c.args.file.now c.args.part.now l.rows l.i c.u16_at-n.result l.invariant (omega arith) (omega arith)
    c.u16_at-n.ensures.0 c.u16_at-n.ensures.1
