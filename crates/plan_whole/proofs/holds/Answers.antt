-- What was found, or else what is left of the keys holds x, exactly when the keys hold x.
use Rattle.std.specs.Prelude.{List, Bool, true, false, ◌||◌, drop, eqb, get_or, ◌+◌}
use Rattle.std.proofs.Common.{arith, ap, refl, sym, ◌≡◌, ◌∙◌, ℕ}
use Rattle.std.proofs.Math.Bool.{or_assoc}
use Rattle.plan_format.specs.Laws.{any_end, drop_next}
use Rattle.plan_format.specs.Plan.{any, holds}
use Rattle.plan_whole.proofs.holds.Goals as goal

none : (a b : Bool) → b ≡ false → (a || b) ≡ a
none true b e = refl
none false b e = e

pub loop-key-preserved : goal.loop-key-preserved
unfolding any
loop-key-preserved c =
    let l = c.loop-key in
    let a = c.args in
    or_assoc l.found (eqb (get_or a.keys.now l.key-index 0) a.x) (holds a.x (drop (l.key-index + 1) a.keys.now))
    ∙ ap (λ (ys : List ℕ). l.found || holds a.x ys) (sym (drop_next a.keys.now l.key-index 0 (omega arith)))
    ∙ l.invariant

pub returns : goal.returns
returns c =
    let l = c.loop-key in
    let a = c.args in
    sym (none l.found _ (any_end (λ (y : ℕ). eqb y a.x) a.keys.now l.key-index 0 (omega arith))) ∙ l.invariant
