-- Each direction has its own return; `at_end` of a branch that moves up the lane is `nearer_end`.
use Rattle.std.specs.Prelude.{◌≡◌, true, ℕ, List, Float}
use Rattle.std.proofs.Common.{refl, ap, sym, ◌∙◌, arith, eq-eqb, ne_eqb}
use Rattle.rows.specs.Rows.{direction_of}
use Rattle.beside.specs.Sides.{direction_at}
use Rattle.branches.specs.Branches.{at_end}
use Rattle.branches.specs.BranchLaws.{backward_at, forward_at}
use Rattle.sampling.specs.Sampling.{is_forward, nearer_end}
use Rattle.sampling.proofs.is_forward.Goals as goal

same : (lanes : List ℕ) (points cumulative : List Float) (i next : ℕ)
    → at_end lanes points cumulative i next true ≡ nearer_end lanes points cumulative i next
unfolding at_end nearer_end
same lanes points cumulative i next = refl

pub returns-in-Forward : goal.returns-in-Forward
unfolding is_forward
returns-in-Forward c = simp (eq-eqb _ 0 (forward_at _ (sym c.direction.ensures ∙ c.in-Forward.is)))

pub returns-in-Backward : goal.returns-in-Backward
unfolding is_forward
returns-in-Backward c =
    let is = backward_at _ (sym c.direction.ensures ∙ c.in-Backward.is) in
    let l = c.args.lanes.now in
    let other : direction_of l.rows.now c.args.i ≡ 0 → ⊥ = λ e. absurd (omega (arith, is, e)) in
    simp (ne_eqb _ 0 other, eq-eqb _ 1 is)

pub returns-in_default : goal.returns-in_default
unfolding is_forward
returns-in_default c =
    let l = c.args.lanes.now in
    simp (
      ne_eqb _ 0 (λ e. c.in_default.not-Forward (c.direction.ensures ∙ ap direction_at e)),
      ne_eqb _ 1 (λ e. c.in_default.not-Backward (c.direction.ensures ∙ ap direction_at e)),
    )
    (c.at_end.ensures ∙ same l.rows.now l.points.now l.cumulative.now c.args.i c.args.next)
