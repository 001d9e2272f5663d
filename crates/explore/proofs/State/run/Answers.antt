-- After some turns what is left of the counted steps makes of the state what the whole run makes of the first.
use Rattle.std.specs.Prelude.{◌≡◌, ◌-◌, false, not, reverse, length}
use Rattle.std.proofs.Common.{sym, ap, ◌∙◌, arith}
use Rattle.std.proofs.lemmas.Bool.{eqb-true, eqb-false}
use Rattle.std.proofs.lemmas.List.{nil_from_length, length-reverse}
use Rattle.branches.specs.Front.{is_empty}
use Rattle.branches.specs.Held.{tables_of}
use Rattle.explore.specs.Explore.{goes_on}
use Rattle.explore.specs.Held.{state_of}
use Rattle.explore.specs.RunLaws.{none_left, keys_full, some_left, run_none, run_next, run_ended}
use Rattle.explore.proofs.State.run.Goals as goal
use Rattle.explore.proofs.State.run.Goals.{then-is_empty-via-then-is_empty, then-is_empty-via-else-is_empty+then-self}

pub returns-then-is_empty : goal.returns-then-is_empty
returns-then-is_empty c =
    let t = tables_of c.args.plan.now in
    let f = c.loop.self.front in
    let ended = λ (more : goes_on (state_of c.loop.self) ≡ false).
    sym (run_none t c.args.ahead (state_of c.loop.self) (1026 - c.loop.counter) more) ∙ c.loop.invariant.left in
    elim c.then-is_empty.branch [
      | then-is_empty-via-then-is_empty w ↦
          let none = nil_from_length f.todo.items (eqb-true (length f.todo.items) 0 (sym c.is_empty.ensures ∙ w.if-is_empty.true)) in
          ended (none_left (reverse f.todo.items) f.full (ap reverse none))
      | then-is_empty-via-else-is_empty+then-self w ↦ ended (keys_full (not (is_empty (reverse f.todo.items))) f.full w.if-self.true)
    ]

pub loop-preserved : goal.loop-preserved
loop-preserved c =
    let t = tables_of c.args.plan.now in
    let f = c.loop.self.front in
    let some = eqb-false (length f.todo.items) 0 (sym c.is_empty.ensures ∙ c.if-is_empty.false) in
    let size = length-reverse f.todo.items in
    record {
      placed = omega (arith, c.loop.invariant.placed, c.step.ensures.one);
      left =
          run_next t c.args.ahead (state_of c.loop.self) c.loop.counter _ _ c.loop-test.true
          (some_left (reverse f.todo.items) f.full (λ e. some (sym size ∙ ap length e)) c.if-self.false) c.step.ensures.stepped
          c.loop.invariant.left;
    }

pub returns : goal.returns
returns c =
    run_ended (tables_of c.args.plan.now) c.args.ahead (state_of c.loop.self) c.loop.counter _ c.loop-test.false c.loop.invariant.left
