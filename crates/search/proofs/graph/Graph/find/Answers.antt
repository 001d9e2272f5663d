-- `find` is `run`: the turns left make of the state now what all make of the first one.
use Rattle.std.proofs.Common.{◌≡◌, ◌≢◌, ◌∙◌, ◌+◌, ◌-◌, suc, sym, arith}
use Rattle.search.specs.Loops.{run_goal, run_next, run_none, run_spent}
use Rattle.search.specs.Structs.{least_in, state_of}
use Rattle.search.proofs.graph.Graph.find.Goals as goal

pub returns-in_err-u : goal.returns-in_err-u
returns-in_err-u c start =
    let o = c.loop in
    let k : 257 - o.counter ≡ suc (256 - o.counter) = omega arith in
    let ends = run_none c.args.self.now c.args.goal start (256 - o.counter) (state_of o.search) (sym c.in_err-u.ensures.row) in
    rw c.from_residual.ensures (sym ends ∙ (rw k at (o.invariant start)))

pub returns-then-u-goal : goal.returns-then-u-goal
returns-then-u-goal c start =
    let o = c.loop in
    let k : 257 - o.counter ≡ suc (256 - o.counter) = omega arith in
    let few = c.args.self.now.readable.few in
    let below = c.in_ok-u.ensures.within in
    let row = c.in_ok-u.ensures.row in
    let here = c.if-u-goal.true in
    let some : least_in c.args.self.now (state_of o.search) ≢ 256 = omega arith in
    let ends = run_goal c.args.self.now c.args.goal start (256 - o.counter) (state_of o.search) some (sym row ∙ here) in
    sym ends ∙ (rw k at (o.invariant start))

pub loop-preserved : goal.loop-preserved
loop-preserved c start =
    let o = c.loop in
    let k : 257 - o.counter ≡ suc (257 - (o.counter + 1)) = omega arith in
    let few = c.args.self.now.readable.few in
    let below = c.in_ok-u.ensures.within in
    let row = c.in_ok-u.ensures.row in
    let other = c.if-u-goal.false in
    let some : least_in c.args.self.now (state_of o.search) ≢ 256 = omega arith in
    let more = run_next c.args.self.now c.args.goal start (257 - (o.counter + 1)) (state_of o.search) some (λ e. other (row ∙ e)) in
    rw (c.settle-search.ensures, row) (sym more ∙ (rw k at (o.invariant start)))

pub returns : goal.returns
returns c start =
    let o = c.loop in
    let k : 257 - o.counter ≡ 0 = omega arith in
    sym (run_spent c.args.self.now c.args.goal start (state_of o.search)) ∙ (rw k at (o.invariant start))
