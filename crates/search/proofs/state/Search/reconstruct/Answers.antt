-- `reconstruct` is `rebuild`: what is left adds to the lanes on the way back what the whole adds to the goal.
use Rattle.std.proofs.Common.{[], ◌∷◌, ◌≡◌, ◌∙◌, ◌+◌, ◌-◌, suc, ap, arith, length, reverse}
use Rattle.arrayvec.proofs.ArrayVecLemmas.{items-with_items}
use Rattle.search.specs.Search.{rebuild}
use Rattle.search.specs.Loops.{rebuilt_here, rebuilt_next, rebuilt_whole}
use Rattle.search.proofs.state.Search.reconstruct.Goals as goal
use Rattle.search.proofs.state.Search.reconstruct.Goals.{else-loop-test, then-loop-test+then-lane-start}

pub loop-preserved : goal.loop-preserved
loop-preserved c =
    let o = c.loop in
    let s = c.args.self.now in
    let k : 256 - o.counter ≡ suc (256 - (o.counter + 1)) = omega arith in
    record {
      below = s.inside o.lane;
      lanes = omega (arith, c.push-in-loop.ensures.len, o.invariant.lanes);
      rest = rw c.push-in-loop.ensures.items
          (rebuilt_next s.prev c.args.start o.lane (256 - (o.counter + 1)) o.path.items _ (rw k at o.invariant.rest) c.if-lane-start.false);
    }

pub returns : goal.returns
returns c =
    let o = c.loop in
    let t = c.loop-test in
    let s = c.args.self.now in
    let turned : c.reverse.new.self ≡ reverse t.path.items = c.reverse.ensures.after ∙ ap reverse c.deref_mut.ensures.value in
    let long : length c.reverse.new.self ≡ length t.path.items = c.reverse.ensures.len ∙ ap length c.deref_mut.ensures.value in
    let chain = rebuild 256 s.prev c.args.start c.args.goal (c.args.goal ∷ []) in
    let whole : reverse t.path.items ≡ chain = elim t.branch [
      | else-loop-test w ↦
          let k : 256 - o.counter ≡ 0 = omega arith in
          rw w.path-is (rebuilt_whole s.prev c.args.start o.lane o.path.items chain (rw k at o.invariant.rest))
      | then-loop-test+then-lane-start w ↦
          let k : 256 - o.counter ≡ suc (256 - (o.counter + 1)) = omega arith in
          rw (w.path-is, w.push-in-loop.ensures.items)
          (rebuilt_here s.prev c.args.start o.lane (256 - (o.counter + 1)) o.path.items chain (rw k at o.invariant.rest) w.if-lane-start.true)
    ] in
    items-with_items t.path c.reverse.new.self long ∙ turned ∙ whole
