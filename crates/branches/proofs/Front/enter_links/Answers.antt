-- The links from row `at` on are followed, as the definition follows them.
use Rattle.std.specs.Prelude.{◌≡◌, ◌-◌, ◌+◌, ◌*◌, ℕ, get_or}
use Rattle.std.proofs.Common.{ap, sym, ◌∙◌, arith}
use Rattle.branches.specs.Held.{front_of, link_front_of}
use Rattle.branches.specs.Links.{enter_link, links_none, links_next}
use Rattle.branches.proofs.Front.enter_links.Goals as goal

pub loop-at-init : goal.loop-at-init
loop-at-init c =
    let s = c.args.lanes.now in
    let none : c.args.end - c.args.end ≡ 0 = omega arith in
    record {
      left = omega arith;
      followed = rw none
          (links_none s.rows.now s.count s.points.now s.cumulative.now c.args.ahead c.args.l c.args.links.now c.args.end 0
          (front_of c.args.self.now));
    }

pub loop-at-preserved : goal.loop-at-preserved
loop-at-preserved c =
    let s = c.args.lanes.now in
    let l = c.loop-at in
    let k = c.args.end - l.at in
    let one : c.args.end - (l.at - 1) ≡ k + 1 = omega arith in
    let row : 2 * (c.args.end - (k + 1)) + 1 ≡ 2 * (l.at - 1) + 1 = omega arith in
    record {
      left = omega arith;
      followed = rw one
          (links_next s.rows.now s.count s.points.now s.cumulative.now c.args.ahead c.args.l c.args.links.now c.args.end k (front_of c.args.self.now)
          _ _ l.invariant.followed
          (c.enter_link-any.ensures l.any
          ∙ ap (λ (i : ℕ). enter_link s.rows.now s.count s.points.now s.cumulative.now c.args.ahead c.args.l (get_or c.args.links.now i 0)
          (link_front_of l.self l.any)) (sym row)));
    }
