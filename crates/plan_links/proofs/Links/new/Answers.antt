-- From the last link to the first: each is put in front of its chain.
use Rattle.std.proofs.Common.{◌≡◌, ◌-◌, ◌∙◌, ap, sym, arith, get_or, length, length-set}
use Rattle.plan_format.specs.Roles.{role_known}
use Rattle.plan_links.specs.Chains.{chains_push, chains_start, heads, heads_none, link_key}
use Rattle.plan_links.proofs.Links.new.Goals as goal

pub loop-j-init : goal.loop-j-init
loop-j-init c = (
  ap length c.requires.5,
  c.requires.6,
  chains_start c.args.file.now c.args.index.now c.args.starts.now (heads c.args.first.now) (heads c.args.next.now)
      (length c.args.starts.now) (λ q. rw c.requires.5 (heads_none 768 q)),
)

pub loop-j-preserved : goal.loop-j-preserved
loop-j-preserved c =
    let l = c.loop-j in
    let p = get_or c.args.starts.now (l.j - 1) 0 in
    let lane = rw c.unwrap-lane.ensures at c.lane_row.ensures.row in
    let role = role_known c.u8_at.result c.unwrap-role.result (sym c.try_from.ensures ∙ c.unwrap-role.ensures) in
    let key : c.chain-q.result ≡ link_key c.args.file.now c.args.index.now p = rw (lane, role, c.u8_at.ensures.0) at c.chain-q.ensures.0 in (
      length-set _ _ _ ∙ l.invariant.0,
      length-set _ _ _ ∙ l.invariant.1,
      chains_push c.args.file.now c.args.index.now c.args.starts.now l.first l.next l.j c.chain-q.result
          l.invariant.2 c.loop-j-test.true l.auto.j (omega (arith, c.requires.1, l.invariant.1)) l.invariant.0 key
          c.chain-q.ensures.1,
    )
