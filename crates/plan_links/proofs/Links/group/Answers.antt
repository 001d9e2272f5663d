-- Each turn writes the links of the next lane, role by role, and its fan; k counts the links of the lanes before.
use Rattle.std.proofs.Common.{◌∙◌, ◌≡◌, ◌≤◌, ◌+◌, ℕ, ◌*◌, arith, refl, map, length}
use Rattle.lists.specs.Filling.{fill_end, fill_start}
use Rattle.plan_links.specs.Chains.{link_key, tally}
use Rattle.plan_links.specs.Groups.{fans_end, fans_next, group_room, groups_end, groups_next, tally_next}
use Rattle.plan_links.specs.Kept.{kept}
use Rattle.plan_links.specs.declared.Links.{Links}
use Rattle.plan_links.proofs.Links.group.Goals as goal

-- there is room for the links of the i-th lane, by their chains
room_at : (l : Links) (i x y z : ℕ) → x ≡ 3 * i + 0 → y ≡ 3 * i + 1 → z ≡ 3 * i + 2
    → tally (3 * i) (map (link_key l.file.now l.index.now) l.starts.now) + length (kept l x) + length (kept l y) + length (kept l z) ≤ 2048
room_at l i x y z ex ey ez =
    let first : x ≡ 3 * i = omega arith in
    rw (first, ey, ez) (group_room l.file.now l.index.now l.starts.now i l.chained.links_count)

pub loop-i-init : goal.loop-i-init
unfolding tally
loop-i-init c = (refl, fill_start ℕ _ _, fill_start ℕ _ _)

pub write-a-requires : goal.write-a-requires
write-a-requires c =
    let room = room_at c.args.self.now c.loop-i.i c.chain.result _ _ c.chain.ensures.0 refl refl in (
      c.chain.ensures.1,
      omega (arith, room, c.loop-i.invariant.0),
      omega (arith, c.requires.2, c.loop-i.auto.out),
    )

pub overflow_add-k : goal.overflow_add-k
overflow_add-k c =
    let room = room_at c.args.self.now c.loop-i.i c.chain.result _ _ c.chain.ensures.0 refl refl in
    omega (arith, room, c.loop-i.invariant.0, c.write-a.ensures.0)

pub write-b-requires : goal.write-b-requires
write-b-requires c =
    let room = room_at c.args.self.now c.loop-i.i c.chain.result c.chain-in-loop-i.result _ c.chain.ensures.0 c.chain-in-loop-i.ensures.0 refl in (
      c.chain-in-loop-i.ensures.1,
      omega (arith, room, c.loop-i.invariant.0, c.write-a.ensures.0),
      omega (arith, c.requires.2, c.loop-i.auto.out, c.write-a.auto.out),
    )

pub overflow_add-k-in-loop-i : goal.overflow_add-k-in-loop-i
overflow_add-k-in-loop-i c =
    let room = room_at c.args.self.now c.loop-i.i c.chain.result c.chain-in-loop-i.result _ c.chain.ensures.0 c.chain-in-loop-i.ensures.0 refl in
    omega (arith, room, c.loop-i.invariant.0, c.write-a.ensures.0, c.write-b.ensures.0)

pub write-c-requires : goal.write-c-requires
write-c-requires c =
    let room =
    room_at c.args.self.now c.loop-i.i c.chain.result c.chain-in-loop-i.result c.chain-in-loop-i-2.result c.chain.ensures.0
    c.chain-in-loop-i.ensures.0 c.chain-in-loop-i-2.ensures.0 in (
      c.chain-in-loop-i-2.ensures.1,
      omega (arith, room, c.loop-i.invariant.0, c.write-a.ensures.0, c.write-b.ensures.0),
      omega (arith, c.requires.2, c.loop-i.auto.out, c.write-a.auto.out, c.write-b.auto.out),
    )

pub overflow_add-k-in-loop-i-2 : goal.overflow_add-k-in-loop-i-2
overflow_add-k-in-loop-i-2 c =
    let room =
    room_at c.args.self.now c.loop-i.i c.chain.result c.chain-in-loop-i.result c.chain-in-loop-i-2.result c.chain.ensures.0
    c.chain-in-loop-i.ensures.0 c.chain-in-loop-i-2.ensures.0 in
    omega (arith, room, c.loop-i.invariant.0, c.write-a.ensures.0, c.write-b.ensures.0, c.write-c.ensures.0)

pub loop-i-preserved : goal.loop-i-preserved
loop-i-preserved c =
    let l = c.loop-i in
    let s = c.args.self.now.file.now in
    let m = c.args.self.now.index.now in
    let links = c.args.self.now.starts.now in
    let more = c.loop-i-test.true in
    let first : c.chain.result ≡ 3 * l.i = omega (arith, c.chain.ensures.0) in
    let a = rw first at c.write-a.ensures in
    let b = rw c.chain-in-loop-i.ensures.0 at c.write-b.ensures in
    let d = rw c.chain-in-loop-i-2.ensures.0 at c.write-c.ensures in (
      tally_next s m links l.i l.k c.write-a.result c.write-b.result c.write-c.result l.invariant.0 a.0 b.0 d.0,
      groups_next s m links c.args.lanes.now c.args.out.now l.out l.i l.k l.invariant.1 more l.invariant.0
          c.args.self.now.chained.links_count c.requires.2 c.write-a.result c.write-b.result c.write-c.result _ _ _ a.0 b.0 d.0 a.1 b.1 d.1,
      fans_next s m links c.args.placed.now c.args.lanes.now c.args.fans.now l.fans l.i l.k l.invariant.2 more
          (omega (arith, more, c.requires.0.count, c.requires.3)) c.write-a.result c.write-b.result c.write-c.result
          c.unwrap_or-place.result _ a.0 b.0 d.0
          (c.unwrap_or-place.ensures ∙ c.lane_row.ensures.row) c.put_row.ensures,
    )

pub returns : goal.returns
returns c =
    let l = c.loop-i in
    let s = c.args.self.now.file.now in
    let m = c.args.self.now.index.now in
    let links = c.args.self.now.starts.now in
    let lanes = c.args.lanes.now in (
      fill_end ℕ c.args.out.now l.out (2 * l.k) _ _ l.invariant.1 (groups_end s m links lanes l.i c.loop-i-test.false),
      fill_end ℕ c.args.fans.now l.fans (5 * l.i) _ _ l.invariant.2 (fans_end s m links c.args.placed.now lanes l.i l.k c.loop-i-test.false),
    )
