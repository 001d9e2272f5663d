-- `add_lane` writes span j of the lane in turn; `Cutting` says where it stands.
use mathlib.Core.Path.{◌≡◌, ap, ◌∙◌}
use Prim.Native.Nat.{◌+◌, ◌-◌, ◌*◌, ◌<◌}
use native.Mathlib.Omega.{arith}
use lib.ListN.{length}
use Rattle.coords.specs.Coords.{zero⁺}
use Rattle.grid.specs.Grid.{padded}
use Rattle.rows.specs.Rows.{point_count}
use Rattle.network.specs.Tables.{lane_at}
use Rattle.network.proofs.Cut.{cut_start, cut_room, cut_end, cut_next, not_driving}
use Rattle.network.proofs.add_lane.Goals as goal

pub returns-then-not-drives-kind : goal.returns-then-not-drives-kind
unfolding lane_at
returns-then-not-drives-kind c = not_driving _ _ _ _ _ (c.if-not-drives-kind.true)

pub loop-j-init : goal.loop-j-init
loop-j-init c =
    let start : c.args.k + 0 ≡ c.args.k = omega arith in
    rw start (cut_start _ _ _ _ _ c.requires.1)

pub put_row-requires : goal.put_row-requires
unfolding lane_at
put_row-requires c =
    let before : 4 * c.loop-j.j < point_count c.args.lanes.now c.args.row - 1 = omega arith in
    let room : 3 * (c.args.k + c.loop-j.j) + 2 < length c.loop-j.spans =
    (cut_room _ _ _ _ c.loop-j.invariant _ (c.if-not-drives-kind.false) c.requires.1 before).0 in
    omega arith

pub put_row-requires-in-loop-j : goal.put_row-requires-in-loop-j
unfolding lane_at
put_row-requires-in-loop-j c =
    let before : 4 * c.loop-j.j < point_count c.args.lanes.now c.args.row - 1 = omega arith in
    let room : 4 * (c.args.k + c.loop-j.j) + 3 < length c.loop-j.boxes =
    (cut_room _ _ _ _ c.loop-j.invariant _ (c.if-not-drives-kind.false) c.requires.1 before).1 in
    omega arith

pub loop-j-preserved : goal.loop-j-preserved
unfolding lane_at
loop-j-preserved c =
    let l = c.loop-j in
    let before : 4 * l.j < point_count c.args.lanes.now c.args.row - 1 = omega arith in
    let room = cut_room _ _ _ _ l.invariant _ (c.if-not-drives-kind.false) c.requires.1 before in
    let box = c.padded-b.ensures ∙ ap (padded zero⁺) c.around.ensures in
    let at : c.args.k + (l.j + 1) ≡ c.args.k + l.j + 1 = omega arith in
    let first : 4 * (l.j + 1) ≡ 4 * l.j + 4 = omega arith in
    rw (at, first)
    (cut_next _ _ _ _ l.invariant before _ c.min-end.ensures _ _ _ room box c.put_row.ensures c.put_row-in-loop-j.ensures)

pub returns : goal.returns
unfolding lane_at
returns c =
    let l = c.loop-j in
    let is : c.args.k + c.div_ceil-n.result ≡ c.args.k + l.j = omega arith in
    rw is (cut_end _ _ _ _ l.invariant _ (c.if-not-drives-kind.false) c.requires.1 (omega arith))
