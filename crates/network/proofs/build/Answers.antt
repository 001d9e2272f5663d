-- `build` writes spans and boxes, builds the grid of their extent, and writes their columns and rows in it.
use mathlib.Core.Path.{sym, subst}
use native.Mathlib.Omega.{arith}
use Rattle.grid.specs.declared.Grid.{Grid}
use Rattle.grid.specs.Grid.{Sides}
use Rattle.grid.proofs.Sides.{sides}
use Rattle.network.specs.Nearest.{grid_for}
use Rattle.network.proofs.Index.{built_none, built_some, boxes_room_law, grid_is}
use Rattle.network.proofs.build.Goals as goal

pub returns-then-count-eq0 : goal.returns-then-count-eq0
unfolding grid_for
returns-then-count-eq0 c = built_none _ _ _ _ _ _ _ c.write_spans-count.ensures c.if-count-eq0.true

pub write_ranges-requires : goal.write_ranges-requires
write_ranges-requires c =
    let room =
    boxes_room_law _ _ _ _ _ _ c.args.ranges.now
    c.write_spans-count.ensures c.requires.1
    (omega arith) in
    let s = subst (λ (g : Grid). Sides g) (sym c.build-g.ensures) (sides _ _) in
    let n = c.write_spans-count.ensures.count in
    let r = c.requires.2 in
    (omega arith, omega arith, s.cols, s.rows)

pub returns : goal.returns
returns c =
    let e =
    grid_is _ _ _ _ _ _ c.args.ranges.now
    c.write_spans-count.ensures
    c.requires.1 (omega arith) _ _ c.extent.ensures
    c.build-g.ensures in
    built_some _ _ _ _ _ _ _
    c.write_spans-count.ensures
    c.requires.1 (omega arith) _ _ e c.write_ranges.ensures
