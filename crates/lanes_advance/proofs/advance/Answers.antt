-- `advance` opens the plan; a refused file gets its number and leaves the lists, an accepted one is moved on along its rows.
use Rattle.std.proofs.Common.{arith, refl, Ok}
use Rattle.plan_format.specs.Laws.{Bytes}
use Rattle.plan_format.specs.Refusals.{read_by}
use Rattle.lanes_advance.specs.Advance.{advance_calls, advance_fronts, position}
use Rattle.lanes_advance.proofs.advance.Goals as goal

pub advance_from-requires : goal.advance_from-requires
advance_from-requires c =
    let a = c.args in
    let bytes : Bytes a.file.now = (λ i. omega (arith, c.type_inv.file i)) in
    advance_fronts 0 a.file.now bytes (read_by (Ok c.in_ok-counts.counts)) _ _ c.in_ok-counts.ensures refl

pub returns : goal.returns
returns c =
    let a = c.args in
    let bytes : Bytes a.file.now = (λ i. omega (arith, c.type_inv.file i)) in
    advance_calls 0 a.file.now bytes (read_by (Ok c.in_ok-counts.counts)) _ _ c.in_ok-counts.ensures refl (position a.lane a.s a.offset)
    a.distance a.rows.now a.positions.now _ c.advance_from.ensures
