-- `beside` opens the plan; a refused file gets its number, an accepted one the lane beside from its rows.
use Rattle.std.proofs.Common.{arith, refl, Ok}
use Rattle.plan_format.specs.Laws.{Bytes}
use Rattle.plan_format.specs.Refusals.{read_by}
use Rattle.beside.specs.Beside.{answer_of}
use Rattle.lanes_beside.specs.Beside.{beside_calls, beside_fronts, centerline}
use Rattle.lanes_beside.proofs.beside.Goals as goal

pub beside_from-requires : goal.beside_from-requires
beside_from-requires c =
    let a = c.args in
    let bytes : Bytes a.file.now = (λ i. omega (arith, c.type_inv.file i)) in
    beside_fronts a.side a.file.now bytes (read_by (Ok c.in_ok-counts.counts)) _ _ c.in_ok-counts.ensures refl

pub returns : goal.returns
returns c =
    let a = c.args in
    let bytes : Bytes a.file.now = (λ i. omega (arith, c.type_inv.file i)) in
    beside_calls a.side a.file.now bytes (read_by (Ok c.in_ok-counts.counts)) _ _ c.in_ok-counts.ensures refl (centerline a.lane a.s)
    (answer_of c.beside_from.result) c.beside_from.ensures
