-- `nearest_lane` opens the plan; a refused file gets its number, an accepted one the nearest lane from its rows.
use Rattle.std.proofs.Common.{arith, refl, Ok}
use Rattle.plan_format.specs.Laws.{Bytes}
use Rattle.plan_format.specs.Refusals.{read_by}
use Rattle.nearest.specs.Nearest.{nearest_by}
use Rattle.calling.specs.Calling.{point}
use Rattle.lanes_nearest.specs.Nearest.{nearest_calls, nearest_fronts}
use Rattle.lanes_nearest.proofs.nearest_lane.Goals as goal

pub nearest_from-requires : goal.nearest_from-requires
nearest_from-requires c =
    let a = c.args in
    let bytes : Bytes a.file.now = (λ i. omega (arith, c.type_inv.file i)) in
    nearest_fronts 0 a.file.now bytes (read_by (Ok c.in_ok-counts.counts)) _ _ c.in_ok-counts.ensures refl

pub returns : goal.returns
returns c =
    let a = c.args in
    let bytes : Bytes a.file.now = (λ i. omega (arith, c.type_inv.file i)) in
    nearest_calls 0 a.file.now bytes (read_by (Ok c.in_ok-counts.counts)) _ _ c.in_ok-counts.ensures refl (point a.x a.y a.z)
    (nearest_by c.nearest_from.result) c.nearest_from.ensures
