-- `open`: number 1 by the two further tables, then `read_plan`; only an accepted file gets arc lengths and tangents.
use Rattle.std.proofs.Common.{arith, refl, Ok, Err}
use Rattle.std.proofs.lemmas.Result.{err_from_is_err_and}
use Rattle.plan_format.specs.Laws.{Bytes}
use Rattle.plan_format.specs.Refusals.{read_by, refusal_number}
use Rattle.plan_format.specs.Tables.{tables}
use Rattle.tables.specs.Opening.{opens_accepted, opens_one, opens_refused, opens_two, polylines}
use Rattle.tables.proofs.open.Goals as goal

pub returns-then-cumulative-lt4096 : goal.returns-then-cumulative-lt4096
returns-then-cumulative-lt4096 c =
    let a = c.args in
    let t =
    tables a.lanes.now a.points.now a.ends.now a.fans.now a.links.now a.sections.now a.bounds.now
    a.stations.now a.places.now in
    opens_one a.side a.file.now t a.cumulative.now a.tangents.now c.if-cumulative-lt4096.true _ refl

pub returns-then-tangents-lt12288 : goal.returns-then-tangents-lt12288
returns-then-tangents-lt12288 c =
    let a = c.args in
    let t =
    tables a.lanes.now a.points.now a.ends.now a.fans.now a.links.now a.sections.now a.bounds.now
    a.stations.now a.places.now in
    opens_two a.side a.file.now t a.cumulative.now a.tangents.now c.if-cumulative-lt4096.false c.if-tangents-lt12288.true _ refl

pub returns-in_err-counts : goal.returns-in_err-counts
returns-in_err-counts c =
    let p = err_from_is_err_and c.from_residual.result c.from_residual.ensures.1 in
    let e = c.in_err-counts.field-0.0 in
    let a = c.args in
    let t =
    tables a.lanes.now a.points.now a.ends.now a.fans.now a.links.now a.sections.now a.bounds.now
    a.stations.now a.places.now in
    let bytes : Bytes a.file.now = (λ i. omega (arith, c.type_inv.file i)) in
    rw (p.1, p.2)
    (opens_refused a.side a.file.now t a.cumulative.now a.tangents.now c.if-cumulative-lt4096.false c.if-tangents-lt12288.false
    bytes (read_by (Err e)) _ c.in_err-counts.ensures (refusal_number e))

pub build-requires : goal.build-requires
build-requires c =
    let a = c.args in
    let t =
    tables a.lanes.now a.points.now a.ends.now a.fans.now a.links.now a.sections.now a.bounds.now
    a.stations.now a.places.now in
    let bytes : Bytes a.file.now = (λ i. omega (arith, c.type_inv.file i)) in
    polylines a.side a.file.now t a.cumulative.now a.tangents.now c.if-cumulative-lt4096.false c.if-tangents-lt12288.false
    bytes (read_by (Ok c.in_ok-counts.counts)) _ c.in_ok-counts.ensures refl

pub returns : goal.returns
returns c =
    let a = c.args in
    let t =
    tables a.lanes.now a.points.now a.ends.now a.fans.now a.links.now a.sections.now a.bounds.now
    a.stations.now a.places.now in
    let bytes : Bytes a.file.now = (λ i. omega (arith, c.type_inv.file i)) in
    opens_accepted a.side a.file.now t a.cumulative.now a.tangents.now c.if-cumulative-lt4096.false c.if-tangents-lt12288.false
    bytes (read_by (Ok c.in_ok-counts.counts)) _ c.in_ok-counts.ensures refl _ _ c.build.ensures
