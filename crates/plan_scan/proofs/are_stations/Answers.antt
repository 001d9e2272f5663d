-- The stations are the first and those that rise from it on.
use Rattle.std.proofs.Common.{refl, ◌<◌, arith}
use Rattle.plan_format.specs.Plan.{every, rises}
use Rattle.plan_format.specs.Records.{run}
use Rattle.plan_scan.specs.Ranges.{stations_split}
use Rattle.plan_scan.proofs.are_stations.Goals as goal

pub returns-then-n-eq0 : goal.returns-then-n-eq0
unfolding every rises run
returns-then-n-eq0 c = rw c.if-n-eq0.true refl

pub returns-then-is_station : goal.returns-then-is_station
returns-then-is_station c =
    let some : 0 < c.args.n = omega arith in
    rw (stations_split c.args.file.now c.args.first c.args.n some, ← c.f64_at-x.ensures, ← c.is_station.ensures, c.if-is_station.true)
    c.are_rising.ensures

pub returns-else-is_station : goal.returns-else-is_station
returns-else-is_station c =
    let some : 0 < c.args.n = omega arith in
    rw (stations_split c.args.file.now c.args.first c.args.n some, ← c.f64_at-x.ensures, ← c.is_station.ensures, c.if-is_station.false)
    refl
