-- Each table by its own function, from the starts of its records.
use Rattle.plan_format.specs.Tables.{tables}
use Rattle.plan.specs.Checking.{parts_in}
use Rattle.plan.specs.Loading.{linkable, loaded_by, searching}
use Rattle.plan.proofs.load.Goals as goal

pub load_lanes-requires : goal.load_lanes-requires
load_lanes-requires c =
    let P = parts_in c.args.file.now c.args.starts.now c.requires.0.standing in
    rw c.as_slice-ls.ensures.value (record { room = P.lane; count = P.lanes }, c.requires.1.lanes)

pub load_points-requires : goal.load_points-requires
load_points-requires c =
    let P = parts_in c.args.file.now c.args.starts.now c.requires.0.standing in
    rw c.as_slice-ls.ensures.value (record { room = P.lane; count = P.lanes }, P.pointed, P.points, c.requires.1.points)

pub load_ends-requires : goal.load_ends-requires
load_ends-requires c =
    let P = parts_in c.args.file.now c.args.starts.now c.requires.0.standing in
    rw c.as_slice-ls.ensures.value (record { room = P.lane; count = P.lanes }, P.ended, c.requires.1.ends)

pub load_links-requires : goal.load_links-requires
load_links-requires c =
    rw (c.as_slice-ls.ensures.value, c.as_slice-ks.ensures.value, c.as_slice-ps.ensures.value)
    (linkable c.args.file.now c.args.starts.now c.args.index.now c.requires.0, c.requires.1.links, c.requires.1.fans)

pub load_sections-requires : goal.load_sections-requires
load_sections-requires c =
    let P = parts_in c.args.file.now c.args.starts.now c.requires.0.standing in
    rw c.as_slice-ss.ensures.value (P.section, P.sections, c.requires.1.sections)

pub load_bounds-requires : goal.load_bounds-requires
load_bounds-requires c =
    let P = parts_in c.args.file.now c.args.starts.now c.requires.0.standing in
    rw c.as_slice-ss.ensures.value (P.section, P.sections, c.requires.1.bounds)

pub load_stations-requires : goal.load_stations-requires
load_stations-requires c =
    let P = parts_in c.args.file.now c.args.starts.now c.requires.0.standing in
    rw c.as_slice-ss.ensures.value (P.section, P.stationed, P.stations, c.requires.1.stations)

pub load_places-requires : goal.load_places-requires
load_places-requires c =
    let P = parts_in c.args.file.now c.args.starts.now c.requires.0.standing in
    rw (c.as_slice-ls.ensures.value, c.as_slice-ss.ensures.value, c.as_slice-ps.ensures.value)
    (record { room = P.place; count = P.places }, searching c.args.file.now c.args.starts.now c.args.index.now c.requires.0, c.requires.1.places)

pub returns : goal.returns
returns c =
    let a = c.args in
    let ls = c.as_slice-ls.ensures.value in
    let ks = c.as_slice-ks.ensures.value in
    let ss = c.as_slice-ss.ensures.value in
    let ps = c.as_slice-ps.ensures.value in
    let t =
    tables a.lanes.now a.points.now a.ends.now a.fans.now a.links.now a.sections.now
    a.bounds.now a.stations.now a.places.now in
    loaded_by a.file.now a.starts.now a.index.now c.requires.0 t _ _ _ _ _ _ _ _ _ (rw ls at c.load_lanes.ensures)
    (rw ls at c.load_points.ensures)
    (rw ls at c.load_ends.ensures)
    (rw (ls, ks, ps) at c.load_links.ensures)
    (rw ss at c.load_sections.ensures)
    (rw ss at c.load_bounds.ensures)
    (rw ss at c.load_stations.ensures)
    (rw (ls, ss, ps) at c.load_places.ensures)
