-- The rows found are the definition's, so they lie in the lists.
use Rattle.std.specs.Prelude.{◌≡◌, ◌+◌, ◌<◌, length, map}
use Rattle.std.proofs.Common.{arith, refl}
use Rattle.std.proofs.lemmas.List.{length-map}
use Rattle.plan_format.specs.Plan.{index_of}
use Rattle.plan_whole.specs.Keys.{key_at, pair_at}
use Rattle.plan_whole.specs.Missing.{lane_in, right_counts, row_is, wrong_lane, wrong_section}
use Rattle.plan_whole.proofs.Numbered.is_misplaced.Goals as goal

pub returns-in_default : goal.returns-in_default
returns-in_default c =
    let a = c.args in
    let n = c.in_default.ensures in
    wrong_lane a.self.now.records.file.now a.self.now.records.lanes.now a.self.now.records.sections.now a.at 256
    (row_is a.self.now.records.file.now a.self.now.records.lanes.now a.self.now.rows.now a.at 256 c.args.self.now.by_number (n.row, n.number)) refl

pub returns-in_default-find : goal.returns-in_default-find
returns-in_default-find c =
    let a = c.args in
    let n = c.in-Some.ensures in
    let r = a.self.now.records in
    let j : 64 ≡ index_of (pair_at r.file.now (a.at + 8)) (map (key_at r.file.now 1) r.sections.now) 0 64 =
    rw (c.pair.ensures.0, c.requires.1) at (c.in_default-find.ensures.place 64) in
    wrong_section r.file.now r.lanes.now r.sections.now a.at c.in-Some.lane
    (row_is r.file.now r.lanes.now a.self.now.rows.now a.at c.in-Some.lane c.args.self.now.by_number (n.row, n.number)) 64 j n.found refl

pub bounds-self-lane : goal.bounds-self-lane
bounds-self-lane c =
    let r = c.args.self.now.records in
    let n = c.in-Some.ensures in
    lane_in r.file.now r.lanes.now r.sections.now c.args.at c.in-Some.lane
    (row_is r.file.now r.lanes.now c.args.self.now.rows.now c.args.at c.in-Some.lane c.args.self.now.by_number (n.row, n.number)) n.found

pub offset_bounds-self-lane : goal.offset_bounds-self-lane
offset_bounds-self-lane c =
    let r = c.args.self.now.records in
    let n = c.in-Some.ensures in
    let within =
    lane_in r.file.now r.lanes.now r.sections.now c.args.at c.in-Some.lane
    (row_is r.file.now r.lanes.now c.args.self.now.rows.now c.args.at c.in-Some.lane c.args.self.now.by_number (n.row, n.number)) n.found in
    omega (arith, within, r.parts.lanes)

pub returns : goal.returns
returns c =
    let a = c.args in
    let n = c.in-Some.ensures in
    let r = a.self.now.records in
    let l : c.in-Some-find.section < length r.sections.now = rw (c.requires.1, length-map) at c.in-Some-find.ensures.within in
    let j : c.in-Some-find.section ≡ index_of (pair_at r.file.now (a.at + 8)) (map (key_at r.file.now 1) r.sections.now) 0 64 =
    rw (c.pair.ensures.0, c.requires.1) at (c.in-Some-find.ensures.place 64) in
    rw (c.u16_at.ensures.0, c.u16_at-2.ensures.0)
    (right_counts r.file.now r.lanes.now r.sections.now a.at c.in-Some.lane
    (row_is r.file.now r.lanes.now a.self.now.rows.now a.at c.in-Some.lane c.args.self.now.by_number (n.row, n.number))
    c.in-Some-find.section j n.found (λ e. absurd (omega (arith, r.parts.sections))))
