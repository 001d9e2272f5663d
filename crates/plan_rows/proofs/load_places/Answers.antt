-- Each turn writes the row of the next place.
use Rattle.std.proofs.Common.{◌≡◌, ℕ, [], ◌+◌, ◌*◌, ◌∙◌, ap, arith, get_or, refl}
use Rattle.std.proofs.lemmas.List.Edits.{sets}
use Rattle.lists.specs.Filling.{fill_end}
use Rattle.plan_format.specs.Plan.{plan_of}
use Rattle.plan_format.specs.Records.{place_at}
use Rattle.plan_format.specs.Rows.{rows_end, rows_next}
use Rattle.plan_format.specs.Tables.{place_row}
use Rattle.plan_scan.specs.Parts.{listed}
use Rattle.plan_rows.specs.Runs.{place_found}
use Rattle.plan_rows.proofs.load_places.Goals as goal

pub loop-i-preserved : goal.loop-i-preserved
loop-i-preserved c =
    let a = c.args in
    let l = c.loop-i in
    let s = a.file.now in
    let keys = c.deref.ensures.0 ∙ c.keys-keys.ensures in
    let found = c.unwrap_or-section.ensures ∙ c.find.ensures.place 64 in
    let row =
    place_found s a.lanes.now a.sections.now a.index.now (get_or a.places.now l.i 0) c.unwrap_or-lane.result c.unwrap_or-section.result
    c.raised.result c.requires.1 (c.unwrap_or-lane.ensures ∙ c.lane_row.ensures.row, c.lane_row.ensures.number) (rw (c.pair.ensures.0, keys) at found)
    c.raised.ensures.0 in
    let next : 3 * (l.i + 1) ≡ 3 * l.i + 3 = omega arith in
    rw next
    (rows_next (place_row (plan_of s (listed a.lanes.now [] a.sections.now []))) (place_at s) a.places.now l.i a.out.now
    l.out (3 * l.i) l.invariant c.loop-i-test.true _ 3 (c.put_row.ensures ∙ ap (sets l.out (3 * l.i)) row) refl
    (omega (arith, c.requires.0.count, c.requires.2, c.loop-i-test.true)))

pub returns : goal.returns
returns c =
    let a = c.args in
    let l = c.loop-i in
    fill_end ℕ a.out.now l.out (3 * l.i) _ _ l.invariant
    (rows_end (place_row (plan_of a.file.now (listed a.lanes.now [] a.sections.now []))) (place_at a.file.now) a.places.now
    l.i c.loop-i-test.false)
