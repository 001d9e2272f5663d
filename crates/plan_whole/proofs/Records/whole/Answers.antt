-- The tests stand in the definition's order.
use Rattle.std.proofs.Common.{sym, ◌∙◌}
use Rattle.plan_whole.specs.Whole.{whole_from, whole_good, whole_places, whole_side, whole_twice}
use Rattle.plan_whole.proofs.Records.whole.Goals as goal
use Rattle.plan_whole.proofs.Records.whole.Goals.{then-from_missing-via-then-from_missing, then-from_missing-via-else-from_missing+then-any_misplaced}

pub returns-then-side-gt1-clause-number : goal.returns-then-side-gt1-clause-number
returns-then-side-gt1-clause-number c =
    let r = c.args.self.now in
    whole_side r.file.now c.args.side r.lanes.now r.links.now r.sections.now r.places.now c.if-side-gt1.true

pub returns-then-any_twice-clause-number : goal.returns-then-any_twice-clause-number
returns-then-any_twice-clause-number c =
    let r = c.args.self.now in
    whole_twice r.file.now c.args.side r.lanes.now r.links.now r.sections.now r.places.now c.if-side-gt1.false
    (sym c.any_twice.ensures ∙ c.if-any_twice.true)

pub returns-then-from_missing-clause-number : goal.returns-then-from_missing-clause-number
returns-then-from_missing-clause-number c =
    let r = c.args.self.now in
    let once = sym c.any_twice.ensures ∙ c.if-any_twice.false in
    elim c.then-from_missing.branch [
      | then-from_missing-via-then-from_missing w ↦
          whole_from r.file.now c.args.side r.lanes.now r.links.now r.sections.now r.places.now c.if-side-gt1.false once
          (sym c.from_missing.ensures ∙ w.if-from_missing.true)
      | then-from_missing-via-else-from_missing+then-any_misplaced w ↦
          whole_places r.file.now c.args.side r.lanes.now r.links.now r.sections.now r.places.now c.if-side-gt1.false once
          (sym c.from_missing.ensures ∙ w.if-from_missing.false) (sym w.any_misplaced.ensures ∙ w.if-any_misplaced.true)
    ]

pub returns-clause-number : goal.returns-clause-number
returns-clause-number c =
    let r = c.args.self.now in
    whole_good r.file.now c.args.side r.lanes.now r.links.now r.sections.now r.places.now c.if-side-gt1.false
    (sym c.any_twice.ensures ∙ c.if-any_twice.false) (sym c.from_missing.ensures ∙ c.if-from_missing.false)
    (sym c.any_misplaced.ensures ∙ c.if-any_misplaced.false)
