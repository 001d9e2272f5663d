-- A place is misplaced exactly when the definition says so.
use Rattle.std.specs.Prelude.{◌≤◌, ◌+◌, length}
use Rattle.std.proofs.Common.{rules, tests, ◌∙◌}
use Rattle.std.proofs.lemmas.Iterator.{YieldsList-from_slice}
use Rattle.std.proofs.lemmas.Iterator.Adapters.{serves_from_places}
use Rattle.std.proofs.lemmas.Iterator.Search.{any_from_yields_List}
use Rattle.plan_format.specs.Laws.{get_d_any}
use Rattle.plan_whole.specs.Keys.{any_is}
use Rattle.plan_whole.specs.Missing.{misplaced_in}
use Rattle.plan_whole.proofs.Numbered.any_misplaced.Goals as goal

pub any-requires-clause-callable : goal.any-requires-clause-callable
any-requires-clause-callable c =
    let r = c.args.self.now.records in
    serves_from_places (YieldsList-from_slice r.places.now (cc)) (λ x q k. search rules)
    (λ x k l e.
    let n : x.now + 16 ≤ length r.file.now = rw (e ∙ get_d_any r.places.now k x.now 0 l) (r.parts.place k l) in
    search (rules, n))

pub returns : goal.returns
returns c =
    let r = c.args.self.now.records in
    let test = misplaced_in r.file.now r.lanes.now r.sections.now in
    any_from_yields_List test _ _ _ c.any.ensures.ran (YieldsList-from_slice r.places.now (cc)) (λ x b q k. search (rules, tests))
    ∙ any_is test r.places.now
