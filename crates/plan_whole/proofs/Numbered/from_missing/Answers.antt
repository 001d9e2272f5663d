-- A link lacks a lane exactly when the definition says so.
use Rattle.std.specs.Prelude.{ℕ, ◌≤◌, ◌+◌, length, map}
use Rattle.std.proofs.Common.{rules, tests, sym, ◌∙◌}
use Rattle.std.proofs.lemmas.Iterator.{YieldsList-from_slice}
use Rattle.std.proofs.lemmas.Iterator.Adapters.{serves_from_places}
use Rattle.std.proofs.lemmas.Iterator.Search.{any_from_yields_List}
use Rattle.plan_format.specs.Laws.{any_map, get_d_any}
use Rattle.plan_format.specs.Plan.{from_missing}
use Rattle.plan_format.specs.Records.{link_at}
use Rattle.plan_whole.specs.Keys.{any_is, key_at}
use Rattle.plan_whole.specs.Missing.{missing_is}
use Rattle.plan_whole.proofs.Numbered.from_missing.Goals as goal

pub any-requires-clause-callable : goal.any-requires-clause-callable
any-requires-clause-callable c =
    let r = c.args.self.now.records in
    serves_from_places (YieldsList-from_slice r.links.now (cc)) (λ x q k. search rules)
    (λ x k l e.
    let n : x.now + 11 ≤ length r.file.now = rw (e ∙ get_d_any r.links.now k x.now 0 l) (r.parts.link k l) in
    search (rules, n))

pub returns : goal.returns
returns c =
    let r = c.args.self.now.records in
    let ns = map (key_at r.file.now 0) r.lanes.now in
    let test = (λ (p : ℕ). from_missing ns (link_at r.file.now p)) in
    any_from_yields_List test _ _ _ c.any.ensures.ran (YieldsList-from_slice r.links.now (cc))
    (λ x b q k. search (rules, tests, missing_is c.args.self.now.rows.now ns c.args.self.now.by_number))
    ∙ any_is test r.links.now
    ∙ sym (any_map (from_missing ns) (link_at r.file.now) r.links.now)
