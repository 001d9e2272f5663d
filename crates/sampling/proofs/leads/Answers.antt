-- `leads` looks at row after row, as the definition does.
use Rattle.std.specs.Prelude.{eqb, get_or, ◌*◌, ◌+◌, ◌-◌}
use Rattle.std.proofs.Common.{refl, rules, tests, ◌∙◌}
use Rattle.std.proofs.lemmas.Iterator.{YieldsList-from_range}
use Rattle.std.proofs.lemmas.Iterator.Search.{any_from_yields_List}
use Rattle.sampling.specs.Passes.{leads_any}
use Rattle.sampling.proofs.leads.Goals as goal

pub returns : goal.returns
returns c =
    let a = c.args in
    any_from_yields_List (λ at. eqb (get_or a.links.now (2 * at + 1) 0) a.lane) _ _ _ c.any.ensures.ran
    (YieldsList-from_range a.first a.end (a.end - a.first) refl refl) (λ x b q k. search (rules, tests))
    ∙ leads_any a.links.now a.lane (a.end - a.first) a.first
