-- The first key for which the test passes.
use borrow.Author.Rules.{rules}
use borrow.Author.Tests.{tests}
use Rattle.std.proofs.Common.{ap, ◌∙◌, ℕ, Bool}
use Rattle.std.specs.Prelude.{Option, eqb, unwrap_or}
use Rattle.std.proofs.lemmas.Iterator.{YieldsList-from_slice}
use Rattle.std.proofs.lemmas.Iterator.Search.{position_from_yields_List}
use Rattle.std.proofs.lemmas.Iterator.Adapters.{position_from-zero}
use Rattle.plan_whole.specs.Missing.{first_is}
use Rattle.plan_whole.proofs.find.Goals as goal

pub returns-clause-place : goal.returns-clause-place
returns-clause-place c d =
    let a = c.args in
    let test : ℕ → Bool = λ x. eqb x a.k in
    ap (λ (o : Option ℕ). unwrap_or o d)
    (position_from_yields_List test _ _ c.position.result c.position.ensures.ran (YieldsList-from_slice a.keys.now cc)
    (λ x b q k. search (rules, tests))
    ∙ position_from-zero test a.keys.now)
    ∙ first_is a.k a.keys.now 0 d
