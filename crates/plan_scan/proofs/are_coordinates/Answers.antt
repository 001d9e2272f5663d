-- Each float by its place.
use borrow.Author.Rules.{rules}
use borrow.Author.Tests.{tests}
use Rattle.std.proofs.Common.{refl, ◌∙◌, ◌+◌, ◌*◌, arith}
use Rattle.std.proofs.lemmas.Iterator.{YieldsList-from_range}
use Rattle.std.proofs.lemmas.Iterator.Search.{all_from_yields_List}
use Rattle.fields.specs.Fields.{f32_at}
use Rattle.plan_format.specs.Plan.{coordinate}
use Rattle.plan_scan.specs.Ranges.{every_placed}
use Rattle.plan_scan.proofs.are_coordinates.Goals as goal

pub returns : goal.returns
returns c =
    let s = c.args.file.now in
    let f = c.args.first in
    let n = c.args.n in
    all_from_yields_List (λ k. coordinate (f32_at s (f + 4 * k))) _ _ c.all.result c.all.ensures.ran
    (YieldsList-from_range 0 n n refl (omega arith))
    (λ x b q k. search (rules, tests))
    ∙ every_placed coordinate f32_at 4 s f n
