-- Each turn looks at one place less.
use Rattle.std.specs.Prelude.{◌≡◌, map, reverse}
use Rattle.std.specs.List.{list_any}
use Rattle.std.proofs.Common.{ap, sym, ◌∙◌}
use Rattle.ends.specs.Ends.{placing_of, same_placing}
use Rattle.ends.specs.EndLaws.{told_before, told_here}
use Rattle.ends.specs.Rounded.{rounded_of}
use Rattle.ends.proofs.Found.holds.Goals as goal

pub returns-then-is_told_by : goal.returns-then-is_told_by
returns-then-is_told_by c =
    let f = c.args.self.now in
    let paired = c.as_slice-rounded.ensures.value ∙ f.paired ∙ ap (map rounded_of) (sym c.as_slice-out.ensures.value) in
    told_here c.args.k c.as_slice-out.result.now c.as_slice-rounded.result.now paired c.loop-i.i c.loop-i-test.true c.loop-i.auto.i _ _
    (sym c.is_told_by.ensures ∙ c.if-is_told_by.true)
    ∙ c.loop-i.invariant
    ∙ ap (λ xs. list_any (λ a. same_placing (placing_of a) c.args.k) (reverse xs)) c.as_slice-out.ensures.value

pub loop-i-preserved : goal.loop-i-preserved
loop-i-preserved c =
    let f = c.args.self.now in
    let paired = c.as_slice-rounded.ensures.value ∙ f.paired ∙ ap (map rounded_of) (sym c.as_slice-out.ensures.value) in
    told_before c.args.k c.as_slice-out.result.now c.as_slice-rounded.result.now paired c.loop-i.i c.loop-i-test.true c.loop-i.auto.i _ _
    (sym c.is_told_by.ensures ∙ c.if-is_told_by.false)
    ∙ c.loop-i.invariant
