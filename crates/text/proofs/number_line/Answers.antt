-- Each turn adds the first of the numbers still to come.
use Rattle.std.proofs.Common.{List, ◌++◌, ◌+◌, ◌*◌, ℕ, ap, drop, sym, ◌∙◌, append_assoc, arith, length, length-append, refl}
use Rattle.std.proofs.lemmas.List.{drop_all, drop_more}
use Rattle.text.specs.Lines.{number_fields}
use Rattle.text.specs.Page.{adds_length, adds_more}
use Rattle.text.proofs.number_line.Goals as goal

pub loop-n-preserved : goal.loop-n-preserved
loop-n-preserved g c =
    let P = c.number_field.ensures in
    let l = adds_length P in
    let before = c.loop-n.page.items in
    let rest = number_fields (drop (c.loop-n.n-index + 1) c.args.numbers.now) in
    let e = drop_more c.args.numbers.now c.loop-n.n-index 0 c.loop-n-test.true in (
      ap (λ (t : List ℕ). t ++ rest) P.adds
          ∙ append_assoc before _ rest
          ∙ ap (λ (ns : List ℕ). before ++ number_fields ns) (sym e)
          ∙ c.loop-n.invariant.0,
      omega (arith, P.few),
    )

pub returns : goal.returns
returns g c =
    let P = c.line_feed.ensures in
    let all = rw (drop_all c.loop-n.n-index c.args.numbers.now c.loop-n-test.false) at c.loop-n.invariant.0 in
    let fields = P.adds ∙ all in
    let l = ap length fields ∙ length-append c.word.new.page.items _ in
    let m = adds_length P in
    adds_more {l = 21 * length c.args.numbers.now + 1} refl (omega arith) c.word.ensures (record { adds = fields; few = omega (arith, P.few) })
