-- Each turn adds the first of the digits still to come.
use Rattle.std.proofs.Common.{List, [], ◌++◌, ◌∷◌, ◌-◌, ℕ, ap, sym, ◌∙◌, append_assoc, arith}
use Rattle.text.specs.Hex.{hex_more}
use Rattle.text.specs.Numerals.{hex_of}
use Rattle.text.proofs.hex.Goals as goal

pub loop-i-preserved : goal.loop-i-preserved
loop-i-preserved g c =
    let before = c.loop-i.page.items in
    let rest = hex_of (c.loop-i.i - 1) c.args.n in
    let e = hex_more c.args.n c.loop-i.i (omega arith) in (
      ap (λ (t : List ℕ). t ++ rest) c.push.ensures.items
          ∙ append_assoc before (c.hex_digit.result ∷ []) rest
          ∙ ap (λ (d : ℕ). before ++ (d ∷ rest)) c.hex_digit.ensures
          ∙ ap (λ (t : List ℕ). before ++ t) (sym e)
          ∙ c.loop-i.invariant.0,
      omega arith,
    )
