-- A space, then the digits.
use Rattle.std.proofs.Common.{◌≤◌, length, arith, sym, ◌∙◌}
use Rattle.std.proofs.lemmas.Fmt.{length-decimal-le}
use Rattle.text.specs.Decimal.{decimal_is}
use Rattle.text.specs.Lines.{number_field}
use Rattle.text.specs.Numerals.{decimal_of}
use Rattle.text.specs.Page.{adds_as, adds_byte, adds_then}
use Rattle.text.proofs.number_field.Goals as goal

pub returns : goal.returns
unfolding number_field
returns g c =
    let n = c.args.n in
    let e = decimal_is n (omega arith) in
    let short : length (decimal_of n) ≤ 20 = rw e (length-decimal-le 20 n (omega arith) (omega arith) (omega arith)) in
    adds_then (adds_byte c.push.ensures.items) (adds_as (c.as_bytes.ensures.value ∙ c.format.ensures.text ∙ sym e) short c.word.ensures)
