-- The rows of the first i places stand at the front of the lists.
use Rattle.std.specs.Prelude.{◌≡◌, ℕ, ◌+◌, ◌<◌, List, ◌∷◌, reverse, take, length, get_or}
use Rattle.std.proofs.Common.{ap, sym, ◌∙◌, arith}
use Rattle.std.proofs.lemmas.List.{length-reverse, length-take-le, take_more}
use Rattle.geometry.specs.Over.{over}
use Rattle.branches.specs.HeldLaws.{pushed}
use Rattle.ends.specs.declared.Advance.{Advance}
use Rattle.advance.specs.Advance.{rows_of, case_row, metre_row}
use Rattle.advance.specs.QueryLaws.{cases_next, metres_next}
use Rattle.advance.proofs.write_answers.Goals as goal

-- one place more
next : (out : List Advance) (i : ℕ) (d : Advance) → i < length out → reverse (take (i + 1) out) ≡ get_or out i d ∷ reverse (take i out)
next out i d h = ap reverse (take_more out i d h) ∙ pushed (take i out) (get_or out i d)

pub loop-i-preserved : goal.loop-i-preserved
loop-i-preserved c =
    let out = c.args.out.now in
    let l = c.loop-i in
    let long = length-reverse (take l.i out) ∙ length-take-le l.i out (omega arith) in
    record {
      rows =
          c.write.ensures.rows ∙ cases_next (reverse (take l.i out)) _ l.i long c.args.rows.now l.rows l.invariant.rows (omega arith)
          ∙ ap (λ (xs : List Advance). over (rows_of case_row xs) c.args.rows.now) (sym (next out l.i _ c.loop-i-test.true));
      positions =
          c.write.ensures.positions
          ∙ metres_next (reverse (take l.i out)) _ l.i long c.args.positions.now l.positions l.invariant.positions (omega arith)
          ∙ ap (λ (xs : List Advance). over (rows_of metre_row xs) c.args.positions.now) (sym (next out l.i _ c.loop-i-test.true));
    }
