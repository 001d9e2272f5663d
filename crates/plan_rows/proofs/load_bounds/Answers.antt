-- The rows are the start and the end of each section, which stand side by side.
use Rattle.std.proofs.Common.{◌≡◌, ℕ, List, Float, ◌+◌, ◌*◌, ◌∙◌, refl, ap, sym, arith, rules, get_or}
use Rattle.fields.specs.Fields.{f64_at}
use Rattle.lists.specs.Rows.{rows_length}
use Rattle.plan_format.specs.Records.{section_at}
use Rattle.plan_format.specs.Tables.{over, bound_row}
use Rattle.plan_rows.specs.Counted.{rows_map}
use Rattle.plan_rows.specs.Runs.{bounds_are, run_at}
use Rattle.plan_rows.proofs.load_bounds.Goals as goal

pub put_rows-requires-clause-room : goal.put_rows-requires-clause-room
put_rows-requires-clause-room c =
    let s = c.args.file.now in (
      λ (p : ℕ). bound_row (section_at s p),
      λ j h n e. let m : n ≡ 2 = search rules in m,
      omega (arith, rows_length (λ (p : ℕ). bound_row (section_at s p)) 2 (λ p. refl) c.args.sections.now, c.requires.1, c.requires.2),
    )

pub returns : goal.returns
returns c =
    let s = c.args.file.now in
    c.put_rows.ensures (λ (p : ℕ). bound_row (section_at s p))
    (λ j h n e. let m : n ≡ 2 = search rules in m)
    (λ j h i x d l e. let v : x ≡ f64_at s (get_or c.args.sections.now j 0 + 10 + 8 * i) = search rules in
    v ∙ sym (run_at f64_at 8 s (get_or c.args.sections.now j 0 + 10) 2 i d l)
    ∙ ap (λ (r : List Float). get_or r i d) (bounds_are s (get_or c.args.sections.now j 0)))
    ∙ ap (λ (r : List Float). over r c.args.out.now) (sym (rows_map bound_row (section_at s) c.args.sections.now))
