-- With tangents: one of the six floats after the points.
use Rattle.std.proofs.Common.{List, Float, ◌+◌, ◌*◌, ◌∙◌, ap, sym, get_or}
use Rattle.fields.specs.Fields.{f32_at}
use Rattle.plan_rows.specs.Runs.{end_some, run_at}
use Rattle.plan_rows.proofs.end_at.Goals as goal

pub returns : goal.returns
returns c = λ d.
    let a = c.args in
    c.f32_at.ensures ∙ sym (run_at f32_at 4 a.file.now (a.at + 13 + 12 * c.u16_at-n.result) 6 a.i d c.requires.2)
    ∙ ap (λ (r : List Float). get_or r a.i d)
    (end_some a.file.now a.at c.u8_at.result c.u16_at-n.result c.u8_at.ensures.0 c.if-u8_at-eq0.false c.u16_at-n.ensures.0)
