-- After i turns the first i lines stand there.
use Rattle.std.proofs.Common.{[], ◌∷◌, ◌≡◌, ◌+◌, ◌≤◌, ◌/◌, length, arith, length-append, rules}
use Rattle.std.proofs.lemmas.Slice.Zip.{zip_turn, zip_end}
use Rattle.text.specs.Each.{position_lines_more}
use Rattle.text.specs.Page.{adds_length, adds_more}
use Rattle.text.proofs.position_lines.Goals as goal

pub position_line-requires : goal.position_line-requires
position_line-requires g c =
    let turn =
    zip_turn c.as_chunks.result.0.now c.as_chunks-2.result.0.now _ c.into_iter-case-iterator.result
    c.loop-case.case-iterator c.next.new.self c.next.result (cc) (cc) c.loop-case.yielded_by _ c.in-Some.is c.next.ensures.steps in
    let many : length c.as_chunks.result.0.now ≡ length c.args.rows.now / 2 = c.as_chunks.ensures.front_len in
    let so_far = adds_length c.loop-case.invariant in
    let fits : length c.loop-case.page.items + 76 ≤ g.row.N = omega (arith, turn.0, c.loop-case.invariant.few, c.requires) in
    (search rules, fits)

pub loop-case-preserved : goal.loop-case-preserved
loop-case-preserved g c =
    let turn =
    zip_turn c.as_chunks.result.0.now c.as_chunks-2.result.0.now _ c.into_iter-case-iterator.result
    c.loop-case.case-iterator c.next.new.self c.next.result (cc) (cc) c.loop-case.yielded_by _ c.in-Some.is c.next.ensures.steps in
    let many : length c.as_chunks.result.0.now ≡ length c.args.rows.now / 2 = c.as_chunks.ensures.front_len in
    let metres_many : length c.as_chunks-2.result.0.now ≡ length c.args.metres.now / 3 = c.as_chunks-2.ensures.front_len in
    let grown = length-append c.loop-case.yielded ((c.in-Some.field-0-0, c.in-Some.field-0-1) ∷ []) in
    let e =
    position_lines_more c.args.rows.now c.args.metres.now (length c.args.rows.now / 2) (length c.args.metres.now / 3) _ _
    c.as_chunks.ensures.front c.as_chunks-2.ensures.front
    (length c.loop-case.yielded) _ grown (omega (arith, turn.0)) (omega (arith, turn.1)) _ _ (turn.2 _) (turn.3 _) in
    adds_more e (omega arith) c.loop-case.invariant c.position_line.ensures

pub returns : goal.returns
returns g c =
    let end =
    zip_end c.as_chunks.result.0.now c.as_chunks-2.result.0.now _ c.into_iter-case-iterator.result
    c.loop-case.case-iterator c.next.new.self c.next.result (cc) (cc) c.loop-case.yielded_by c.in-None.is c.next.ensures.steps in
    let many : length c.as_chunks.result.0.now ≡ length c.args.rows.now / 2 = c.as_chunks.ensures.front_len in
    let metres_many : length c.as_chunks-2.result.0.now ≡ length c.args.metres.now / 3 = c.as_chunks-2.ensures.front_len in
    let all : length c.loop-case.yielded ≡ length c.args.rows.now / 2 = omega (arith, end, c.requires) in
    rw all at c.loop-case.invariant
