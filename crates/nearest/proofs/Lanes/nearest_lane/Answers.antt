-- `nearest_lane` refuses a point that is not finite, asks for the nearest row, and reads its lane's number.
use Rattle.std.proofs.Common.{arith, ap, sym, List, Option, None, ◌≡◌, ◌∷◌, ◌∙◌, [], slice_index_or}
use Rattle.std.proofs.lemmas.Result.{err_from_is_err_and}
use Rattle.plan_format.specs.Refusals.{ok_or_refused}
use Rattle.network.specs.declared.Nearest.{Nearest}
use Rattle.nearest.specs.Answer.{none_found, not_finite, one_found, row_below}
use Rattle.nearest.proofs.Lanes.nearest_lane.Goals as goal

-- the one answer
only : {best answer : Option Nearest} {found : List (Option Nearest)} → slice_index_or found 0 None ≡ best → found ≡ answer ∷ [] → best ≡ answer
only is e = sym is ∙ ap (λ (xs : List (Option Nearest)). slice_index_or xs 0 None) e

pub returns-then-not-is_finite : goal.returns-then-not-is_finite
returns-then-not-is_finite c =
    not_finite _ _ _ _ (sym c.is_finite.ensures ∙ c.if-not-is_finite.true)

pub overflow_mul-result : goal.overflow_mul-result
overflow_mul-result c =
    let s = c.args.self.now.searchable in
    let row = (s.rows.each _ (row_below _ _ _ _ _ (only c.in_ok-b.ensures.ok_part c.nearest_rows.ensures))).in_table in
    omega arith

pub offset_bounds-self-b : goal.offset_bounds-self-b
offset_bounds-self-b c =
    let s = c.args.self.now.searchable in
    let row = (s.rows.each _ (row_below _ _ _ _ _ (only c.in_ok-b.ensures.ok_part c.nearest_rows.ensures))).in_table in
    omega arith

pub bounds-self-b : goal.bounds-self-b
bounds-self-b c =
    let s = c.args.self.now.searchable in
    let row = (s.rows.each _ (row_below _ _ _ _ _ (only c.in_ok-b.ensures.ok_part c.nearest_rows.ensures))).in_table in
    omega arith

pub returns-in_err-b : goal.returns-in_err-b
returns-in_err-b c =
    let none : slice_index_or c.nearest_rows.result 0 None ≡ None = (ok_or_refused _ _ _ c.in_err-b.ensures.value).0 in
    let p = err_from_is_err_and c.from_residual.result c.from_residual.ensures.1 in
    rw (p.1, p.2, (ok_or_refused _ _ _ c.in_err-b.ensures.value).1)
    (none_found _ _ _ _ (sym c.is_finite.ensures ∙ c.if-not-is_finite.false) (only none c.nearest_rows.ensures))

pub returns : goal.returns
returns c =
    one_found _ _ _ _ (sym c.is_finite.ensures ∙ c.if-not-is_finite.false) _ (only c.in_ok-b.ensures.ok_part c.nearest_rows.ensures)
