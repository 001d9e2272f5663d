-- The lists that an answer is written to, a row at a time.
use Rattle.std.specs.Prelude.{◌≡◌, refl, ℕ, ◌+◌, ◌*◌, ◌<◌, set, Float}
use Rattle.std.proofs.Math.Path.{ap}
use Rattle.std.proofs.Common.{◌∙◌, arith, length-append}
use mathlib.Core.List.{List, [], ◌∷◌}
use Rattle.std.proofs.Math.ListN.{length}
use Rattle.geometry.specs.Over.{over, over_three, over_two}
use Rattle.ends.specs.declared.Advance.{Advance}
use Rattle.advance.specs.Advance.{rows_of, case_row, metre_row}
use Rattle.ends.specs.Ends.{case_of, position_of, short_of}

rows_length : {A : Type 0} (row : Advance → List A) (w : ℕ) → ((a : Advance) → length (row a) ≡ w) → (xs : List Advance)
    → length (rows_of row xs) ≡ w * length xs
unfolding rows_of
rows_length row w e [] = omega arith
rows_length row w e (x ∷ xs) = let r = rows_length row w e xs in let n = e x in let l = length-append (rows_of row xs) (row x) in omega arith

module _ (xs : List Advance) (a : Advance) (i : ℕ) (long : length xs ≡ i) where
  pub cases_next : (old out : List ℕ) → out ≡ over (rows_of case_row xs) old → 2 * i + 1 < length old
      → set (set out (2 * i) (case_of a)) (2 * i + 1) (position_of a).lane.0 ≡ over (rows_of case_row (a ∷ xs)) old
  unfolding rows_of
  cases_next old out e h =
      let size : length (rows_of case_row xs) ≡ 2 * i = rows_length case_row 2 (λ _. refl) xs ∙ ap (λ (n : ℕ). 2 * n) long in
      ap (λ (o : List ℕ). set (set o (2 * i) (case_of a)) (2 * i + 1) (position_of a).lane.0) e
      ∙ over_two (rows_of case_row xs) old (2 * i) (case_of a) (position_of a).lane.0 size h

  pub metres_next : (old out : List Float) → out ≡ over (rows_of metre_row xs) old → 3 * i + 2 < length old
      → set (set (set out (3 * i) (position_of a).s) (3 * i + 1) (position_of a).offset) (3 * i + 2) (short_of a)
      ≡ over (rows_of metre_row (a ∷ xs)) old
  unfolding rows_of
  metres_next old out e h =
      let size : length (rows_of metre_row xs) ≡ 3 * i = rows_length metre_row 3 (λ _. refl) xs ∙ ap (λ (n : ℕ). 3 * n) long in
      ap (λ (o : List Float). set (set (set o (3 * i) (position_of a).s) (3 * i + 1) (position_of a).offset) (3 * i + 2) (short_of a)) e
      ∙ over_three (rows_of metre_row xs) old (3 * i) (position_of a).s (position_of a).offset (short_of a) size h
