-- Rows one after the other in one list: how an entry of them is read.
use mathlib.Core.List.{List, [], append_assoc, ◌++◌, ◌∷◌}
use Rattle.std.proofs.Math.Path.{ap, refl, sym}
use Rattle.std.proofs.Common.{◌∙◌, le_of_suc-le-suc, not-suc-le-zero, get_or-append-add}
use Rattle.std.specs.Prelude.{◌≡◌, drop, get_or, take}
use Prim.Native.Nat.{suc, zero, ℕ, ◌*◌, ◌+◌, ◌<◌}
use native.Mathlib.Omega.{arith}
use Rattle.std.proofs.Math.ListN.{get_or-append, length, length-append}
use Rattle.std.proofs.Math.Seq.{drop-append-add}

-- a row for each element, one after the other
unfoldable pub rows : {X A : Type 0} → (X → List A) → List X → List A
rows row [] = []
rows row (x ∷ xs) = row x ++ rows row xs

module _ {X A : Type 0} (row : X → List A) where
  pub rows_append : (xs ys : List X) → rows row (xs ++ ys) ≡ rows row xs ++ rows row ys
  unfolding rows
  rows_append [] ys = refl
  rows_append (x ∷ xs) ys = ap (λ (r : List A). row x ++ r) (rows_append xs ys) ∙ sym (append_assoc (row x) (rows row xs) (rows row ys))

  -- where the i-th row starts: after the rows of the elements before
  pub rows_drop : (xs : List X) (d : X) (i : ℕ) → i < length xs
      → drop (length (rows row (take i xs))) (rows row xs) ≡ row (get_or xs i d) ++ rows row (drop (suc i) xs)
  unfolding rows
  rows_drop [] d i h = absurd (not-suc-le-zero h)
  rows_drop (x ∷ xs) d zero h = refl
  rows_drop (x ∷ xs) d (suc i) h =
      let e = length-append (row x) (rows row (take i xs)) in
      rw e (drop-append-add (row x) (rows row xs) (length (rows row (take i xs))) ∙ rows_drop xs d i (le_of_suc-le-suc h))

  -- rows of w entries each
  pub rows_length : (w : ℕ) → ((x : X) → length (row x) ≡ w) → (xs : List X) → length (rows row xs) ≡ w * length xs
  unfolding rows
  rows_length w e [] = omega arith
  rows_length w e (x ∷ xs) =
      let r = rows_length w e xs in
      let a = length-append (row x) (rows row xs) in
      let n = e x in
      omega arith

  -- entry k of the i-th
  pub row_entry : (w : ℕ) (xs : List X) (e : X) → ((j : ℕ) → j < length xs → length (row (get_or xs j e)) ≡ w)
      → (i k : ℕ) (d : A) → i < length xs → k < w → get_or (rows row xs) (w * i + k) d ≡ get_or (row (get_or xs i e)) k d
  unfolding rows
  row_entry w [] e s i k d h l = absurd (not-suc-le-zero h)
  row_entry w (x ∷ xs) e s zero k d h l =
      let n = s 0 (omega arith) in
      let z : w * 0 + k ≡ k = omega arith in
      rw z (get_or-append (row x) (rows row xs) d k (omega arith))
  row_entry w (x ∷ xs) e s (suc i) k d h l =
      let n = s 0 (omega arith) in
      let z : w * suc i + k ≡ length (row x) + (w * i + k) = omega arith in
      rw z
      (get_or-append-add (row x) (rows row xs) (w * i + k) d
      ∙ row_entry w xs e (λ j m. s (suc j) (omega arith)) i k d (le_of_suc-le-suc h) l)
