-- When a ring has no cell of the grid.
use mathlib.Core.Path.{◌≡◌, refl, sym, ap, ◌∙◌}
use mathlib.Core.Bool.{Bool, true, false, cond, ◌&&◌, ◌||◌}
use mathlib.Core.List.{List, [], ◌∷◌}
use Prim.Native.Nat.{ℕ, zero, suc, ◌+◌, ◌-◌, ◌<◌, ◌≤◌, min}
use native.Mathlib.Nat.{lt_of_not-le}
use native.Mathlib.Decide.{dec_le}
use native.Mathlib.Omega.{arith}
use lib.Dec.{leb, ltb, eqb}
use borrow.Author.Tests.{lt-ltb, le-ltb, le-leb, lt-leb, eq-eqb, ne_eqb}
use Rattle.grid.specs.declared.Cell.{Cell}
use Rattle.grid.specs.Ring.{keep_if, count_from, near_to, end_columns, is_edge, columns_of, row_cells, ring_rows, ring_of, is_empty}

-- a list of columns that is not empty
pub record Some (xs : List ℕ) : Type 0 where
  pub first : ℕ
  pub rest : List ℕ
  pub is : xs ≡ first ∷ rest

module _ (cx cy r cols : ℕ) where
  row_some : (iy : ℕ) (xs : List ℕ) (rest : List Cell) → Some xs → is_empty (row_cells iy xs rest) ≡ false
  unfolding row_cells
  row_some iy xs rest s = rw s.is refl

  row_rest : (iy : ℕ) (xs : List ℕ) (rest : List Cell) → is_empty rest ≡ false → is_empty (row_cells iy xs rest) ≡ false
  unfolding row_cells
  row_rest iy [] rest h = h
  row_rest iy (x ∷ xs) rest h = refl

  -- one row with a column is enough
  rows_some : (k x d : ℕ) → d < k → Some (columns_of cx cy r cols (x + d)) → is_empty (ring_rows cx cy r cols (count_from k x)) ≡ false
  unfolding count_from ring_rows
  rows_some zero x d l s = absurd (omega arith)
  rows_some (suc k) x zero l s =
      let e : x + 0 ≡ x = omega arith in
      row_some x (columns_of cx cy r cols x) (ring_rows cx cy r cols (count_from k (suc x))) (rw e at s)
  rows_some (suc k) x (suc d) l s =
      let e : x + suc d ≡ suc x + d = omega arith in
      row_rest x (columns_of cx cy r cols x) (ring_rows cx cy r cols (count_from k (suc x))) (rows_some k (suc x) d (omega arith) (rw e at s))

  rows_none : (k x : ℕ) → ((d : ℕ) → d < k → columns_of cx cy r cols (x + d) ≡ []) → ring_rows cx cy r cols (count_from k x) ≡ []
  unfolding count_from ring_rows row_cells
  rows_none zero x f = refl
  rows_none (suc k) x f =
      let e : x + 0 ≡ x = omega arith in
      let none : columns_of cx cy r cols x ≡ [] = rw e at (f 0 (omega arith)) in
      rw none (rows_none k (suc x) (λ d h. rw (shift d) (f (suc d) (omega arith))))
    where
      shift : (d : ℕ) → suc x + d ≡ x + suc d
      shift d = omega arith

  module _ (rows : ℕ) where
    row_in_ring : (iy : ℕ) → iy < rows → cy ≤ iy + r → iy ≤ cy + r → Some (columns_of cx cy r cols iy)
        → is_empty (ring_of cols rows cx cy r) ≡ false
    unfolding ring_of near_to
    row_in_ring iy l h k s =
        let e : cy - r + (iy - (cy - r)) ≡ iy = omega arith in
        rows_some (min rows (cy + r + 1) - (cy - r)) (cy - r) (iy - (cy - r)) (omega arith) (rw (e) s)

    module _ (col : cx < cols) (row : cy < rows) where
      near_some : Some (near_to cx r cols)
      unfolding near_to count_from
      near_some =
          let e : min cols (cx + r + 1) - (cx - r) ≡ suc (min cols (cx + r + 1) - (cx - r) - 1) = omega arith in
          rw e (record { first = cx - r; rest = count_from (min cols (cx + r + 1) - (cx - r) - 1) (suc (cx - r)); is = refl })

      -- the row of the query's own cell has the two ends
      own_row : Some (end_columns cx r cols) → is_empty (ring_of cols rows cx cy r) ≡ false
      own_row s = row_in_ring cy row (omega arith) (omega arith) (by (is_edge cy r cy))
        where
          by : (b : Bool) → Some (cond b (near_to cx r cols) (end_columns cx r cols))
          by true = near_some
          by false = s

      left_end : r ≤ cx → Some (end_columns cx r cols)
      unfolding end_columns
      left_end h =
          simp (le-leb r cx h, lt-ltb (cx - r) cols (omega arith))
          (record { first = cx - r; rest = keep_if (ltb (cx + r) cols) (cx + r) []; is = refl })

      pub left_inside : r ≤ cx → is_empty (ring_of cols rows cx cy r) ≡ false
      left_inside h = own_row (left_end h)

      pub right_inside : cx + r < cols → is_empty (ring_of cols rows cx cy r) ≡ false
      unfolding end_columns
      right_inside h = own_row (by (leb r cx && ltb (cx - r) cols))
        where
          by : (b : Bool) → Some (keep_if b (cx - r) (keep_if (ltb (cx + r) cols) (cx + r) []))
          by true = record { first = cx - r; rest = keep_if (ltb (cx + r) cols) (cx + r) []; is = refl }
          by false = simp (lt-ltb (cx + r) cols h) (record { first = cx + r; rest = []; is = refl })

      pub bottom_inside : r ≤ cy → is_empty (ring_of cols rows cx cy r) ≡ false
      bottom_inside h =
          row_in_ring (cy - r) (omega arith) (omega arith) (omega arith) (simp (eq-eqb (cy - r + r) cy (omega arith)) near_some)

      top_inside : cy + r < rows → is_empty (ring_of cols rows cx cy r) ≡ false
      top_inside h = row_in_ring (cy + r) h (omega arith) (omega arith) (by (eqb (cy + r + r) cy))
        where
          by : (b : Bool) → Some (cond (b || eqb (cy + r) (cy + r)) (near_to cx r cols) (end_columns cx r cols))
          by true = near_some
          by false = simp (eq-eqb (cy + r) (cy + r) refl) near_some

      no_column : cx < r → cols ≤ cx + r → cy < r → rows ≤ cy + r → (iy : ℕ) → iy < rows → columns_of cx cy r cols iy ≡ []
      unfolding end_columns
      no_column a b c d iy l =
          simp (ne_eqb (iy + r) cy (λ e. omega arith), ne_eqb iy (cy + r) (λ e. omega arith), lt-leb r cx a, le-ltb (cx + r) cols b)

      all_outside : cx < r → cols ≤ cx + r → cy < r → rows ≤ cy + r → is_empty (ring_of cols rows cx cy r) ≡ true
      unfolding ring_of near_to
      all_outside a b c d =
          ap is_empty (rows_none (min rows (cy + r + 1) - (cy - r)) (cy - r) (λ i l. no_column a b c d (cy - r + i) (omega arith)))

      -- where the other three sides are outside, the last row decides
      pub top_decides : cx < r → cols ≤ cx + r → cy < r → leb rows (cy + r) ≡ is_empty (ring_of cols rows cx cy r)
      top_decides a b c = elim (dec_le rows (cy + r)) [
        | yes d ↦ le-leb rows (cy + r) d ∙ sym (all_outside a b c d)
        | no f ↦ lt-leb rows (cy + r) (lt_of_not-le f) ∙ sym (top_inside (lt_of_not-le f))
      ]
