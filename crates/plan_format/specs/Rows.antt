-- Laws of rows one after the other, for those who write them from where the records start.
use Rattle.std.specs.Prelude.{List, [], map, ◌++◌, ◌≡◌, ℕ, ◌+◌, ◌<◌, ◌≤◌, drop, get_or, length}
use Rattle.std.proofs.Common.{arith}
use Rattle.std.proofs.lemmas.List.Edits.{sets}
use Rattle.lists.specs.Filling.{Filling, fill_many}
use Rattle.plan_format.specs.Laws.{map_next, map_none}
use Rattle.plan_format.specs.Tables.{rows, rows_from}

-- what is left of the rows after the i-th start
module _ {X A : Type 0} (row : X → List A) (at : ℕ → X) (ps : List ℕ) (i : ℕ) where
  pub rows_split : i < length ps → rows row (map at (drop i ps)) ≡ row (at (get_or ps i 0)) ++ rows row (map at (drop (i + 1) ps))
  unfolding rows
  rows_split h = rw (map_next at ps i h)

  pub rows_end : length ps ≤ i → rows row (map at (drop i ps)) ≡ []
  unfolding rows
  rows_end h = rw (map_none at ps i h)

  module _ (old out : List A) (k : ℕ) (F : Filling A old out k (rows row (map at (drop i ps))) (rows row (map at ps))) (h : i < length ps)
    where
      pub rows_next : (next : List A) (n : ℕ) → next ≡ sets out k (row (at (get_or ps i 0))) → length (row (at (get_or ps i 0))) ≡ n
          → k + n ≤ length old
          → Filling A old next (k + n) (rows row (map at (drop (i + 1) ps))) (rows row (map at ps))
      rows_next next n e l room =
          let G =
          fill_many A old (row (at (get_or ps i 0))) out k (rows row (map at (drop (i + 1) ps))) (rows row (map at ps))
          (rw (rows_split h) at F) (omega arith) in
          rw e (rw l at G)

module _ {X : Type 0} (row : ℕ → X → List ℕ) (count : X → ℕ) (at : ℕ → X) (ps : List ℕ) (i first : ℕ) where
  pub from_split : i < length ps
      → rows_from row count first (map at (drop i ps))
      ≡ row first (at (get_or ps i 0)) ++ rows_from row count (first + count (at (get_or ps i 0))) (map at (drop (i + 1) ps))
  unfolding rows_from
  from_split h = rw (map_next at ps i h)

  pub from_end : length ps ≤ i → rows_from row count first (map at (drop i ps)) ≡ []
  unfolding rows_from
  from_end h = rw (map_none at ps i h)

  pub from_next : (old out : List ℕ) (k : ℕ)
      → Filling ℕ old out k (rows_from row count first (map at (drop i ps))) (rows_from row count 0 (map at ps))
      → i < length ps → (next : List ℕ) (n c : ℕ) → next ≡ sets out k (row first (at (get_or ps i 0)))
      → length (row first (at (get_or ps i 0))) ≡ n
      → c ≡ count (at (get_or ps i 0)) → k + n ≤ length old
      → Filling ℕ old next (k + n) (rows_from row count (first + c) (map at (drop (i + 1) ps))) (rows_from row count 0 (map at ps))
  from_next old out k F h next n c e l q room =
      let rest = rows_from row count (first + count (at (get_or ps i 0))) (map at (drop (i + 1) ps)) in
      let G =
      fill_many ℕ old (row first (at (get_or ps i 0))) out k rest (rows_from row count 0 (map at ps)) (rw (from_split h) at F)
      (omega arith) in
      rw (e, q) (rw l at G)
