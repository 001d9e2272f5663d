-- Rows of values, each counted and read off its record, and written one after the other into their parts of a table.
use Rattle.std.specs.Prelude.{List, [], map, ◌++◌, ◌∷◌, refl, ◌≡◌, ℕ, ◌+◌, ◌<◌, ◌≤◌, drop, get_or, length, take}
use Rattle.std.proofs.Common.{ap, append_assoc, sym, ◌∙◌, arith, length-append}
use Rattle.std.proofs.lemmas.List.{drop-drop, same_lists}
use Rattle.std.proofs.lemmas.List.Edits.{sets, sets-eq}
use borrow.Rule.Slice.PartMut.{put_mid}
use Rattle.lists.specs.Filling.{Filling, fill_length, fill_many}
use Rattle.plan_format.specs.Laws.{Each, drop_next, drop_none}
use Rattle.plan_format.specs.Tables.{rows}

-- `post` says what a call answers: how many values the record has, and each of them
abbrev pub Counts : {T : Type 0} → (ℕ → ℕ → Type 0) → List ℕ → (ℕ → List T) → Type 0
Counts post starts row = Each (λ at. (n : ℕ) → post at n → n ≡ length (row at)) starts

abbrev pub Reads : {T : Type 0} → (ℕ → ℕ → T → Type 0) → List ℕ → (ℕ → List T) → Type 0
Reads {T} post starts row = Each (λ at. (i : ℕ) (x d : T) → i < length (row at) → post at i x → x ≡ get_or (row at) i d) starts

-- a part of a table that is written: k entries from the a-th on
pub part_is : {A : Type 0} (a k : ℕ) (old now vs : List A) → now ≡ vs → length vs ≡ k → a + k ≤ length old → put_mid a k old now ≡ sets old a vs
part_is {A} a k old now vs e n h =
    let z : a + length vs ≤ length old = omega arith in
    let d : drop k (drop a old) ≡ drop (a + length vs) old = drop-drop k a old ∙ ap (λ (j : ℕ). drop (a + j) old) (sym n) in
    rw (e, sets-eq vs old a z, d, append_assoc (take a old) vs (drop (a + length vs) old)) refl

pub rows_map : {X T : Type 0} (row : X → List T) (f : ℕ → X) (ps : List ℕ) → rows row (map f ps) ≡ rows (λ (p : ℕ). row (f p)) ps
unfolding rows
rows_map row f [] = refl
rows_map {X} {T} row f (p ∷ ps) = ap (λ (r : List T). row (f p) ++ r) (rows_map row f ps)

-- the rows from the i-th record on
module _ {T : Type 0} (row : ℕ → List T) (starts : List ℕ) (i : ℕ) where
  pub rows_at : i < length starts → rows row (drop i starts) ≡ row (get_or starts i 0) ++ rows row (drop (i + 1) starts)
  unfolding rows
  rows_at h = rw (drop_next starts i 0 h)

  pub rows_none : length starts ≤ i → rows row (drop i starts) ≡ []
  unfolding rows
  rows_none h = rw (drop_none starts i h)

  pub count_next : (k n : ℕ) → k + length (rows row (drop i starts)) ≡ length (rows row starts) → i < length starts
      → n ≡ length (row (get_or starts i 0)) → k + n + length (rows row (drop (i + 1) starts)) ≡ length (rows row starts)
  count_next k n e h q =
      let s = ap length (rows_at h) ∙ length-append (row (get_or starts i 0)) (rows row (drop (i + 1) starts)) in
      omega arith

  pub read_next : (old out now : List T) (k m n : ℕ) → Filling T old out k (rows row (drop i starts)) (rows row starts) → i < length starts
      → n ≡ length (row (get_or starts i 0)) → length now ≡ n → m ≡ n → k + n ≤ length old
      → ((j : ℕ) (d : T) → j < length now → get_or now j d ≡ get_or (row (get_or starts i 0)) j d)
      → Filling T old (put_mid k m out now) (k + n) (rows row (drop (i + 1) starts)) (rows row starts)
  read_next old out now k m n F h q l z room e =
      let size = fill_length T old out k (rows row (drop i starts)) (rows row starts) F (omega arith) in
      let is = same_lists now (row (get_or starts i 0)) (l ∙ q) e in
      let w = part_is k m out now (row (get_or starts i 0)) is (omega arith) (omega arith) in
      let G =
      fill_many T old (row (get_or starts i 0)) out k (rows row (drop (i + 1) starts)) (rows row starts)
      (rw (rows_at h) at F) (omega arith) in
      rw (w, q) G
