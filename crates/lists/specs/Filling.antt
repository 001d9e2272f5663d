-- A table that is filled from its first entry on: one invariant for every loop that writes one.
use Rattle.std.specs.Prelude.{List, [], ◌++◌, ◌∷◌, refl, ◌≡◌, suc, ℕ, ◌+◌, ◌<◌, ◌≤◌, drop, length, set, take}
use Rattle.std.proofs.Common.{append_assoc, append-nil, ap, subst, sym, ◌∙◌, add-one, arith, length-append, take-append-drop, length-take-le}
use Rattle.std.proofs.lemmas.List.Edits.{sets}
use Rattle.lists.specs.Over.{over, over_length, over_next, over_placed, over_taken, placed}

-- A table that held `old`: its first k entries are written, and what is yet to come completes `whole`.
pub record Filling (A : Type 0) (old out : List A) (k : ℕ) (rest whole : List A) : Type 0 where
  pub done : List A
  pub size : length done ≡ k
  pub is : out ≡ over done old
  pub all : done ++ rest ≡ whole

module _ (A : Type 0) (old : List A) where
  pub fill_start : (whole : List A) → Filling A old old 0 whole whole
  fill_start whole = record { done = []; size = refl; is = refl; all = refl }

  -- a table whose first k entries are there already
  pub fill_from : (k : ℕ) (xs : List A) → k ≤ length old → Filling A old old k xs (take k old ++ xs)
  fill_from k xs h =
      let n = length-take-le k old h in
      record {
        done = take k old;
        size = n;
        is = sym (ap (λ (j : ℕ). take k old ++ drop j old) n ∙ take-append-drop k old);
        all = refl;
      }

  module _ (out : List A) (k : ℕ) (rest whole : List A) where
    pub fill_length : Filling A old out k rest whole → k ≤ length old → length out ≡ length old
    fill_length F h = ap length F.is ∙ over_length F.done old (omega (arith, F.size))

    pub fill_room : Filling A old out k rest whole → k + length rest ≡ length whole
    fill_room F =
        let e = ap length F.all in
        let f = length-append F.done rest in
        omega (arith, F.size)

    pub fill_one : (v : A) (j : ℕ) → Filling A old out k (v ∷ rest) whole → j ≡ k → j < length old
        → Filling A old (set out j v) (j + 1) rest whole
    fill_one v j F e h =
        record {
          done = F.done ++ (v ∷ []);
          size = length-append F.done (v ∷ []) ∙ ap (λ (n : ℕ). n + 1) (F.size ∙ sym e);
          is = ap (λ (r : List A). set r j v) F.is ∙ over_next F.done old j v (F.size ∙ sym e) h;
          all = append_assoc F.done (v ∷ []) rest ∙ F.all;
        }

    pub fill_end : Filling A old out k rest whole → rest ≡ [] → out ≡ over whole old
    fill_end F e = F.is ∙ ap (λ (x : List A). over x old) (sym (append-nil F.done) ∙ ap (λ (r : List A). F.done ++ r) (sym e) ∙ F.all)

  -- entries written by another from the k-th on
  pub fill_placed : (xs out next : List A) (k : ℕ) (rest whole : List A) → Filling A old out k (xs ++ rest) whole → next ≡ placed k xs out
      → Filling A old next (k + length xs) rest whole
  fill_placed xs out next k rest whole F e =
      record {
        done = F.done ++ xs;
        size = length-append F.done xs ∙ ap (λ (n : ℕ). n + length xs) F.size;
        is = e ∙ ap (placed k xs) F.is ∙ over_placed F.done xs old k F.size;
        all = append_assoc F.done xs rest ∙ F.all;
      }

  -- the end of what was written after the first j entries
  pub fill_placed_end : (out : List A) (j k : ℕ) (rest xs : List A) → Filling A old out k rest (take j old ++ xs) → rest ≡ [] → j ≤ length old
      → out ≡ placed j xs old
  fill_placed_end out j k rest xs F e h = fill_end out k rest (take j old ++ xs) F e ∙ over_taken j xs old h

  pub fill_many : (vs out : List A) (k : ℕ) (rest whole : List A) → Filling A old out k (vs ++ rest) whole → k + length vs ≤ length old
      → Filling A old (sets out k vs) (k + length vs) rest whole
  fill_many [] out k rest whole F h = subst (λ (j : ℕ). Filling A old out j rest whole) (omega arith) F
  fill_many (v ∷ vs) out k rest whole F h =
      let e : suc k + length vs ≡ k + suc (length vs) = omega arith in
      subst (λ (j : ℕ). Filling A old (sets (set out k v) (suc k) vs) j rest whole) e
      (fill_many vs (set out k v) (suc k) rest whole
      (subst (λ (j : ℕ). Filling A old (set out k v) j (vs ++ rest) whole) (add-one k)
      (fill_one out k (vs ++ rest) whole v k F refl (omega arith)))
      (omega arith))
