-- A table that is written front to back: the entries written, then what stood there before.
use Rattle.std.specs.Prelude.{List, [], ◌++◌, ◌∷◌, refl, ◌≡◌, suc, ℕ, ◌+◌, ◌<◌, ◌≤◌, drop, get_or, length, set, take}
use Rattle.std.proofs.Common.{append_assoc, append-nil, ap, ap₂, sym, ◌∙◌, add-one, arith, drop_of_length-le, length-append, length-drop, length-take, take-append-drop, length-take-le, drop-cons, drop-drop, get_or-append-add, get_or-drop, take_at}
use Rattle.std.proofs.Math.Seq.{drop-append-add}
use Rattle.std.proofs.lemmas.List.{set_at}

-- a table that held `old`, with these entries first
abbrev pub over : {A : Type 0} → List A → List A → List A
over xs old = xs ++ drop (length xs) old

-- `old` with the entries xs from k on
abbrev pub placed : {A : Type 0} → ℕ → List A → List A → List A
placed k xs old = take k old ++ (xs ++ drop (k + length xs) old)

module _ {A : Type 0} (xs old : List A) where
  pub over_length : length xs ≤ length old → length (over xs old) ≡ length old
  over_length h = let e = length-append xs (drop (length xs) old) in let f = length-drop (length xs) old in omega arith

  -- all written
  pub over_whole : length old ≤ length xs → over xs old ≡ xs
  over_whole h = simp (drop_of_length-le old h, append-nil)

  -- what was written, cut out again
  pub over_front : (k : ℕ) → length xs ≡ k → take k (over xs old) ≡ xs
  over_front k e = take_at xs (drop (length xs) old) k e

  -- what follows it is as before
  pub over_past : (n k : ℕ) (d : A) → length xs ≡ n → get_or (over xs old) (n + k) d ≡ get_or old (n + k) d
  over_past n k d e = rw (← e) (get_or-append-add xs (drop (length xs) old) k d ∙ get_or-drop (length xs) old k d)

pub over_first : {A : Type 0} (old : List A) (v : A) → 0 < length old → set old 0 v ≡ over (v ∷ []) (set old 0 v)
over_first [] v h = absurd (omega arith)
over_first (x ∷ xs) v h = refl

-- the next entry written
pub over_next : {A : Type 0} (xs old : List A) (k : ℕ) (v : A) → length xs ≡ k → k < length old → set (over xs old) k v ≡ over
    (xs ++ (v ∷ [])) old
over_next {A} xs old k v e h =
    ap (λ (l : List A). set (xs ++ l) k v) (ap (λ (j : ℕ). drop j old) e ∙ drop-cons old k v h)
    ∙ set_at xs (get_or old k v) (drop (suc k) old) v k e
    ∙ sym (simp (length-append, e, add-one, append_assoc))

-- the next two, and the next three
pub over_two : {A : Type 0} (xs old : List A) (k : ℕ) (a b : A) → length xs ≡ k → k + 1 < length old
    → set (set (over xs old) k a) (k + 1) b ≡ over (xs ++ (a ∷ b ∷ [])) old
over_two {A} xs old k a b e h =
    let joined : (xs ++ (a ∷ [])) ++ (b ∷ []) ≡ xs ++ (a ∷ b ∷ []) = simp append_assoc in
    ap (λ (l : List A). set l (k + 1) b) (over_next xs old k a e (omega arith))
    ∙ over_next (xs ++ (a ∷ [])) old (k + 1) b (simp length-append (omega arith)) h
    ∙ ap (λ (l : List A). over l old) joined

pub over_three : {A : Type 0} (xs old : List A) (k : ℕ) (a b c : A) → length xs ≡ k → k + 2 < length old
    → set (set (set (over xs old) k a) (k + 1) b) (k + 2) c ≡ over (xs ++ (a ∷ b ∷ c ∷ [])) old
over_three {A} xs old k a b c e h =
    let joined : (xs ++ (a ∷ b ∷ [])) ++ (c ∷ []) ≡ xs ++ (a ∷ b ∷ c ∷ []) = simp append_assoc in
    ap (λ (l : List A). set l (k + 2) c) (over_two xs old k a b e (omega arith))
    ∙ over_next (xs ++ (a ∷ b ∷ [])) old (k + 2) c (simp length-append (omega arith)) h
    ∙ ap (λ (l : List A). over l old) joined

pub length_placed : {A : Type 0} (k : ℕ) (xs old : List A) → k + length xs ≤ length old → length (placed k xs old) ≡ length old
length_placed k xs old h = simp (length-append, length-take, length-drop) (omega arith)

-- nothing written; from the first entry on; after the first k entries
pub placed_none : {A : Type 0} (k : ℕ) (old : List A) → placed k [] old ≡ old
placed_none {A} k old = let z : k + 0 ≡ k = omega arith in ap (λ (j : ℕ). take k old ++ drop j old) z ∙ take-append-drop k old

pub placed_first : {A : Type 0} (xs old : List A) → placed 0 xs old ≡ over xs old
placed_first xs old = let z : 0 + length xs ≡ length xs = omega arith in rw z refl

pub over_taken : {A : Type 0} (k : ℕ) (xs old : List A) → k ≤ length old → over (take k old ++ xs) old ≡ placed k xs old
over_taken {A} k xs old h =
    let size : length (take k old ++ xs) ≡ k + length xs = length-append (take k old) xs ∙ ap (λ (j : ℕ). j + length xs) (length-take-le k old h) in
    ap (λ (j : ℕ). (take k old ++ xs) ++ drop j old) size ∙ append_assoc (take k old) xs (drop (k + length xs) old)

-- the next entries written
pub over_placed : {A : Type 0} (xs ys old : List A) (k : ℕ) → length xs ≡ k → placed k ys (over xs old) ≡ over (xs ++ ys) old
over_placed {A} xs ys old k e =
    let front : take k (xs ++ drop (length xs) old) ≡ xs = take_at xs (drop (length xs) old) k e in
    let back : drop (k + length ys) (xs ++ drop (length xs) old) ≡ drop (length (xs ++ ys)) old
    = ap (λ (j : ℕ). drop (j + length ys) (xs ++ drop (length xs) old)) (sym e) ∙ drop-append-add xs (drop (length xs) old) (length ys)
    ∙ drop-drop (length ys) (length xs) old ∙ ap (λ (j : ℕ). drop j old) (sym (length-append xs ys)) in
    ap₂ (λ (l m : List A). l ++ (ys ++ m)) front back ∙ sym (append_assoc xs ys (drop (length (xs ++ ys)) old))
