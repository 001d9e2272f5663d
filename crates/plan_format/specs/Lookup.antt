-- Laws of the search for a number in a list, and of lists in which none stands twice.
use Rattle.std.specs.Prelude.{Bool, cond, false, true, List, [], map, ◌∷◌, refl, ◌≡◌, suc, zero, ℕ, ◌+◌, ◌<◌, ◌≤◌, eqb, get_or, length}
use Rattle.std.proofs.Common.{ap, sym, ◌∙◌, le_of_suc-le-suc, not-suc-le-zero, arith, eq-eqb, eqb-true, ne_eqb}
use Rattle.std.proofs.lemmas.List.{length-map}
use Rattle.std.proofs.lemmas.Bool.{eqb-false}
use Rattle.plan_format.specs.Laws.{any_none, or_fst, or_snd}
use Rattle.plan_format.specs.Plan.{holds, index_of, repeats}

-- what is found lies in the list
pub index_below : (n : ℕ) (xs : List ℕ) (i d : ℕ) → (index_of n xs i d ≡ d → ⊥) → index_of n xs i d < i + length xs
unfolding index_of
index_below n [] i d h = absurd (h refl)
index_below n (x ∷ xs) i d h = go (eqb x n) (λ (k : index_of n xs (i + 1) d ≡ d → ⊥). index_below n xs (i + 1) d k) h
  where
    go : (b : Bool) → ((index_of n xs (i + 1) d ≡ d → ⊥) → index_of n xs (i + 1) d < i + 1 + length xs)
        → (cond b i (index_of n xs (i + 1) d) ≡ d → ⊥) → cond b i (index_of n xs (i + 1) d) < i + suc (length xs)
    go true r h = omega arith
    go false r h = let z = r h in omega arith

index_least : (n : ℕ) (xs : List ℕ) (i d : ℕ) → (index_of n xs i d ≡ d → ⊥) → i ≤ index_of n xs i d
unfolding index_of
index_least n [] i d h = absurd (h refl)
index_least n (x ∷ xs) i d h = go (eqb x n) (λ (k : index_of n xs (i + 1) d ≡ d → ⊥). index_least n xs (i + 1) d k) h
  where
    go : (b : Bool) → ((index_of n xs (i + 1) d ≡ d → ⊥) → i + 1 ≤ index_of n xs (i + 1) d)
        → (cond b i (index_of n xs (i + 1) d) ≡ d → ⊥) → i ≤ cond b i (index_of n xs (i + 1) d)
    go true r h = omega arith
    go false r h = let z = r h in omega arith

pub index_in : {A : Type 0} (n : ℕ) (f : A → ℕ) (ps : List A) (i d : ℕ) → i ≡ index_of n (map f ps) 0 d → (i ≡ d → ⊥) → i < length ps
index_in n f ps i d e h =
    let r = index_below n (map f ps) 0 d (λ (y : index_of n (map f ps) 0 d ≡ d). h (e ∙ y)) in
    omega (arith, length-map ps f)

-- what is found is the number
pub index_get : (n : ℕ) (xs : List ℕ) (i k d : ℕ) → index_of n xs i d ≡ i + k → (i + k ≡ d → ⊥) → get_or xs k 0 ≡ n
unfolding index_of
index_get n [] i k d e h = absurd (h (sym e))
index_get n (x ∷ xs) i k d e h = go (eqb x n) refl (λ (j : ℕ). index_get n xs (i + 1) j d) e
  where
    go : (b : Bool) → eqb x n ≡ b → ((j : ℕ) → index_of n xs (i + 1) d ≡ i + 1 + j → (i + 1 + j ≡ d → ⊥) → get_or xs j 0 ≡ n)
        → cond b i (index_of n xs (i + 1) d) ≡ i + k → get_or (x ∷ xs) k 0 ≡ n
    go true q r e = let z : k ≡ 0 = omega arith in rw z (eqb-true x n q)
    go false q r e = at k e h
      where
        at : (k : ℕ) → index_of n xs (i + 1) d ≡ i + k → (i + k ≡ d → ⊥) → get_or (x ∷ xs) k 0 ≡ n
        at zero e h = let l = index_least n xs (i + 1) d (λ (y : index_of n xs (i + 1) d ≡ d). h (sym e ∙ y)) in absurd (omega arith)
        at (suc j) e h = let s : i + suc j ≡ i + 1 + j = omega arith in r j (e ∙ s) (λ (y : i + 1 + j ≡ d). h (s ∙ y))

-- where none stands twice, each is found at its own place
pub index_own : (xs : List ℕ) (i k d : ℕ) → repeats xs ≡ false → k < length xs → index_of (get_or xs k 0) xs i d ≡ i + k
unfolding index_of repeats
index_own [] i k d e h = absurd (not-suc-le-zero h)
index_own (x ∷ xs) i zero d e h = let z : i + 0 ≡ i = omega arith in rw (eq-eqb x x refl, z)
index_own (x ∷ xs) i (suc k) d e h =
    let other = any_none (λ (y : ℕ). eqb y x) xs 0 (or_fst (holds x xs) (repeats xs) e) k (le_of_suc-le-suc h) in
    let differs = ne_eqb x (get_or xs k 0) (λ (y : x ≡ get_or xs k 0). eqb-false (get_or xs k 0) x other (sym y)) in
    let z : i + suc k ≡ i + 1 + k = omega arith in
    rw (differs, z) (index_own xs (i + 1) k d (or_snd (holds x xs) (repeats xs) e) (le_of_suc-le-suc h))

-- so a number is that of the i-th exactly when it is found there
pub index_same : (xs : List ℕ) (n i : ℕ) → repeats xs ≡ false → i < length xs → length xs ≤ 256
    → eqb n (get_or xs i 0) ≡ eqb (index_of n xs 0 256) i
index_same xs n i e h l = go (eqb n (get_or xs i 0)) (eqb (index_of n xs 0 256) i) refl refl
  where
    go : (b c : Bool) → eqb n (get_or xs i 0) ≡ b → eqb (index_of n xs 0 256) i ≡ c → eqb n (get_or xs i 0) ≡ eqb (index_of n xs 0 256) i
    go true true p q = p ∙ sym q
    go false false p q = p ∙ sym q
    go true false p q =
        let own : index_of (get_or xs i 0) xs 0 256 ≡ i = (let z = index_own xs 0 i 256 e h in omega arith) in
        let same = eqb-true n (get_or xs i 0) p in
        absurd (eqb-false (index_of n xs 0 256) i q (rw same own))
    go false true p q =
        let at : index_of n xs 0 256 ≡ 0 + i = (let z = eqb-true (index_of n xs 0 256) i q in omega arith) in
        absurd (eqb-false n (get_or xs i 0) p (sym (index_get n xs 0 i 256 at (λ (y : 0 + i ≡ 256). absurd (omega arith)))))

-- two places of one number are one place
pub distinct : (xs : List ℕ) → repeats xs ≡ false → (i j : ℕ) → i < length xs → j < length xs → get_or xs i 0 ≡ get_or xs j 0 → i ≡ j
distinct xs e i j h l q =
    let a = index_own xs 0 i (length xs) e h in
    let b = index_own xs 0 j (length xs) e l in
    let c = sym a ∙ ap (λ (n : ℕ). index_of n xs 0 (length xs)) q ∙ b in
    omega arith
