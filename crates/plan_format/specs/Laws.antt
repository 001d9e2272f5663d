-- Laws of Bools and lists that every layer above cites.
use Rattle.std.specs.Prelude.{Bool, false, true, ◌&&◌, ◌||◌, List, [], map, ◌++◌, ◌∷◌, refl, ◌≡◌, suc, zero, ℕ, ◌+◌, ◌<◌, ◌≤◌, ltb, drop, get_or, length}
use Rattle.std.proofs.Common.{true≢false, ap, subst, sym, ◌∙◌, le_of_suc-le-suc, not-suc-le-zero, add-one, arith, drop_of_length-le, length-append, drop-cons, get_or-append-add, ltb-false, ltb-true}
use Rattle.std.proofs.Math.ListN.{get_or-append, get_or-map}
use Rattle.std.proofs.lemmas.List.{length-map}
use Rattle.fields.specs.Fields.{u16_at, u32_at}
use Rattle.plan_format.specs.Plan.{any, every}

-- a part that holds of each element
abbrev pub Each : (ℕ → Type 0) → List ℕ → Type 0
Each P xs = (j : ℕ) → j < length xs → P (get_or xs j 0)

-- a list of bytes
abbrev pub Bytes : List ℕ → Type 0
Bytes s = (i : ℕ) → get_or s i 0 < 256

pub word_below : (s : List ℕ) (at : ℕ) → Bytes s → u16_at s at < 65536
word_below s at B = omega (arith, B at, B (at + 1))

pub long_below : (s : List ℕ) (at : ℕ) → Bytes s → u32_at s at < 4294967296
unfolding u32_at
long_below s at B = omega (arith, word_below s at B, word_below s (at + 2) B)

pub and_left : (a b : Bool) → a ≡ false → (a && b) ≡ false
and_left a b e = ap (λ (x : Bool). x && b) e

pub and_right : (a b : Bool) → b ≡ false → (a && b) ≡ false
and_right true b e = e
and_right false b e = refl

pub and_both : (a b : Bool) → a ≡ true → b ≡ true → (a && b) ≡ true
and_both a b e f = ap (λ (x : Bool). x && b) e ∙ f

pub and_fst : (a b : Bool) → (a && b) ≡ true → a ≡ true
and_fst true b e = refl
and_fst false b e = e

pub and_snd : (a b : Bool) → (a && b) ≡ true → b ≡ true
and_snd true b e = e
and_snd false b e = absurd (true≢false (sym e))

pub or_fst : (a b : Bool) → (a || b) ≡ false → a ≡ false
or_fst true b e = e
or_fst false b e = refl

pub or_snd : (a b : Bool) → (a || b) ≡ false → b ≡ false
or_snd true b e = absurd (true≢false e)
or_snd false b e = e

-- the rest of a list after one more element
pub drop_next : {A : Type 0} (l : List A) (i : ℕ) (d : A) → i < length l → drop i l ≡ get_or l i d ∷ drop (i + 1) l
drop_next l i d h = drop-cons l i d h ∙ ap (λ (k : ℕ). get_or l i d ∷ drop k l) (sym (add-one i))

pub drop_none : {A : Type 0} (l : List A) (i : ℕ) → length l ≤ i → drop i l ≡ []
drop_none l i h = drop_of_length-le l h

pub map_next : {A : Type 0} (f : ℕ → A) (l : List ℕ) (i : ℕ) → i < length l → map f (drop i l) ≡ f (get_or l i 0) ∷ map f (drop (i + 1) l)
map_next f l i h = ap (map f) (drop_next l i 0 h)

pub map_none : {A : Type 0} (f : ℕ → A) (l : List ℕ) (i : ℕ) → length l ≤ i → map f (drop i l) ≡ []
map_none f l i h = ap (map f) (drop_none l i h)

-- what stands for an entry past the end does not matter below it
pub get_d_any : {A : Type 0} (l : List A) (i : ℕ) (a b : A) → i < length l → get_or l i a ≡ get_or l i b
get_d_any [] i a b h = absurd (not-suc-le-zero h)
get_d_any (x ∷ xs) zero a b h = refl
get_d_any (x ∷ xs) (suc i) a b h = get_d_any xs i a b (le_of_suc-le-suc h)

pub get_or_map_in : {A B : Type 0} (f : A → B) (l : List A) (i : ℕ) (d : A) (b : B) → i < length l → get_or (map f l) i b ≡ f (get_or l i d)
get_or_map_in f l i d b h = get_d_any (map f l) i b (f d) (omega (arith, length-map l f)) ∙ get_or-map f l i d

pub length_snoc : (xs : List ℕ) (v : ℕ) → length (xs ++ (v ∷ [])) ≡ length xs + 1
length_snoc xs v = length-append xs (v ∷ [])

pub each_snoc : (P : ℕ → Type 0) (xs : List ℕ) (v : ℕ) → Each P xs → P v → Each P (xs ++ (v ∷ []))
each_snoc P xs v e p j h = go (ltb j (length xs)) refl
  where
    go : (b : Bool) → ltb j (length xs) ≡ b → P (get_or (xs ++ (v ∷ [])) j 0)
    go true q = subst P (sym (get_or-append xs (v ∷ []) 0 j (ltb-true j (length xs) q))) (e j (ltb-true j (length xs) q))
    go false q =
        let l = ltb-false j (length xs) q in
        let n = length_snoc xs v in
        let k : j ≡ length xs + 0 = omega arith in
        subst P (sym (ap (λ (i : ℕ). get_or (xs ++ (v ∷ [])) i 0) k ∙ get_or-append-add xs (v ∷ []) 0 0)) p

-- n bytes from `at` on lie in the file
abbrev pub Room : ℕ → List ℕ → ℕ → Type 0
Room n s at = at + n ≤ length s

-- a test of each element in turn, from the i-th on: at the end
module _ {A : Type 0} (test : A → Bool) (xs : List A) (i : ℕ) (d : A) where
  pub any_end : length xs ≤ i → any test (drop i xs) ≡ false
  unfolding any
  any_end h = rw (drop_none xs i h)

pub any_map : {A B : Type 0} (test : B → Bool) (f : A → B) (xs : List A) → any test (map f xs) ≡ any (λ (x : A). test (f x)) xs
unfolding any
any_map test f [] = refl
any_map test f (x ∷ xs) = ap (λ (b : Bool). test (f x) || b) (any_map test f xs)

-- two tests that agree
pub any_same : {A : Type 0} (test other : A → Bool) (xs : List A) → ((x : A) → test x ≡ other x) → any test xs ≡ any other xs
unfolding any
any_same test other [] h = refl
any_same test other (x ∷ xs) h = rw (h x, any_same test other xs h)

-- what holds of no element, or of every element, of each
pub any_none : {A : Type 0} (test : A → Bool) (xs : List A) (d : A) → any test xs ≡ false → (i : ℕ) → i < length xs
    → test (get_or xs i d) ≡ false
unfolding any
any_none test [] d e i h = absurd (not-suc-le-zero h)
any_none test (x ∷ xs) d e zero h = or_fst (test x) (any test xs) e
any_none test (x ∷ xs) d e (suc i) h = any_none test xs d (or_snd (test x) (any test xs) e) i (le_of_suc-le-suc h)

pub every_each : {A : Type 0} (test : A → Bool) (xs : List A) (d : A) → every test xs ≡ true → (i : ℕ) → i < length xs
    → test (get_or xs i d) ≡ true
unfolding every
every_each test [] d e i h = absurd (not-suc-le-zero h)
every_each test (x ∷ xs) d e zero h = and_fst (test x) (every test xs) e
every_each test (x ∷ xs) d e (suc i) h = every_each test xs d (and_snd (test x) (every test xs) e) i (le_of_suc-le-suc h)
