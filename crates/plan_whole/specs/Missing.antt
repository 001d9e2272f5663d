-- Number 8, as the code reads it.
use Rattle.std.specs.Prelude.{Bool, false, not, true, List, [], map, ◌∷◌, refl, ◌≡◌, ℕ, ◌+◌, ◌<◌, ◌≤◌, eqb, get_or, length}
use Rattle.std.specs.Prelude.{Option, None, Some, IfSome, cond, is_some, unwrap_or}
use Rattle.std.specs.List.{position_from}
use Rattle.std.proofs.Common.{ap, sym, ◌∙◌, true≢false}
use native.Mathlib.Omega.{arith}
use borrow.Author.Tests.{eq-eqb, ne_eqb}
use Rattle.fields.specs.Fields.{u16_at}
use Rattle.plan_format.specs.Laws.{Each, Room, any_map, any_same, get_or_map_in}
use Rattle.plan_format.specs.Lookup.{index_in}
use Rattle.plan_format.specs.Plan.{Starts, any, index_of, lane_count, misplaced, plan_of, section_count, unlike}
use Rattle.plan_format.specs.Records.{lane_at, place_at, section_at}
use Rattle.plan_whole.specs.ByNumber.{ByNumber}
use Rattle.plan_whole.specs.Keys.{key_at, lane_keys, pair_at, section_keys}

abbrev pub word_at : List ℕ → ℕ → ℕ → ℕ
word_at s off p = u16_at s (p + off)

unfoldable pub misplaced_in : List ℕ → List ℕ → List ℕ → ℕ → Bool
misplaced_in s ls ss at =
    unlike (map (word_at s 11) ls) (map (word_at s 26) ss) (index_of (u16_at s (at + 6)) (map (key_at s 0) ls) 0 256)
    (index_of (pair_at s (at + 8)) (map (key_at s 1) ss) 0 64)

-- what the search for a place's lane and section reads: the starts, the row of each number, and the sections' keys
pub record Searching (s ls ss m : List ℕ) : Type 0 where
  pub lane : Each (Room 16 s) ls
  pub lanes : length ls ≤ 256
  pub section : Each (Room 28 s) ss
  pub sections : length ss ≤ 64
  pub rows : ByNumber m (map (key_at s 0) ls) 0

-- the first of the keys that is k, by the index that `position` gives
pub first_is : (k : ℕ) (keys : List ℕ) (i d : ℕ) → unwrap_or (position_from (λ x. eqb x k) i keys) d ≡ index_of k keys i d
unfolding index_of
first_is k [] i d = refl
first_is k (x ∷ keys) i d = go (eqb x k) (first_is k keys (i + 1) d)
  where
    go : (b : Bool) → unwrap_or (position_from (λ y. eqb y k) (i + 1) keys) d ≡ index_of k keys (i + 1) d
        → unwrap_or (cond b (Some i) (position_from (λ y. eqb y k) (i + 1) keys)) d ≡ cond b i (index_of k keys (i + 1) d)
    go true e = refl
    go false e = e

module _ (s : List ℕ) where
  lane_counts : (ps : List ℕ) → map lane_count (map (lane_at s) ps) ≡ map (word_at s 11) ps
  lane_counts [] = refl
  lane_counts (p ∷ ps) = ap (λ (r : List ℕ). u16_at s (p + 11) ∷ r) (lane_counts ps)

  section_counts : (ps : List ℕ) → map section_count (map (section_at s) ps) ≡ map (word_at s 26) ps
  section_counts [] = refl
  section_counts (p ∷ ps) = ap (λ (r : List ℕ). u16_at s (p + 26) ∷ r) (section_counts ps)

  one_is : (a : Starts) (p : ℕ) → misplaced (plan_of s a) (place_at s p) ≡ misplaced_in s a.lanes a.sections p
  unfolding misplaced_in
  one_is a p =
      let e : p + 8 + 2 ≡ p + 10 = omega arith in
      rw (lane_counts a.lanes, section_counts a.sections, lane_keys s a.lanes, section_keys s a.sections, e)

  pub wrong_is : (a : Starts) (ps : List ℕ)
      → any (misplaced (plan_of s a)) (map (place_at s) ps) ≡ any (misplaced_in s a.lanes a.sections) ps
  wrong_is a ps =
      any_map (misplaced (plan_of s a)) (place_at s) ps
      ∙ any_same (λ (p : ℕ). misplaced (plan_of s a) (place_at s p)) (misplaced_in s a.lanes a.sections) ps (one_is a)

pub row_is : (s ls m : List ℕ) (at i : ℕ) → ByNumber m (map (key_at s 0) ls) 0
    → (i ≡ get_or m (u16_at s (at + 6)) 0) × (u16_at s (at + 6) < 65536) → i ≡ index_of (u16_at s (at + 6)) (map (key_at s 0) ls) 0 256
row_is s ls m at i S e = e.0 ∙ S.at (u16_at s (at + 6)) e.1

-- a number has no row exactly where the list that m indexes lacks it
pub missing_is : (m ns : List ℕ) → ByNumber m ns 0 → (r : Option ℕ) (n : ℕ) (b : Bool) → unwrap_or r 256 ≡ get_or m n 0
    → IfSome r (λ i. i ≡ 256 → ⊥) → n < 65536 → is_some r ≡ not b → b ≡ eqb (index_of n ns 0 256) 256
missing_is m ns S None n true e h l b = sym (eq-eqb _ _ (sym (e ∙ S.at n l)))
missing_is m ns S None n false e h l b = absurd (true≢false (sym b))
missing_is m ns S (Some i) n true e h l b = absurd (true≢false b)
missing_is m ns S (Some i) n false e h l b = sym (ne_eqb _ _ (λ (y : index_of n ns 0 256 ≡ 256). h (e ∙ S.at n l ∙ y)))

-- one place, in the words of the code
module _ (s ls ss : List ℕ) (at i : ℕ) (ei : i ≡ index_of (u16_at s (at + 6)) (map (key_at s 0) ls) 0 256) where
  pub wrong_lane : i ≡ 256 → true ≡ misplaced_in s ls ss at
  unfolding misplaced_in
  wrong_lane h = rw (← ei) (simp (eq-eqb i 256 h))

  pub lane_in : (i ≡ 256 → ⊥) → i < length ls
  lane_in h = index_in (u16_at s (at + 6)) (key_at s 0) ls i 256 ei h

  module _ (j : ℕ) (ej : j ≡ index_of (pair_at s (at + 8)) (map (key_at s 1) ss) 0 64) (h : i ≡ 256 → ⊥) where
    pub wrong_section : j ≡ 64 → true ≡ misplaced_in s ls ss at
    unfolding misplaced_in
    wrong_section k = rw (← ei, ← ej) (simp (ne_eqb i 256 h, eq-eqb j 64 k))

    pub section_in : (j ≡ 64 → ⊥) → j < length ss
    section_in k = index_in (pair_at s (at + 8)) (key_at s 1) ss j 64 ej k

    pub right_counts : (j ≡ 64 → ⊥) → not (eqb (u16_at s (get_or ls i 0 + 11)) (u16_at s (get_or ss j 0 + 26))) ≡ misplaced_in s ls ss at
    unfolding misplaced_in
    right_counts k =
        let l = get_or_map_in (word_at s 11) ls i 0 0 (lane_in h) in
        let m = get_or_map_in (word_at s 26) ss j 0 0 (section_in k) in
        rw (← ei, ← ej) (simp (ne_eqb i 256 h, ne_eqb j 64 k, l, m))
