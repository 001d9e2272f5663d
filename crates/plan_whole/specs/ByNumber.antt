-- A list with the row of each lane number, so that a lane is found in one step.
use Rattle.std.specs.Prelude.{Bool, cond, false, true, List, [], map, ◌∷◌, refl, ◌≡◌, ℕ, ◌+◌, ◌-◌, ◌<◌, ◌≤◌, eqb, drop, get_or, length, set}
use Rattle.std.proofs.Common.{subst, sym, ◌∙◌, arith, length-set, get_or-set_other, get_or-set_same, eqb-true}
use Rattle.std.proofs.lemmas.Bool.{eqb-false}
use Rattle.fields.specs.Fields.{u16_at}
use Rattle.plan_format.specs.Laws.{map_next, map_none}
use Rattle.plan_format.specs.Plan.{index_of}
use Rattle.plan_whole.specs.Keys.{key_at}

-- a table of the lanes by their numbers: those of `ns`, whose first has the place i
pub record ByNumber (m ns : List ℕ) (i : ℕ) : Type 0 where
  pub size : length m ≡ 65536
  pub at : (n : ℕ) → n < 65536 → get_or m n 0 ≡ index_of n ns i 256

pub number_one : (m ns : List ℕ) (x i : ℕ) → ByNumber m ns (i + 1) → x < 65536 → ByNumber (set m x i) (x ∷ ns) i
unfolding index_of
number_one m ns x i S h = record { size = length-set m x i ∙ S.size; at = λ n l. go n l (eqb x n) refl }
  where
    go : (n : ℕ) → n < 65536 → (b : Bool) → eqb x n ≡ b → get_or (set m x i) n 0 ≡ cond (eqb x n) i (index_of n ns (i + 1) 256)
    go n l true e = let q = eqb-true x n e in rw (e, ← q) (get_or-set_same m x i 0 (omega (arith, S.size)))
    go n l false e = rw e (get_or-set_other m x n i 0 (λ (y : n ≡ x). eqb-false x n e (sym y)) ∙ S.at n l)

pub numbers_clear : (m : List ℕ) → length m ≡ 65536 → ((n : ℕ) → n < 65536 → get_or m n 0 ≡ 256) → ByNumber m [] 0
unfolding index_of
numbers_clear m e h = record { size = e; at = h }

pub numbers_none : (m : List ℕ) (i : ℕ) → ByNumber m [] 0 → ByNumber m [] i
unfolding index_of
numbers_none m i S = record { size = S.size; at = S.at }

pub numbers_first : (s lanes m : List ℕ) → ByNumber m [] 0 → ByNumber m (map (key_at s 0) (drop (length lanes) lanes)) (length lanes)
numbers_first s lanes m S = rw (map_none (key_at s 0) lanes (length lanes) (omega arith)) (numbers_none m (length lanes) S)

pub numbers_next : (s lanes m : List ℕ) (i n : ℕ) → ByNumber m (map (key_at s 0) (drop i lanes)) i → 0 < i → i ≤ length lanes
    → n ≡ u16_at s (get_or lanes (i - 1) 0 + 6) → n < 65536
    → ByNumber (set m n (i - 1)) (map (key_at s 0) (drop (i - 1) lanes)) (i - 1)
unfolding key_at
numbers_next s lanes m i n S h l e b =
    let k : i ≡ i - 1 + 1 = omega arith in
    let under : i - 1 < length lanes = omega arith in
    rw (map_next (key_at s 0) lanes (i - 1) under, ← e)
    (number_one m (map (key_at s 0) (drop (i - 1 + 1) lanes)) n (i - 1)
    (subst (λ (j : ℕ). ByNumber m (map (key_at s 0) (drop j lanes)) j) k S) b)
