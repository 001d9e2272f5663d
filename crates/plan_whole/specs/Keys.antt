-- Number 7, as the code reads it: the keys that must stand once, in the file.
use Rattle.std.specs.Prelude.{Bool, cond, false, true, ◌||◌, ◌≡◌, ℕ, ◌*◌, ◌+◌, ◌≤◌, eqb, length}
use Rattle.std.specs.List.{list_any}
use mathlib.Core.List.{List, [], map, ◌∷◌}
use Rattle.std.proofs.Math.Path.{ap, refl}
use native.Mathlib.Omega.{arith}
use Rattle.fields.specs.Fields.{u16_at}
use Rattle.plan_format.specs.Laws.{Each, Room}
use Rattle.plan_format.specs.Plan.{Starts, any, holds, number_of, place_key, place_lane, plan_of, repeats, section_key, twice}
use Rattle.plan_format.specs.Records.{lane_at, place_at, raised_at, section_at}

abbrev pub pair_at : List ℕ → ℕ → ℕ
pair_at s at = u16_at s at * 65536 + u16_at s (at + 2)

unfoldable pub key_at : List ℕ → ℕ → ℕ → ℕ
key_at s which at =
    cond (eqb which 0) (u16_at s (at + 6))
    (cond (eqb which 1) (pair_at s (at + 6)) (pair_at s (at + 8) * 4294967296 + raised_at s (at + 12)))

-- a part whose records have keys, and at most n
pub record Listed (s part : List ℕ) (n : ℕ) : Type 0 where
  pub room : Each (Room 16 s) part
  pub count : length part ≤ n

-- std's word for a test of each element is the definition's
pub any_is : {A : Type 0} (test : A → Bool) (xs : List A) → list_any test xs ≡ any test xs
unfolding any
any_is test [] = refl
any_is test (x ∷ xs) = ap (λ (b : Bool). test x || b) (any_is test xs)

-- the keys that are left after one more
module _ (keys later : List ℕ) (x : ℕ) (e : keys ≡ x ∷ later) where
  pub repeat_here : holds x later ≡ true → repeats keys ≡ true
  unfolding repeats
  repeat_here h = rw (e, h)

  pub repeat_later : holds x later ≡ false → repeats later ≡ repeats keys
  unfolding repeats
  repeat_later h = rw (e, h)

pub repeat_end : (keys : List ℕ) → length keys ≡ 0 → repeats keys ≡ false
unfolding repeats
repeat_end [] h = refl
repeat_end (x ∷ xs) h = absurd (omega arith)

-- the keys of the plan's records are what stands in the file
module _ (s : List ℕ) where
  pub lane_keys : (ps : List ℕ) → map number_of (map (lane_at s) ps) ≡ map (key_at s 0) ps
  unfolding key_at
  lane_keys [] = refl
  lane_keys (p ∷ ps) = ap (λ (r : List ℕ). u16_at s (p + 6) ∷ r) (lane_keys ps)

  pub section_keys : (ps : List ℕ) → map section_key (map (section_at s) ps) ≡ map (key_at s 1) ps
  unfolding key_at
  section_keys [] = refl
  section_keys (p ∷ ps) = let e : p + 6 + 2 ≡ p + 8 = omega arith in rw (e, section_keys ps)

  pub place_lanes : (ps : List ℕ) → map place_lane (map (place_at s) ps) ≡ map (key_at s 0) ps
  unfolding key_at
  place_lanes [] = refl
  place_lanes (p ∷ ps) = ap (λ (r : List ℕ). u16_at s (p + 6) ∷ r) (place_lanes ps)

  pub place_keys : (ps : List ℕ) → map place_key (map (place_at s) ps) ≡ map (key_at s 2) ps
  unfolding key_at
  place_keys [] = refl
  place_keys (p ∷ ps) = let e : p + 8 + 2 ≡ p + 10 = omega arith in rw (e, place_keys ps)

-- number 7, as the code reads it
unfoldable pub twice_in : List ℕ → List ℕ → List ℕ → List ℕ → Bool
twice_in s ls ss ps =
    repeats (map (key_at s 0) ls) ||
    (repeats (map (key_at s 1) ss) || (repeats (map (key_at s 0) ps) || repeats (map (key_at s 2) ps)))

pub twice_is : (s : List ℕ) (a : Starts) → twice (plan_of s a) ≡ twice_in s a.lanes a.sections a.places
unfolding twice twice_in
twice_is s a = rw (lane_keys s a.lanes, section_keys s a.sections, place_lanes s a.places, place_keys s a.places)
