-- The numbers of the whole file are those of the definition.
use Rattle.std.specs.Prelude.{Bool, cond, ◌||◌, List, map, ℕ, ◌<◌, ◌≤◌, eqb}
use Rattle.std.proofs.Math.Bool.{false, true}
use Rattle.std.proofs.Math.Path.{refl, ◌≡◌}
use Rattle.std.proofs.Common.{sym, arith, le-ltb, lt-ltb, ltb-false}
use Rattle.std.proofs.Math.Dec.{ltb}
use Rattle.plan_format.specs.Laws.{or_fst}
use Rattle.plan_format.specs.Plan.{Starts, accepted, any, from_missing, judged, lacks, plan_of, refused, repeats}
use Rattle.plan_format.specs.Records.{link_at}
use Rattle.plan_whole.specs.Keys.{key_at, lane_keys, twice_is, twice_in}
use Rattle.plan_whole.specs.Missing.{misplaced_in, wrong_is}

-- the numbers of the whole file
unfoldable pub whole_in : List ℕ → ℕ → List ℕ → List ℕ → List ℕ → List ℕ → ℕ
whole_in s side ls ks ss ps =
    cond (ltb 1 side) 5
    (cond (twice_in s ls ss ps) 7
    (cond (any (from_missing (map (key_at s 0) ls)) (map (link_at s) ks) || any (misplaced_in s ls ss) ps) 8 0))

-- they are those of the definition
pub judged_is : (s : List ℕ) (side : ℕ) (a : Starts)
    → judged side (plan_of s a)
    ≡ cond (eqb (whole_in s side a.lanes a.links a.sections a.places) 0) (accepted (plan_of s a))
    (refused (whole_in s side a.lanes a.links a.sections a.places))
unfolding judged whole_in lacks
judged_is s side a =
    rw (twice_is s a, lane_keys s a.lanes, wrong_is s a a.places)
    (go (ltb 1 side) (twice_in s a.lanes a.sections a.places)
    (any (from_missing (map (key_at s 0) a.lanes)) (map (link_at s) a.links) || any (misplaced_in s a.lanes a.sections)
    a.places))
  where
    go : (b₁ b₂ b₃ : Bool) → cond b₁ (refused 5) (cond b₂ (refused 7) (cond b₃ (refused 8) (accepted (plan_of s a))))
        ≡ cond (eqb (cond b₁ 5 (cond b₂ 7 (cond b₃ 8 0))) 0) (accepted (plan_of s a)) (refused (cond b₁ 5 (cond b₂ 7 (cond b₃ 8 0))))
    go true b₂ b₃ = refl
    go false true b₃ = refl
    go false false true = refl
    go false false false = refl

module _ (s : List ℕ) (side : ℕ) (ls ks ss ps : List ℕ) where
  pub whole_side : 1 < side → 5 ≡ whole_in s side ls ks ss ps
  unfolding whole_in
  whole_side h = simp (lt-ltb 1 side h)

  module _ (h : side ≤ 1) where
    pub whole_twice : twice_in s ls ss ps ≡ true → 7 ≡ whole_in s side ls ks ss ps
    unfolding whole_in
    whole_twice e = simp (le-ltb 1 side h, e)

    module _ (e : twice_in s ls ss ps ≡ false) where
      pub whole_from : any (from_missing (map (key_at s 0) ls)) (map (link_at s) ks) ≡ true → 8 ≡ whole_in s side ls ks ss ps
      unfolding whole_in
      whole_from f = simp (le-ltb 1 side h, e, f)

      pub whole_places : any (from_missing (map (key_at s 0) ls)) (map (link_at s) ks) ≡ false → any (misplaced_in s ls ss) ps ≡ true
          → 8 ≡ whole_in s side ls ks ss ps
      unfolding whole_in
      whole_places f g = simp (le-ltb 1 side h, e, f, g)

      pub whole_good : any (from_missing (map (key_at s 0) ls)) (map (link_at s) ks) ≡ false → any (misplaced_in s ls ss) ps ≡ false
          → 0 ≡ whole_in s side ls ks ss ps
      unfolding whole_in
      whole_good f g = simp (le-ltb 1 side h, e, f, g)

-- what a file without number 5, 7 or 8 has
module _ (s : List ℕ) (side : ℕ) (ls ks ss ps : List ℕ) (z : whole_in s side ls ks ss ps ≡ 0) where
  free : (side ≤ 1)
      × (twice_in s ls ss ps ≡ false)
      × (any (from_missing (map (key_at s 0) ls)) (map (link_at s) ks) ≡ false)
      × (any (misplaced_in s ls ss) ps ≡ false)
  unfolding whole_in
  free =
      go (ltb 1 side) (twice_in s ls ss ps) (any (from_missing (map (key_at s 0) ls)) (map (link_at s) ks))
      (any (misplaced_in s ls ss) ps) refl refl refl refl z
    where
      go : (a b c d : Bool) → ltb 1 side ≡ a → twice_in s ls ss ps ≡ b → any (from_missing (map (key_at s 0) ls)) (map (link_at s) ks) ≡ c
          → any (misplaced_in s ls ss) ps ≡ d → ◌≡◌ {A = ℕ} (cond a 5 (cond b 7 (cond (c || d) 8 0))) 0
          → (side ≤ 1)
          × (twice_in s ls ss ps ≡ false)
          × (any (from_missing (map (key_at s 0) ls)) (map (link_at s) ks) ≡ false)
          × (any (misplaced_in s ls ss) ps ≡ false)
      go true b c d ea eb ec ed h = absurd (omega arith)
      go false true c d ea eb ec ed h = absurd (omega arith)
      go false false true d ea eb ec ed h = absurd (omega arith)
      go false false false true ea eb ec ed h = absurd (omega arith)
      go false false false false ea eb ec ed h = (ltb-false 1 side ea, eb, ec, ed)

  -- no lane stands twice, no from-lane is missing
  pub whole_free : (repeats (map (key_at s 0) ls) ≡ false) × (any (from_missing (map (key_at s 0) ls)) (map (link_at s) ks) ≡ false)
  unfolding twice_in
  whole_free = (or_fst (repeats (map (key_at s 0) ls)) _ free.1, free.2)

  -- the side does not matter then
  pub whole_zero : whole_in s 0 ls ks ss ps ≡ 0
  whole_zero = sym (whole_good s 0 ls ks ss ps (omega arith) free.1 free.2 free.3)
