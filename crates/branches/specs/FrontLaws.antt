-- Entering a lane adds as many branches as keys, at most 1,024 keys, and no key twice.
use Rattle.std.specs.Prelude.{◌≡◌, Bool, not, ◌&&◌, List, [], ◌∷◌, ℕ, ◌+◌, ◌≤◌, ltb, length, Float}
use Rattle.std.proofs.Math.Path.{refl}
use Rattle.std.proofs.Math.Bool.{true, false}
use Rattle.std.proofs.Common.{arith}
use borrow.Author.Tests.{ltb-true}
use Rattle.branches.specs.declared.Branch.{Branch}
use Rattle.branches.specs.declared.Key.{Key}
use Rattle.branches.specs.declared.Leaving.{Leaving}
use Rattle.branches.specs.Branches.{key_of, branch_onto, same_key, holds}
use Rattle.branches.specs.Front.{Front, pick_front, enter, enter_all}

-- no key stands twice, so that there are as many keys as the list is long
unfoldable pub once : List Key → Bool
once [] = true
once (k ∷ ks) = not (holds same_key k ks) && once ks

pub record Grown (f g : Front) : Type 0 where
  pub branches : length g.todo + length f.entered ≡ length f.todo + length g.entered
  pub limit : length f.entered ≤ 1024 → length g.entered ≤ 1024
  pub distinct : once f.entered ≡ true → once g.entered ≡ true

pub grown_same : (f : Front) → Grown f f
grown_same f = record { branches = refl; limit = λ h. h; distinct = λ h. h }

grown_then : (f g h : Front) → Grown f g → Grown g h → Grown f h
grown_then f g h p q =
    record {
      branches = omega (arith, p.branches, q.branches);
      limit = λ l. q.limit (p.limit l);
      distinct = λ d. q.distinct
          (p.distinct d);
    }

module _ (lanes : List ℕ) (b : Branch) (f : Front) where
  abbrev key : Key
  key = key_of lanes b

  abbrev more : Front
  more = record { todo = b ∷ f.todo; entered = key ∷ f.entered; full = f.full }

  abbrev fuller : Front
  fuller = record { todo = f.todo; entered = f.entered; full = true }

  by_room : (r : Bool) → ltb (length f.entered) 1024 ≡ r → holds same_key key f.entered ≡ false → Grown f (pick_front r more fuller)
  unfolding once
  by_room true e new =
      let room = ltb-true (length f.entered) 1024 e in
      record { branches = omega arith; limit = λ _. omega arith; distinct = λ d. rw (new, d) }
  by_room false e new = record { branches = refl; limit = λ h. h; distinct = λ h. h }

  by_key : (t : Bool) → holds same_key key f.entered ≡ t
      → Grown f (pick_front t f (pick_front (ltb (length f.entered) 1024) more fuller))
  by_key true e = grown_same f
  by_key false e = by_room (ltb (length f.entered) 1024) refl e

  pub grown_enter : Grown f (enter lanes b f)
  unfolding enter
  grown_enter = by_key (holds same_key key f.entered) refl

pub grown_all : (lanes : List ℕ) (points cumulative : List Float) (ahead : Bool) (l : Leaving) (xs : List ℕ) (f : Front)
    → Grown f (enter_all lanes points cumulative ahead l xs f)
unfolding enter_all
grown_all lanes points cumulative ahead l [] f = grown_same f
grown_all lanes points cumulative ahead l (x ∷ xs) f =
    let rest = enter_all lanes points cumulative ahead l xs f in
    grown_then f rest (enter lanes (branch_onto lanes points cumulative ahead l x) rest) (grown_all lanes points cumulative ahead l xs f)
    (grown_enter lanes (branch_onto lanes points cumulative ahead l x) rest)
