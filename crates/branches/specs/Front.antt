-- advance.rs: the branches in flight and the keys entered, newest first. Definitions only.
use Rattle.std.specs.Prelude.{Bool, true, false, cond, List, [], ◌∷◌, ℕ, ltb, length, Float}
use Rattle.branches.specs.declared.Branch.{Branch}
use Rattle.branches.specs.declared.Key.{Key}
use Rattle.branches.specs.declared.Leaving.{Leaving}
use Rattle.branches.specs.Branches.{branch_onto, key_of, same_key, holds}

-- the branches in flight and the keys entered; `full` once a 1,025th key would be entered
pub record Front : Type 0 where
  pub todo : List Branch
  pub entered : List Key
  pub full : Bool

abbrev pub pick_front : Bool → Front → Front → Front
pick_front b x y = cond b x y

-- a branch goes on unless its key was entered before
unfoldable pub enter : List ℕ → Branch → Front → Front
enter lanes b f =
    let k = key_of lanes b in
    pick_front (holds same_key k f.entered) f
    (pick_front (ltb (length f.entered) 1024) (record { todo = b ∷ f.todo; entered = k ∷ f.entered; full = f.full })
    (record { todo = f.todo; entered = f.entered; full = true }))

-- the lanes are entered from the last to the first
unfoldable pub enter_all : List ℕ → List Float → List Float → Bool → Leaving → List ℕ → Front → Front
enter_all lanes points cumulative ahead l [] f = f
enter_all lanes points cumulative ahead l (x ∷ xs) f = enter lanes (branch_onto lanes points cumulative ahead l x)
    (enter_all lanes points cumulative ahead l xs f)

abbrev pub is_empty : {A : Type 0} → List A → Bool
is_empty [] = true
is_empty (x ∷ xs) = false
