-- What the tests of the code decide.
use Rattle.std.specs.Prelude.{◌≡◌, Bool, cond, not, ◌&&◌, ◌||◌, List, ◌∷◌, ℕ, zero, suc, ◌<◌, ◌≤◌, eqb, length, Float}
use Rattle.std.proofs.Math.Path.{refl, sym}
use Rattle.std.proofs.Common.{ap, true≢false}
use Rattle.std.proofs.Math.Bool.{true, false}
use Rattle.std.proofs.Math.Dec.{ltb}
use borrow.Author.Tests.{ltb-true, lt-ltb, le-ltb}
use Rattle.coords.specs.Coords.{zero⁺}
use Rattle.beside.specs.Sides.{direction_at}
use Rattle.beside.specs.declared.Direction.TheVariants.{Forward, Backward}
use Rattle.rows.specs.Rows.{direction_of, length_of}
use Rattle.branches.specs.declared.Branch.{Branch}
use Rattle.branches.specs.declared.Leaving.{Leaving}
use Rattle.branches.specs.declared.Key.{Key}
use Rattle.branches.specs.Branches.{at_end, is_next, up_on, branch_onto, key_of, same_key, holds}
use Rattle.branches.specs.Front.{Front, enter}

-- ---- where a branch goes on
module _ (lanes : List ℕ) (n : ℕ) (points cumulative : List Float) (i : ℕ) (up : Bool) (next : ℕ) where
  pub next_there : is_next lanes n points cumulative i up next ≡ true → next < n
  unfolding is_next
  next_there e = by (ltb next n) (not (eqb (direction_of lanes i) 2) || at_end lanes points cumulative i next up) refl e
    where
      by : (a b : Bool) → ltb next n ≡ a → (a && b) ≡ true → next < n
      by true b e h = ltb-true next n e
      by false b e h = absurd (true≢false (sym h))

-- ---- which way the traffic of a lane runs
pub forward_at : (n : ℕ) → direction_at n ≡ Forward → n ≡ 0
forward_at zero e = refl
forward_at (suc zero) e = cc
forward_at (suc (suc zero)) e = cc
forward_at (suc (suc (suc n))) e = cc

pub backward_at : (n : ℕ) → direction_at n ≡ Backward → n ≡ 1
backward_at zero e = cc
backward_at (suc zero) e = refl
backward_at (suc (suc zero)) e = cc
backward_at (suc (suc (suc n))) e = cc

-- ---- the branch that enters a lane
module _ (lanes : List ℕ) (points cumulative : List Float) (ahead : Bool) (l : Leaving) (next : ℕ) (up : Bool)
    (way : up ≡ up_on lanes points cumulative ahead l.exit next) where
  abbrev entering : Float → Branch
  entering arc = record { lane = next; arc = arc; up = up; left = l.left; remaining = l.remaining }

  onto_is : branch_onto lanes points cumulative ahead l next ≡ entering (cond up zero⁺ (length_of lanes cumulative next))
  unfolding branch_onto
  onto_is = rw (← way)

  pub onto_lane : (branch_onto lanes points cumulative ahead l next).lane ≡ next
  onto_lane = ap (λ (b : Branch). b.lane) onto_is

-- ---- entering a lane by a new key
module _ (lanes : List ℕ) (b : Branch) (f : Front) (k : Key) (is : k ≡ key_of lanes b) (t : Bool)
    (held : t ≡ holds same_key k f.entered) (new : t ≡ false) where
  pub enter_none : 1024 ≤ length f.entered → record { todo = f.todo; entered = f.entered; full = true } ≡ enter lanes b f
  unfolding enter
  enter_none h = sym (rw (← is, ← held, new, le-ltb (length f.entered) 1024 h))

  pub enter_new : length f.entered < 1024 → (todo : List Branch) (entered : List Key) → todo ≡ b ∷ f.todo → entered ≡ k ∷ f.entered
      → record { todo = todo; entered = entered; full = f.full } ≡ enter lanes b f
  unfolding enter
  enter_new h todo entered e g = sym (rw (← is, ← held, new, lt-ltb (length f.entered) 1024 h, e, g))
