-- What the code's steps make of a run's state.
use Rattle.std.specs.Prelude.{◌≡◌, Bool, true, false, not, ◌&&◌, Float}
use Rattle.std.proofs.Math.Path.{refl, sym, ap}
use Rattle.std.proofs.Common.{◌∙◌, true≢false, arith}
use mathlib.Core.List.{List, [], ◌∷◌}
use Prim.Native.Nat.{ℕ, zero, suc, ◌+◌, ◌-◌, ◌<◌, ◌≤◌}
use Rattle.std.specs.Float.{binary64}
use Rattle.std.specs.Float.Ieee.{sub, lt}
use Rattle.coords.specs.declared.Point.{Point}
use Rattle.rows.specs.Rows.{length_of}
use Rattle.branches.specs.declared.Branch.{Branch}
use Rattle.branches.specs.declared.Leaving.{Leaving}
use Rattle.branches.specs.Tables.{Tables, led_to}
use Rattle.branches.specs.Branches.{room_of, exit_of, leaving_of, link_end, link_count, linked_of, next_lanes}
use Rattle.branches.specs.Front.{enter_all, is_empty}
use Rattle.ends.specs.Ends.{Found, place_in}
use Rattle.explore.specs.Explore.{State, follow, step, goes_on, run, run_from}
use Rattle.branches.specs.Links.{LinkFront, enter_links, links_are}

-- ---- a branch that is followed
module _ (t : Tables) (ahead : Bool) (b : Branch) (q : State) (room : Float)
    (is : room ≡ room_of b.up (length_of t.lanes t.cumulative b.lane) b.arc) where
  abbrev leaving : Leaving
  leaving = leaving_of t.lanes t.points t.cumulative b room

  pub follow_end : lt room b.remaining ≡ false → (found : Found) → found ≡ place_in t ahead b room q.found
      → record { front = q.front; found = found } ≡ follow t ahead b q
  unfolding follow
  follow_end f found e = sym (rw (← is, f, ← e))

  -- the links as the code finds them
  pub entered_by : (e : LinkFront) (end count : ℕ) (exit : Point) → end ≡ link_end t.fans ahead b.lane
      → count ≡ link_count t.fans ahead b.lane
      → exit ≡ exit_of t.lanes t.points t.cumulative b.lane b.up
      → e ≡ enter_links t.lanes t.lane_count t.points t.cumulative ahead
      (record { lane = b.lane; up = b.up; exit = exit; left = b.left; remaining = sub binary64 b.remaining room })
      (led_to t.links end count) q.front
      → e ≡ enter_links t.lanes t.lane_count t.points t.cumulative ahead leaving (linked_of t ahead b.lane) q.front
  entered_by e end count exit e₁ e₂ e₃ h = rw (e₁, e₂, e₃) at h

  module _ (left : lt room b.remaining ≡ true) (e : LinkFront)
      (entered : e ≡ enter_links t.lanes t.lane_count t.points t.cumulative ahead leaving (linked_of t ahead b.lane)
      q.front) where
    any_is : e.any ≡ not (is_empty (next_lanes t ahead b))
    unfolding next_lanes
    any_is =
        ap (λ (x : LinkFront). x.any)
        (entered ∙ links_are t.lanes t.lane_count t.points t.cumulative ahead leaving (linked_of t ahead b.lane) q.front)

    front_is : e.front ≡ enter_all t.lanes t.points t.cumulative ahead leaving (next_lanes t ahead b) q.front
    unfolding next_lanes
    front_is =
        ap (λ (x : LinkFront). x.front)
        (entered ∙ links_are t.lanes t.lane_count t.points t.cumulative ahead leaving (linked_of t ahead b.lane) q.front)

    pub follow_on : e.any ≡ true → record { front = e.front; found = q.found } ≡ follow t ahead b q
    unfolding follow
    follow_on a = sym (rw (← is, left, sym any_is ∙ a, ← front_is))

    none_entered : (xs : List ℕ) → not (is_empty xs) ≡ false
        → enter_all t.lanes t.points t.cumulative ahead leaving xs q.front ≡ q.front
    unfolding enter_all
    none_entered [] h = refl
    none_entered (x ∷ xs) h = absurd (true≢false h)

    pub follow_dead : e.any ≡ false → (found : Found) → found ≡ place_in t ahead b room q.found
        → record { front = e.front; found = found } ≡ follow t ahead b q
    unfolding follow
    follow_dead a found g = sym (rw (← is, left, sym any_is ∙ a, ← g, front_is ∙ none_entered (next_lanes t ahead b) (sym any_is ∙ a)))

-- ---- whether there is a next step
pub none_left : (todo : List Branch) (full : Bool) → todo ≡ [] → (not (is_empty todo) && not full) ≡ false
none_left todo full e = rw e

pub keys_full : (b full : Bool) → full ≡ true → (b && not full) ≡ false
keys_full true full e = rw e
keys_full false full e = refl

pub some_left : (todo : List Branch) (full : Bool) → (todo ≡ [] → ⊥) → full ≡ false → (not (is_empty todo) && not full) ≡ true
some_left [] full h e = absurd (h refl)
some_left (b ∷ bs) full h e = rw e

-- ---- the counted steps
module _ (t : Tables) (ahead : Bool) (q : State) where
  pub run_none : (k : ℕ) → goes_on q ≡ false → run_from t ahead k q ≡ q
  unfolding run
  run_none zero e = refl
  run_none (suc k) e = ap (λ (b : Bool). run t ahead (suc k) b q) e

  pub run_zero : run_from t ahead 0 q ≡ q
  unfolding run
  run_zero = refl

  pub run_one : (k : ℕ) → goes_on q ≡ true → run_from t ahead (suc k) q ≡ run_from t ahead k (step t ahead q)
  unfolding run
  run_one k e = ap (λ (b : Bool). run t ahead (suc k) b q) e

  pub run_next : (k : ℕ) (r x : State) → k < 1026 → goes_on q ≡ true → r ≡ step t ahead q → run_from t ahead (1026 - k) q ≡ x
      → run_from t ahead (1026 - (k + 1)) r ≡ x
  run_next k r x h g e p =
      let one : 1026 - k ≡ suc (1026 - (k + 1)) = omega arith in
      ap (run_from t ahead (1026 - (k + 1))) e ∙ sym (run_one (1026 - (k + 1)) g) ∙ ap (λ (j : ℕ). run_from t ahead j q) (sym one) ∙ p

  pub run_ended : (k : ℕ) (x : State) → 1026 ≤ k → run_from t ahead (1026 - k) q ≡ x → q ≡ x
  run_ended k x h p =
      let none : 1026 - k ≡ 0 = omega arith in
      sym run_zero ∙ ap (λ (j : ℕ). run_from t ahead j q) (sym none) ∙ p
