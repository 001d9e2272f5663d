-- Why 1,026 steps suffice: each step takes one branch off, each key entered adds one, and there are at most two first ones. So a run ends
-- with no branch left, or with more keys than fit; and no key is counted twice.
use Rattle.std.specs.Prelude.{◌≡◌, Bool, cond, ◌&&◌, List, [], ◌∷◌, eqb, ltb, length}
use Rattle.std.proofs.Math.Path.{refl}
use Rattle.std.proofs.Common.{sym, ap, ◌∙◌, true≢false, arith}
use Rattle.std.proofs.Math.Bool.{true, false, not}
use Prim.Native.Nat.{ℕ, zero, suc, ◌+◌, ◌≤◌}
use Rattle.std.specs.Float.Ieee.{Float, le, lt}
use Rattle.rows.specs.Rows.{direction_of, length_of}
use Rattle.beside.specs.Beside.{zero64}
use Rattle.branches.specs.declared.Branch.{Branch}
use Rattle.branches.specs.Tables.{Tables}
use Rattle.branches.specs.Branches.{room_of, leaving_of, next_lanes}
use Rattle.branches.specs.Front.{enter_all, is_empty}
use Rattle.branches.specs.FrontLaws.{once, Grown, grown_same, grown_all}
use Rattle.ends.specs.Ends.{place_in}
use Rattle.explore.specs.Explore.{State, pick_state, follow, with_todo, step_from, step, goes_on, run}
use Rattle.advance.specs.Advance.{none_yet}
use Rattle.advance.specs.Advance.{first_branch, pick_branches, first_branches, explored}

module _ (t : Tables) (ahead : Bool) where
  -- a step after the newest branch is taken off
  followed : (b : Branch) (q : State) → Grown q.front (follow t ahead b q).front
  unfolding follow
  followed b q = by (lt room b.remaining && not (is_empty next))
    where
      room : Float
      room = room_of b.up (length_of t.lanes t.cumulative b.lane) b.arc

      next : List ℕ
      next = next_lanes t ahead b

      on : State
      on = record {
        front = enter_all t.lanes t.points t.cumulative ahead
            (leaving_of t.lanes t.points t.cumulative b room) next q.front;
        found = q.found;
      }

      end : State
      end = record { front = q.front; found = place_in t ahead b room q.found }

      by : (go : Bool) → Grown q.front (pick_state go on end).front
      by true = grown_all t.lanes t.points t.cumulative ahead (leaving_of t.lanes t.points t.cumulative b room) next
          q.front
      by false = grown_same q.front

  stepped : (b : Branch) (bs : List Branch) (q : State) → Grown (with_todo bs q).front (step_from t ahead (b ∷ bs) q).front
  unfolding step_from
  stepped b bs q = by (ltb b.lane t.lane_count)
    where
      by : (known : Bool) → Grown (with_todo bs q).front (pick_state known (follow t ahead b (with_todo bs q)) (with_todo bs q)).front
      by true = followed b (with_todo bs q)
      by false = grown_same (with_todo bs q).front

  -- what holds of a state with k steps left
  pub record Left (k : ℕ) (q : State) : Type 0 where
    pub enough : length q.front.todo + 1024 ≤ k + length q.front.entered
    pub limit : length q.front.entered ≤ 1024
    pub distinct : once q.front.entered ≡ true

  left_next : (k : ℕ) (q : State) (todo : List Branch) → q.front.todo ≡ todo → goes_on q ≡ true → Left (suc k) q
      → Left k (step_from t ahead todo q)
  left_next k q [] e g l = absurd (true≢false (sym g ∙ ap (λ (bs : List Branch). not (is_empty bs) && not q.front.full) e))
  left_next k q (b ∷ bs) e g l =
      let grown = stepped b bs q in
      let size = ap length e in
      record {
        enough = omega (arith, grown.branches, l.enough);
        limit = grown.limit l.limit;
        distinct = grown.distinct
            l.distinct;
      }

  pub record Done (q : State) : Type 0 where
    pub ended : goes_on q ≡ false
    pub limit : length q.front.entered ≤ 1024
    pub distinct : once q.front.entered ≡ true

  nothing_left : (todo : List Branch) (full : Bool) → length todo ≡ 0 → (not (is_empty todo) && not full) ≡ false
  nothing_left [] full e = refl
  nothing_left (b ∷ bs) full e = absurd (omega arith)

  run_done : (k : ℕ) (q : State) (more : Bool) → goes_on q ≡ more → Left k q → Done (run t ahead k more q)
  unfolding run
  run_done zero q more e l =
      record {
        ended = nothing_left q.front.todo q.front.full
            (omega (arith, l.enough, l.limit));
        limit = l.limit;
        distinct = l.distinct;
      }
  run_done (suc k) q false e l = record { ended = e; limit = l.limit; distinct = l.distinct }
  run_done (suc k) q true e l = run_done k (step t ahead q) (goes_on (step t ahead q)) refl (left_next k q q.front.todo refl e l)

-- at most two first branches
at_most_two : (both : Bool) (x y z : Branch) → length (pick_branches both (x ∷ y ∷ []) (z ∷ [])) ≤ 2
at_most_two true x y z = omega arith
at_most_two false x y z = omega arith

first_two : (lanes : List ℕ) (ahead : Bool) (i : ℕ) (arc offset distance : Float)
    → length (first_branches lanes ahead i arc offset distance) ≤ 2
unfolding first_branches
first_two lanes ahead i arc offset distance =
    let branch = first_branch ahead i arc offset distance in
    at_most_two (eqb (direction_of lanes i) 2) (branch true) (branch false) (branch (cond (eqb (direction_of lanes i) 0) ahead (not ahead)))

module _ (t : Tables) (i : ℕ) (arc offset distance : Float) where
  -- a run ends by itself, with at most 1,024 keys, each once
  pub explored_done : Done t (le zero64 distance) (explored t i arc offset distance)
  unfolding explored once
  explored_done =
      let ahead = le zero64 distance in
      let start = none_yet (first_branches t.lanes ahead i arc offset distance) in
      let two = first_two t.lanes ahead i arc offset distance in
      run_done t ahead 1026 start (goes_on start) refl (record { enough = omega arith; limit = omega arith; distinct = refl })
