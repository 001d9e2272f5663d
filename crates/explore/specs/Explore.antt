-- advance.rs, the loop of `advance`: a state of branches in flight and places given is taken on, one branch at a time, as the Rust does it;
-- lists have their newest element first. `specs/` of `branches` and `ends` say where a branch goes on and where it ends. Definitions only.
use Rattle.std.specs.Prelude.{Bool, true, false, cond, not, ◌&&◌, List, [], ◌∷◌, ℕ, zero, suc, ltb}
use Rattle.std.specs.Float.Ieee.{lt}
use Rattle.rows.specs.Rows.{length_of}
use Rattle.branches.specs.declared.Branch.{Branch}
use Rattle.branches.specs.Tables.{Tables}
use Rattle.branches.specs.Branches.{room_of, leaving_of, next_lanes}
use Rattle.branches.specs.Front.{Front, enter_all, is_empty}
use Rattle.ends.specs.Ends.{Found, place_in}

pub record State : Type 0 where
  pub front : Front
  pub found : Found

abbrev pub pick_state : Bool → State → State → State
pick_state b x y = cond b x y

-- the branch b, taken off, on a lane of the plan: it goes on where metres are left and a lane follows, and ends otherwise
unfoldable pub follow : Tables → Bool → Branch → State → State
follow t ahead b q =
    let room = room_of b.up (length_of t.lanes t.cumulative b.lane) b.arc in
    let leaving = leaving_of t.lanes t.points t.cumulative b room in
    let next = next_lanes t ahead b in
    pick_state (lt room b.remaining && not (is_empty next))
    (record { front = enter_all t.lanes t.points t.cumulative ahead leaving next q.front; found = q.found })
    (record { front = q.front; found = place_in t ahead b room q.found })

-- the state with other branches in flight
abbrev pub with_todo : List Branch → State → State
with_todo bs q = record { front = record { todo = bs; entered = q.front.entered; full = q.front.full }; found = q.found }

-- the newest branch is taken off, and followed where its lane is in the plan
unfoldable pub step_from : Tables → Bool → List Branch → State → State
step_from t ahead [] q = q
step_from t ahead (b ∷ bs) q = pick_state (ltb b.lane t.lane_count) (follow t ahead b (with_todo bs q)) (with_todo bs q)

abbrev pub step : Tables → Bool → State → State
step t ahead q = step_from t ahead q.front.todo q

-- branches are left, and the keys fit
abbrev pub goes_on : State → Bool
goes_on q = not (is_empty q.front.todo) && not q.front.full

-- a counted number of steps, while the Bool says so
unfoldable pub run : Tables → Bool → ℕ → Bool → State → State
run t ahead zero more q = q
run t ahead (suc k) false q = q
run t ahead (suc k) true q =
    let next = step t ahead q in
    run t ahead k (goes_on next) next

abbrev pub run_from : Tables → Bool → ℕ → State → State
run_from t ahead k q = run t ahead k (goes_on q) q
