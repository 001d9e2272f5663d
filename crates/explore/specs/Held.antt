-- How a `State` holds the state of a run. Definitions only.
use Rattle.branches.specs.Held.{front_of}
use Rattle.ends.specs.Held.{found_of}
use Rattle.explore.specs.declared.State as declared
use Rattle.explore.specs.Explore.{State}

abbrev pub state_of : declared.State → State
state_of q = record { front = front_of q.front; found = found_of q.found }
