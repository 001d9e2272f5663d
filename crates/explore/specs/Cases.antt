-- Worked steps of a branch: metres left equal to the metres of the lane stay on it, more go on where a lane follows.
use Rattle.std.specs.Prelude.{false, true, [], ◌∷◌, ◌≡◌, refl, ℕ, Float, length}
use Rattle.std.specs.Float.{binary32, binary64}
use Rattle.std.specs.Float.Ieee.{lt, mul, of_bits, sub, to_bits, to_signed}
use Rattle.branches.specs.Branches.{branch_onto, holds, is_next, key_of, kept, millimetres, next_lanes, up_on}
use Rattle.branches.specs.Front.{enter, enter_all}
use Rattle.branches.specs.Tables.{Tables, led_to, tables}
use Rattle.branches.specs.declared.Branch.{Branch}
use Rattle.ends.specs.Ends.{place}
use Rattle.float.specs.Whole.{round_of}
use Rattle.explore.specs.Explore.{State, follow}

abbrev f : ℕ → Float
f n = of_bits binary32 n

abbrev d : ℕ → Float
d n = of_bits binary64 n

-- two lanes of 8 m with no place, of which the first has so many successors: the second
abbrev two_lanes : ℕ → Tables
two_lanes successors =
    let o = f 0 in
    let m8 = f 0x41000000 in
    tables (1 ∷ 1 ∷ 0 ∷ 0 ∷ 0 ∷ 2 ∷ 2 ∷ 1 ∷ 0 ∷ 0 ∷ 2 ∷ 2 ∷ []) 2 (o ∷ o ∷ o ∷ m8 ∷ o ∷ o ∷ m8 ∷ o ∷ o ∷ f 0x41800000 ∷ o ∷ o ∷ [])
    (o ∷ m8 ∷ o ∷ m8 ∷ []) (0 ∷ successors ∷ 0 ∷ 0 ∷ 256 ∷ 1 ∷ 0 ∷ 0 ∷ 0 ∷ 256 ∷ []) (2 ∷ 1 ∷ []) [] [] [] 0

-- a branch that moves on from 2 m of the first lane, and a state without branches
abbrev onward : Float → Branch
onward remaining = record { lane = 0; arc = f 0x40000000; up = true; left = d 0; remaining = remaining }

abbrev idle : State
idle = record { front = record { todo = []; entered = []; full = false }; found = record { placed = []; out = [] } }

-- how many keys it enters
unfoldable keys : ℕ → Float → ℕ
unfolding follow enter_all enter next_lanes kept is_next led_to branch_onto up_on key_of holds millimetres round_of place
keys successors remaining = length (follow (two_lanes successors) true (onward remaining) idle).front.entered

-- 6 m stay, the next f64 above goes on; but not where no lane follows
goes_on : (keys 1 (d 0x4018000000000000) ≡ 0) × (keys 1 (d 0x4018000000000001) ≡ 1) × (keys 0 (d 0x4018000000000001) ≡ 0)
unfolding keys lt sub mul of_bits to_bits to_signed
goes_on = (refl, refl, refl)
