-- Worked cases of where a branch ends: metres left equal to the metres of the lane stay on it, a dead end has the metres short, and
-- a place is given once, to the millimetre (advance.rs).
use Rattle.std.specs.Prelude.{Bool, false, true, [], ◌≡◌, refl, ℕ, Float, length}
use Rattle.std.specs.Float.{binary32, binary64}
use Rattle.std.specs.Float.Ieee.{add, lt, mul, of_bits, sub, to_signed}
use Rattle.beside.specs.declared.LanePosition.{LanePosition}
use Rattle.branches.specs.Branches.{holds, millimetres}
use Rattle.branches.specs.declared.Branch.{Branch}
use Rattle.float.specs.Narrow.{narrow_of}
use Rattle.float.specs.Whole.{round_of}
use Rattle.ends.specs.Ends.{case_of, end_arc, end_of, give, placing_of, short_of}
use Rattle.ends.specs.declared.Advance.{Advance}
use Rattle.ends.specs.declared.Advance.TheVariants.{DeadEnd, Reached}

abbrev f : ℕ → Float
f n = of_bits binary32 n

abbrev d : ℕ → Float
d n = of_bits binary64 n

-- 6 m, the next f64 above, and what that is above 6
abbrev six : Float
six = d 0x4018000000000000

abbrev over_six : Float
over_six = d 0x4018000000000001

abbrev step : Float
step = d 0x3cd0000000000000

-- 1 m, 1.0004 m and 1.0006 m
abbrev one : Float
one = d 0x3ff0000000000000

abbrev same_millimetre : Float
same_millimetre = d 0x3ff001a36e2eb1c4

abbrev next_millimetre : Float
next_millimetre = d 0x3ff0027525460aa6

abbrev at : ℕ → Float → Float → LanePosition
at lane s offset = record { lane = record { 0 = lane }; s = s; offset = offset }

abbrev here : LanePosition
here = at 7 one (d 0)

-- 6 m left on a lane with 6 m: reached. With the next f64 above 6 it is a dead end, short by the difference
kept_on : (end_of six six here ≡ Reached here) × (end_of over_six six here ≡ DeadEnd here step)
unfolding end_of lt sub of_bits
kept_on = (refl, refl)

-- 0 is reached and 1 a dead end
cases : (case_of (Reached here) ≡ 0) × (case_of (DeadEnd here six) ≡ 1) × (short_of (Reached here) ≡ d 0) × (short_of (DeadEnd here six) ≡ six)
cases = (refl, refl, refl, refl)

-- from 8 m on, 1 m left of 6: up to 9 m or down to 7 m; 6 m left of 1: 1 m as well
abbrev moved : Bool → Float → Branch
moved up remaining = record { lane = 0; arc = f 0x41000000; up = up; left = d 0; remaining = remaining }

ended :
    (end_arc (moved true one) six ≡ f 0x41100000) × (end_arc (moved false one) six ≡ f 0x40e00000) × (end_arc (moved true six) one ≡ f 0x41100000)
unfolding end_arc narrow_of add sub lt of_bits
ended = (refl, refl, refl)

-- how many places there are after two were given
unfoldable given : Advance → Advance → ℕ
unfolding give placing_of holds millimetres round_of
given a b = length (give b (give a (record { placed = []; out = [] }))).out

-- one to the millimetre of s, of the offset and of the metres short; two by their lanes, and where one is a dead end
once :
    (given (Reached here) (Reached (at 7 same_millimetre (d 0))) ≡ 1)
    × (given (Reached here) (Reached (at 7 next_millimetre (d 0))) ≡ 2)
    × (given (Reached (at 7 (d 0) one)) (Reached (at 7 (d 0) same_millimetre)) ≡ 1)
    × (given (Reached (at 7 (d 0) one)) (Reached (at 7 (d 0) next_millimetre)) ≡ 2)
    × (given (DeadEnd here one) (DeadEnd here same_millimetre) ≡ 1)
    × (given (DeadEnd here one) (DeadEnd here next_millimetre) ≡ 2)
    × (given (Reached here) (Reached (at 8 one (d 0))) ≡ 2)
    × (given (Reached here) (DeadEnd here (d 0)) ≡ 2)
unfolding given mul of_bits to_signed
once = (refl, refl, refl, refl, refl, refl, refl, refl)
