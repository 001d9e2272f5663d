-- Worked cases of branches: keys told apart by whole millimetres, 1,024 of them and no more; links are tried for keys from last to first; and
-- which way a Both lane is driven and left (advance.rs).
use Rattle.std.specs.Prelude.{Bool, false, true, List, [], map, ◌∷◌, ◌≡◌, refl, ℕ, Float, length, replicate}
use Rattle.std.specs.Float.{binary32, binary64}
use Rattle.std.specs.Float.Ieee.{add, div, le, lt, mul, of_bits, sub, to_bits, to_signed}
use Rattle.coords.specs.Coords.{cross_of, length_of, normalize_or}
use Rattle.coords.specs.declared.Point.{Point}
use Rattle.float.specs.Root.{sqrt_of}
use Rattle.float.specs.Whole.{round_of}
use Rattle.geometry.specs.Polyline.{point_at}
use Rattle.geometry.specs.Project.{fraction_along, hit_along, left_normal, nearer_at, project_segments, project_to}
use Rattle.branches.specs.Branches.{at_end, branch_onto, holds, is_next, key_of, kept, millimetres, next_lanes, same_key, side_of, up_on}
use Rattle.branches.specs.Front.{Front, enter, enter_all}
use Rattle.branches.specs.Tables.{Tables, led_to, tables}
use Rattle.branches.specs.declared.Branch.{Branch}
use Rattle.branches.specs.declared.Key.{Key}
use Rattle.branches.specs.declared.Leaving.{Leaving}

abbrev f : ℕ → Float
f n = of_bits binary32 n

abbrev d : ℕ → Float
d n = of_bits binary64 n

-- ---- millimetres

-- 1 m has 1,000; halves go away from zero: 0.0005 m is one, the f64 below it none; a number below zero has its 64 bits
thousand :
    (millimetres (d 0x3ff0000000000000) ≡ 1000)
    × (millimetres (d 0x3f40624dd2f1a9fc) ≡ 1)
    × (millimetres (d 0x3f40624dd2f1a9fb) ≡ 0)
    × (millimetres (d 0xbf40624dd2f1a9fc) ≡ 0xffffffffffffffff)
    × (millimetres (d 0xbff0000000000000) ≡ 0xfffffffffffffc18)
unfolding millimetres round_of mul of_bits to_signed
thousand = (refl, refl, refl, refl, refl)

-- ---- keys

-- a branch on the lane in row 0, from an arc length on, with so many metres left and such an offset
abbrev branch : Float → Float → Float → Branch
branch arc remaining left = record { lane = 0; arc = arc; up = true; left = left; remaining = remaining }

abbrev keyed : Float → Float → Float → Key
keyed arc remaining left = key_of (7 ∷ []) (branch arc remaining left)

-- lane 7, the bits of 8 m, and 1.0004 m and 1.0006 m to the millimetre
key : keyed (f 0x41000000) (d 0x3ff001a36e2eb1c4) (d 0x3ff0027525460aa6) ≡ record { lane = 7; arc = 0x41000000; remaining = 1000; left = 1001 }
unfolding key_of millimetres round_of mul of_bits to_bits to_signed
key = refl

-- so branches with 1 m and 1.0004 m left are one, those with 1 m and 1.0006 m two; so too by their offsets, by their ends and by their lanes
same :
    (same_key (keyed (f 0) (d 0x3ff0000000000000) (d 0)) (keyed (f 0) (d 0x3ff001a36e2eb1c4) (d 0)) ≡ true)
    × (same_key (keyed (f 0) (d 0x3ff0000000000000) (d 0)) (keyed (f 0) (d 0x3ff0027525460aa6) (d 0)) ≡ false)
    × (same_key (keyed (f 0) (d 0) (d 0x3ff0000000000000)) (keyed (f 0) (d 0) (d 0x3ff001a36e2eb1c4)) ≡ true)
    × (same_key (keyed (f 0) (d 0) (d 0x3ff0000000000000)) (keyed (f 0) (d 0) (d 0x3ff0027525460aa6)) ≡ false)
    × (same_key (keyed (f 0) (d 0) (d 0)) (keyed (f 1) (d 0) (d 0)) ≡ false)
    × (same_key (key_of (7 ∷ []) (branch (f 0) (d 0) (d 0))) (key_of (8 ∷ []) (branch (f 0) (d 0) (d 0))) ≡ false)
unfolding key_of millimetres round_of mul of_bits to_bits to_signed
same = (refl, refl, refl, refl, refl, refl)

-- the key of a branch onto lane 7 with nothing left, and another
abbrev own : Key
own = record { lane = 7; arc = 0; remaining = 0; left = 0 }

abbrev other : Key
other = record { lane = 8; arc = 0; remaining = 0; left = 0 }

abbrev front : List Key → Front
front keys = record { todo = []; entered = keys; full = false }

-- what entering it leaves: how many branches are in flight, how many keys are entered, and whether they are full
abbrev counts : Front → ℕ × ℕ × Bool
counts x = (length (x.todo), length (x.entered), x.full)

unfoldable entering : List Key → ℕ × ℕ × Bool
unfolding enter key_of holds millimetres round_of
entering keys = counts (enter (7 ∷ []) (branch (f 0) (d 0) (d 0)) (front keys))

-- exactly 1,024 keys pass; a 1,025th does not, and one that was entered before is no new one
limit :
    (entering (replicate 1023 other) ≡ (1, 1024, false))
    × (entering (replicate 1024 other) ≡ (0, 1024, true))
    × (entering (own ∷ replicate 1023 other) ≡ (0, 1024, false))
unfolding entering mul of_bits to_bits to_signed
limit = (refl, refl, refl)

-- ---- a Both lane, in row 0, from (0,0,0) to (8,0,8); in row 1 a Forward lane, and in row 2 a Backward lane, both from (x,4,z) on for 4 m along y

abbrev point : Float → Float → Float → Point
point x y z = record { x = x; y = y; z = z }

abbrev o : Float
o = f 0

abbrev m8 : Float
m8 = f 0x41000000

abbrev lanes : List ℕ
lanes = 7 ∷ 1 ∷ 2 ∷ 0 ∷ 0 ∷ 2 ∷ 8 ∷ 1 ∷ 0 ∷ 0 ∷ 2 ∷ 2 ∷ 9 ∷ 1 ∷ 1 ∷ 0 ∷ 2 ∷ 2 ∷ []

abbrev points : Float → Float → List Float
points x z = o ∷ o ∷ o ∷ m8 ∷ o ∷ m8 ∷ x ∷ f 0x40800000 ∷ z ∷ x ∷ m8 ∷ z ∷ []

abbrev arcs : List Float
arcs = o ∷ f 0x413504f3 ∷ o ∷ f 0x40800000 ∷ []

-- ahead, with its traffic: up a Forward lane, down a Backward one; back the other way; and up a Both lane from where its first point is no farther
-- than its last, by the ground and by height
unfoldable up : Bool → Float → Float → ℕ → Bool
unfolding up_on point_at length_of sqrt_of
up ahead x z i = up_on lanes (points o o) arcs ahead (point x (f 0x40800000) z) i

driven :
    (up true o o 1 ≡ true) × (up false o o 1 ≡ false) × (up true o o 2 ≡ false) × (up false o o 2 ≡ true)
    × (up true (f 0x40800000) (f 0x40800000) 0 ≡ true)
    × (up true (f 0x40400000) (f 0x40800000) 0 ≡ true)
    × (up true (f 0x40a00000) (f 0x40800000) 0 ≡ false)
    × (up true (f 0x40800000) (f 0x40400000) 0 ≡ true)
    × (up true (f 0x40800000) (f 0x40a00000) 0 ≡ false)
unfolding up add sub mul le of_bits
driven = (refl, refl, refl, refl, refl, refl, refl, refl, refl)

-- so it enters by its first point, or by its last
abbrev leaving_at : Float → Leaving
leaving_at x = record { lane = 1; up = true; exit = point x o x; left = d 0; remaining = d 0 }

entered :
    ((branch_onto lanes (points o o) arcs true (leaving_at o) 0).arc ≡ o)
    × ((branch_onto lanes (points o o) arcs true (leaving_at m8) 0).arc ≡ f 0x413504f3)
unfolding branch_onto up_on point_at length_of sqrt_of add sub mul le of_bits
entered = (refl, refl)

-- it is left for a lane that joins it at the end that the branch comes to, and where both ends are as near, by either; a Forward lane for any
unfoldable left : Bool → Float → Float → Bool
unfolding is_next at_end project_segments project_to nearer_at fraction_along hit_along left_normal point_at length_of normalize_or cross_of sqrt_of
left up x z = is_next lanes 3 (points x z) arcs 0 up 1

joined :
    (left true (f 0x40800000) (f 0x40800000) ≡ true) × (left false (f 0x40800000) (f 0x40800000) ≡ true)
    × (left true (f 0x40a00000) (f 0x40800000) ≡ true) × (left false (f 0x40a00000) (f 0x40800000) ≡ false)
    × (left true (f 0x40400000) (f 0x40800000) ≡ false) × (left false (f 0x40400000) (f 0x40800000) ≡ true)
    × (left true (f 0x40800000) (f 0x40a00000) ≡ true) × (left false (f 0x40800000) (f 0x40a00000) ≡ false)
    × (left true (f 0x40800000) (f 0x40400000) ≡ false) × (left false (f 0x40800000) (f 0x40400000) ≡ true)
    × (is_next lanes 3 (points o o) arcs 1 false 0 ≡ true)
unfolding left is_next add sub mul div lt le of_bits
joined = (refl, refl, refl, refl, refl, refl, refl, refl, refl, refl, refl)

-- the offset's side: 1 along the centerline ahead, -1 against it, and the other way round going back
sides :
    (side_of true true ≡ d 0x3ff0000000000000) × (side_of true false ≡ d 0xbff0000000000000)
    × (side_of false true ≡ d 0xbff0000000000000) × (side_of false false ≡ d 0x3ff0000000000000)
sides = (refl, refl, refl, refl)

-- ---- links

-- of lane 1, in row 0: successors 1 and 2, predecessor 2, neighbour 1, by rows. Ahead it leads on to its successors, and back to its predecessor
abbrev forked : Tables
forked = tables (1 ∷ 1 ∷ 0 ∷ 0 ∷ 0 ∷ 2 ∷ []) 3 [] [] (0 ∷ 2 ∷ 1 ∷ 1 ∷ 256 ∷ []) (2 ∷ 1 ∷ 3 ∷ 2 ∷ 3 ∷ 2 ∷ 2 ∷ 1 ∷ []) [] [] [] 0

followed : (next_lanes forked true (branch o (d 0) (d 0)) ≡ 1 ∷ 2 ∷ []) × (next_lanes forked false (branch o (d 0) (d 0)) ≡ 2 ∷ [])
unfolding next_lanes kept is_next led_to
followed = (refl, refl)

-- the last is tried first: its key is the older
last_first :
    map (λ (k : Key). k.lane) (enter_all lanes (points o o) arcs true (leaving_at o) (1 ∷ 2 ∷ []) (front [])).entered
    ≡ 8 ∷ 9 ∷ []
unfolding enter_all enter branch_onto up_on key_of holds millimetres round_of mul of_bits to_bits to_signed
last_first = refl

-- a lane of no length, which a Forward and a Backward branch enter from either end, has one key
no_length :
    let arcs = o ∷ o ∷ o ∷ o ∷ [] in
    ((branch_onto lanes (points o o) arcs true (leaving_at o) 1).arc ≡ o) × ((branch_onto lanes (points o o) arcs true (leaving_at o) 2).arc ≡ o)
unfolding branch_onto up_on
no_length = (refl, refl)
