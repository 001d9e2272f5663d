-- The plan files of the cases as bytes, record by record, in the words of document 01, "Junction cases".
use Rattle.std.specs.Prelude.{false, List, [], ◌++◌, ◌∷◌, ℕ, ◌*◌, ◌+◌, ◌-◌, pos, Float, length}
use Rattle.std.specs.Float.{binary32, binary64}
use Rattle.std.specs.Float.Ieee.{of_bits, of_int, round, to_bits}
use Rattle.coords.specs.declared.Point.{Point}
use Rattle.calling.specs.Calling.{point}
use Rattle.plan_format.specs.Samples.{bytes, link, made, place, section_by}

-- ---- numbers and points

-- the whole number n
abbrev pub f32 : ℕ → Float
f32 n = of_int binary32 (pos n)

abbrev pub f64 : ℕ → Float
f64 n = of_int binary64 (pos n)

-- n and a half
abbrev pub f32½ : ℕ → Float
f32½ n = round binary32 false (2 * n + 1) 2

abbrev pub f64½ : ℕ → Float
f64½ n = round binary64 false (2 * n + 1) 2

-- (x,0,0), and the same with the next f32 above x
abbrev pub at : ℕ → Point
at x = point (f32 x) (f32 0) (f32 0)

abbrev pub above : ℕ → Point
above x = point (of_bits binary32 (to_bits binary32 (f32 x) + 1)) (f32 0) (f32 0)

abbrev pub xyz : List Point → List Float
xyz [] = []
xyz (p ∷ ps) = p.x ∷ p.y ∷ p.z ∷ xyz ps

-- ---- records

abbrev pub file : List (List ℕ) → List ℕ
file [] = []
file (r ∷ rs) = r ++ file rs

abbrev pub floats : List Float → List ℕ
floats [] = []
floats (x ∷ xs) = bytes 4 (to_bits binary32 x) ++ floats xs

-- a Driving lane without tangents
abbrev pub lane_by : ℕ → ℕ → List Point → List ℕ
lane_by direction n ps = made 1 (bytes 2 n ++ (1 ∷ direction ∷ 0 ∷ bytes 2 (length ps) ++ floats (xyz ps)))

abbrev pub lane_through : ℕ → List Point → List ℕ
lane_through n ps = lane_by 0 n ps

-- "Lanes run from (0,0,0) to (8,0,0) unless said; all Driving, Forward"
abbrev pub lane : ℕ → List ℕ
lane n = lane_through n (at 0 ∷ at 8 ∷ [])

abbrev pub backward_lane : ℕ → List ℕ
backward_lane n = lane_by 1 n (at 0 ∷ at 8 ∷ [])

abbrev pub successor : ℕ → ℕ → List ℕ
successor from to = link from 0 to

abbrev pub neighbour : ℕ → ℕ → List ℕ
neighbour from to = link from 2 to

-- section `index` of road 0, from the first of two stations to the last
abbrev pub section : ℕ → Float → Float → List ℕ
section index first last =
    let a = to_bits binary64 first in
    let b = to_bits binary64 last in
    section_by 0 index a b (a ∷ b ∷ [])

-- a lane's place in it, by its OpenDRIVE number
abbrev pub placed : ℕ → ℕ → ℕ → List ℕ
placed n index number = place n 0 index number

-- the OpenDRIVE number -n, as a field of 32 bits has it
abbrev pub minus : ℕ → ℕ
minus n = 4294967296 - n

-- ---- the files. A route is asked between points: of lanes that lie on one another the first is the nearest, and a goal lies by itself.

-- "costs 8 and 8 to lanes 2 and 3, both leading to 4"
abbrev pub fork : List ℕ
fork =
    file
    (lane 1 ∷ lane 2 ∷ lane 3 ∷ lane_through 4 (at 8 ∷ at 16 ∷ [])
    ∷ successor 1 2 ∷ successor 1 3 ∷ successor 2 4 ∷ successor 3 4 ∷ [])

-- "a 32 m lane with the goal as successor and neighbour"
abbrev pub either : List ℕ
either = file (lane_through 1 (at 0 ∷ at 32 ∷ []) ∷ lane_through 2 (at 32 ∷ at 40 ∷ []) ∷ successor 1 2 ∷ neighbour 1 2 ∷ [])

-- "lane with itself as successor"; "without that link"
abbrev pub closed : List ℕ
closed = file (lane 1 ∷ successor 1 1 ∷ [])

abbrev pub alone : List ℕ
alone = file (lane 1 ∷ [])

-- "stations 0, 8, then successor with 8, 16"
abbrev pub stations : List ℕ
stations =
    file
    (lane 1 ∷ section 0 (f64 0) (f64 8) ∷ placed 1 0 (minus 1)
    ∷ lane_through 2 (at 8 ∷ at 16 ∷ []) ∷ section 1 (f64 8) (f64 16) ∷ placed 2 1 (minus 1)
    ∷ successor 1 2 ∷ [])

-- the plan's lanes that have the OpenDRIVE numbers 1, -1 and -2
abbrev pub lane_one : ℕ
lane_one = 1

abbrev pub lane_minus_one : ℕ
lane_minus_one = 2

abbrev pub lane_minus_two : ℕ
lane_minus_two = 3

-- "lanes 1 (Backward), -1, -2"
abbrev pub sides : List ℕ
sides =
    file
    (section 0 (f64 0) (f64 8)
    ∷ backward_lane lane_one ∷ placed lane_one 0 1
    ∷ lane lane_minus_one ∷ placed lane_minus_one 0 (minus 1)
    ∷ lane lane_minus_two ∷ placed lane_minus_two 0 (minus 2) ∷ [])
