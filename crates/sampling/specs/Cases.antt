-- Worked cases of a route's points: samples of one lane stand at most 2 m of s apart; a point within squared distance 1e-6 of the last kept is
-- dropped; a change goes at most 10 m on, only if the next is a neighbour and no successor; and by route.rs: `ahead`, `nearer_end`, and one sample
-- where a lane's span is under 1e-4.
use Rattle.std.specs.Prelude.{false, true, [], ◌∷◌, ◌≡◌, refl, ℕ, Float}
use Rattle.std.specs.Float.{binary32, nan}
use Rattle.std.specs.Float.Ieee.{add, div, eq, is_nan, le, lt, mul, of_bits, of_int, sub, to_unsigned}
use Rattle.coords.specs.Coords.{cross_of, length_of, normalize_or}
use Rattle.coords.specs.declared.Point.{Point}
use Rattle.float.specs.Root.{sqrt_of}
use Rattle.float.specs.Sign.{abs_of, signum_of}
use Rattle.float.specs.Whole.{ceil_of}
use Rattle.geometry.specs.Polyline.{point_at}
use Rattle.geometry.specs.Project.{fraction_along, hit_along, left_normal, nearer_at, project_segments, project_to}
use Rattle.sampling.specs.Kept.{is_fresh, pushed}
use Rattle.sampling.specs.Sampling.{RouteTables, changes_off, exit_at, exit_for, is_ahead, is_forward, leads, nearer_end, route_tables}
use Rattle.sampling.specs.Sampling.{sample_from}
use Rattle.sampling.specs.Sampling.{sample_segment, sample_span, steps_of, toward, travel_end}

abbrev f : ℕ → Float
f n = of_bits binary32 n

abbrev o : Float
o = f 0

abbrev point : Float → Float → Float → Point
point x y z = record { x = x; y = y; z = z }

abbrev origin : Point
origin = point o o o

-- 2, 8, 10, 16, and the next f32 above 2
abbrev m2 : Float
m2 = f 0x40000000

abbrev over2 : Float
over2 = f 0x40000001

abbrev m8 : Float
m8 = f 0x41000000

abbrev m10 : Float
m10 = f 0x41200000

abbrev m16 : Float
m16 = f 0x41800000

-- ---- `ahead`, from 2 m to just above, to 2 m, and back, and to no number: Forward, Backward, Both

ahead_forward : (is_ahead 0 m2 over2 ≡ true) × (is_ahead 0 m2 m2 ≡ true) × (is_ahead 0 over2 m2 ≡ false) × (is_ahead 0 m2 nan ≡ false)
unfolding is_ahead le of_bits
ahead_forward = (refl, refl, refl, refl)

ahead_backward : (is_ahead 1 m2 over2 ≡ false) × (is_ahead 1 m2 m2 ≡ true) × (is_ahead 1 over2 m2 ≡ true) × (is_ahead 1 m2 nan ≡ false)
unfolding is_ahead le of_bits
ahead_backward = (refl, refl, refl, refl)

ahead_both : (is_ahead 2 m2 over2 ≡ true) × (is_ahead 2 m2 m2 ≡ true) × (is_ahead 2 over2 m2 ≡ true) × (is_ahead 2 m2 nan ≡ true)
unfolding is_ahead
ahead_both = (refl, refl, refl, refl)

-- ---- samples

-- 2 m are one step, up or down, and the next f32 above takes two; 16 m take eight; no span takes none
steps :
    (steps_of m2 ≡ 1) × (steps_of (f 0xc0000000) ≡ 1) × (steps_of over2 ≡ 2) × (steps_of (f 0xc0000001) ≡ 2) × (steps_of m16 ≡ 8) × (steps_of o ≡ 1)
unfolding steps_of abs_of ceil_of div lt eq is_nan of_bits to_unsigned
steps = (refl, refl, refl, refl, refl, refl)

-- points that lie 16,384 m apart for each metre of s, so that none of those sampled below is dropped
abbrev stretched : Float → Point
stretched s = point (mul binary32 s (f 0x46800000)) o o

-- a span of 1e-4 has both its ends; the next f32 below is under it and has its entry alone
span_of_tiny : sample_segment stretched o (f 0x38d1b717) [] ≡ point (f 0x3fd1b717) o o ∷ origin ∷ []
unfolding sample_span sample_from steps_of pushed abs_of ceil_of add sub mul div lt eq is_nan of_bits of_int to_unsigned
span_of_tiny = refl

span_under_tiny : sample_segment stretched o (f 0x38d1b716) [] ≡ origin ∷ []
unfolding sample_span pushed abs_of add sub mul lt of_bits
span_under_tiny = refl

-- 5 m from 8 m down: three equal steps, whose points stand from the last back to the first
three_steps : sample_segment (λ (s : Float). point s o o) m8 (f 0x40400000) []
    ≡ point (f 0x40400000) o o ∷ point (f 0x40955555) o o ∷ point (f 0x40caaaaa) o o ∷ point m8 o o ∷ []
unfolding sample_span sample_from steps_of pushed abs_of ceil_of add sub mul div lt eq is_nan of_bits of_int to_unsigned
three_steps = refl

-- ---- kept points

-- at a squared distance of just 1e-6 a point is dropped, at the next f32 above it is kept; height counts
at_micro : Point
at_micro = point (f 0x3a831233) (f 0x3679ed8e) o

past_micro : Point
past_micro = point (f 0x3a83126f) o o

above_micro : Point
above_micro = point o o (f 0x3a83126f)

kept :
    (pushed (origin ∷ []) at_micro ≡ origin ∷ [])
    × (pushed (origin ∷ []) past_micro ≡ past_micro ∷ origin ∷ [])
    × (pushed (origin ∷ []) above_micro ≡ above_micro ∷ origin ∷ [])
    × (pushed [] origin ≡ origin ∷ [])
unfolding pushed at_micro past_micro above_micro add sub mul lt of_bits
kept = (refl, refl, refl, refl)

fresh :
    (is_fresh (record { count = 1; last = origin }) at_micro ≡ false)
    × (is_fresh (record { count = 1; last = origin }) past_micro ≡ true)
    × (is_fresh (record { count = 0; last = origin }) origin ≡ true)
unfolding is_fresh at_micro past_micro add sub mul lt of_bits
fresh = (refl, refl, refl)

-- ---- where a lane is left. Lane 1 goes 16 m along x, lane 2 the same 4 m to its left; the first has so many successors and neighbours, which
-- lead to the second

abbrev parallel : ℕ → ℕ → ℕ → RouteTables
parallel direction successors neighbours =
    route_tables (1 ∷ 1 ∷ direction ∷ 0 ∷ 0 ∷ 2 ∷ 2 ∷ 1 ∷ 0 ∷ 0 ∷ 2 ∷ 2 ∷ [])
    (o ∷ o ∷ o ∷ m16 ∷ o ∷ o ∷ o ∷ f 0x40800000 ∷ o ∷ m16 ∷ f 0x40800000 ∷ o ∷ [])
    (o ∷ m16 ∷ o ∷ m16 ∷ [])
    (0 ∷ successors ∷ 0 ∷ neighbours ∷ 256 ∷ 2 ∷ 0 ∷ 0 ∷ 0 ∷ 256 ∷ [])
    (2 ∷ 1 ∷ 2 ∷ 1 ∷ [])

-- a neighbour: 10 m on, from 0 and from 2, and never past the end; against the centre line on a Backward lane
change :
    (exit_for (parallel 0 0 1) 0 1 o ≡ m10)
    × (exit_for (parallel 0 0 1) 0 1 m2 ≡ f 0x41400000)
    × (exit_for (parallel 0 0 1) 0 1 m8 ≡ m16)
    × (exit_for (parallel 1 0 1) 0 1 m16 ≡ f 0x40c00000)
    × (exit_for (parallel 1 0 1) 0 1 m8 ≡ o)
unfolding exit_for changes_off leads travel_end is_forward toward signum_of add sub mul lt eq is_nan of_bits
change = (refl, refl, refl, refl, refl)

-- a successor, or a neighbour that is a successor too: at the end
no_change :
    (exit_for (parallel 0 1 0) 0 1 o ≡ m16)
    × (exit_for (parallel 0 1 1) 0 1 o ≡ m16)
    × (exit_for (parallel 1 1 0) 0 1 m8 ≡ o)
unfolding exit_for changes_off leads travel_end is_forward of_bits
no_change = (refl, refl, refl)

-- the last lane, entered at 8 m: to the goal if that is ahead, else no further; a goal past the lane's end is its end
last_lane :
    (exit_at (1 ∷ 1 ∷ 0 ∷ 0 ∷ 0 ∷ 2 ∷ []) (o ∷ m16 ∷ []) 0 m8 m10 ≡ m10)
    × (exit_at (1 ∷ 1 ∷ 0 ∷ 0 ∷ 0 ∷ 2 ∷ []) (o ∷ m16 ∷ []) 0 m8 m2 ≡ m8)
    × (exit_at (1 ∷ 1 ∷ 1 ∷ 0 ∷ 0 ∷ 2 ∷ []) (o ∷ m16 ∷ []) 0 m8 m2 ≡ m2)
    × (exit_at (1 ∷ 1 ∷ 2 ∷ 0 ∷ 0 ∷ 2 ∷ []) (o ∷ m16 ∷ []) 0 m8 m2 ≡ m2)
    × (exit_at (1 ∷ 1 ∷ 0 ∷ 0 ∷ 0 ∷ 2 ∷ []) (o ∷ m16 ∷ []) 0 m8 (f 0x42000000) ≡ m16)
unfolding exit_at is_ahead le lt of_bits
last_lane = (refl, refl, refl, refl, refl)

-- ---- which end of a Both lane is taken: the one nearer to the next lane, and the last point where both are as near. The lane goes from (0,0,0) to
-- (8,0,8), the next one from (x,4,z) on for 4 m along y

abbrev meeting : Float → Float → RouteTables
meeting x z =
    route_tables (1 ∷ 1 ∷ 2 ∷ 0 ∷ 0 ∷ 2 ∷ 2 ∷ 1 ∷ 0 ∷ 0 ∷ 2 ∷ 2 ∷ [])
    (o ∷ o ∷ o ∷ m8 ∷ o ∷ m8 ∷ x ∷ f 0x40800000 ∷ z ∷ x ∷ m8 ∷ z ∷ [])
    (o ∷ f 0x413504f3 ∷ o ∷ f 0x40800000 ∷ [])
    (0 ∷ 1 ∷ 0 ∷ 0 ∷ 256 ∷ 1 ∷ 0 ∷ 0 ∷ 0 ∷ 256 ∷ [])
    (2 ∷ 1 ∷ [])

-- the arc length of the end taken
unfoldable end_taken : Float → Float → Float
unfolding travel_end is_forward nearer_end project_segments project_to nearer_at fraction_along hit_along left_normal point_at length_of
    normalize_or cross_of
    sqrt_of
end_taken x z = let T = meeting x z in travel_end (T.lanes) (T.points) (T.cumulative) 0 1

-- as near; nearer to the end and to the start by the ground; and by height
both :
    (end_taken (f 0x40800000) (f 0x40800000) ≡ f 0x413504f3)
    × (end_taken (f 0x40a00000) (f 0x40800000) ≡ f 0x413504f3)
    × (end_taken (f 0x40400000) (f 0x40800000) ≡ o)
    × (end_taken (f 0x40800000) (f 0x40a00000) ≡ f 0x413504f3)
    × (end_taken (f 0x40800000) (f 0x40400000) ≡ o)
unfolding end_taken add sub mul div lt le of_bits
both = (refl, refl, refl, refl, refl)
