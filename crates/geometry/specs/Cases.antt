-- Worked cases: what the definitions answer on small polylines, by computation.
use Rattle.std.specs.Prelude.{◌≡◌, refl, Option, None, Some, List, [], ◌∷◌, ℕ, Float}
use Rattle.std.specs.Float.{nan, binary32}
use Rattle.std.specs.Float.Ieee.{add, sub, mul, div, lt, le, of_bits}
use Rattle.float.specs.Root.{sqrt_of}
use Rattle.coords.specs.declared.Point.{Point}
use Rattle.coords.specs.declared.Vector.{Vector}
use Rattle.coords.specs.Coords.{zero_vector, cross_of, length_of, normalize_or}
use Rattle.geometry.specs.declared.Located.{Located}
use Rattle.geometry.specs.declared.Ends.{Ends}
use Rattle.geometry.specs.Polyline.{point_at, vector_at, arc_at, cumulative_of, chord_at, end_or, tangents_to, tangents_of}
use Rattle.geometry.specs.Partition.{leading}
use Rattle.geometry.specs.Locate.{segment_of, local_t, locate_of, point_along, pose_along}
use Rattle.geometry.specs.Project.{left_normal, fraction_along, hit_along, nearer_at, project_to, project_segments, project_of}
use Rattle.geometry.specs.Polyline.{tangent_at}

abbrev f : ℕ → Float
f n = of_bits binary32 n

abbrev o : Float
o = f 0

abbrev minus_one : Float
minus_one = f 0xbf800000

abbrev one : Float
one = f 0x3f800000

abbrev eight : Float
eight = f 0x41000000

abbrev sixteen : Float
sixteen = f 0x41800000

abbrev place : Float → Float → Float → Point
place x y z = record { x = x; y = y; z = z }

abbrev at : ℕ → Float → Located
at i t = record { segment = i; t = t }

-- ---- straight on for 8 m, and for 8 m more
abbrev line : List Float
line = o ∷ o ∷ o ∷ eight ∷ o ∷ o ∷ sixteen ∷ o ∷ o ∷ []

abbrev arcs : List Float
arcs = o ∷ eight ∷ sixteen ∷ []

line_arcs : cumulative_of line 3 ≡ arcs
unfolding cumulative_of arc_at point_at length_of sqrt_of add sub mul lt of_bits
line_arcs = refl

before : locate_of arcs minus_one ≡ at 0 o
unfolding locate_of segment_of local_t leading sub div lt le of_bits
before = refl

-- at a vertex the segment that starts there, at the last point the one before it
on_vertex : locate_of arcs eight ≡ at 1 o
unfolding locate_of segment_of local_t leading sub div lt le of_bits
on_vertex = refl

on_last : locate_of arcs sixteen ≡ at 1 one
unfolding locate_of segment_of local_t leading sub div lt le of_bits
on_last = refl

past : locate_of arcs (f 0x42000000) ≡ at 1 one
unfolding locate_of segment_of local_t leading sub div lt le of_bits
past = refl

not_a_number : locate_of arcs nan ≡ at 0 nan
unfolding locate_of segment_of local_t leading sub div lt le of_bits
not_a_number = refl

-- before the start the first point; NaN is no arc length, and its place none
before_place : point_along line arcs minus_one ≡ place o o o
unfolding point_along locate_of segment_of local_t leading point_at add sub mul div lt le of_bits
before_place = refl

nowhere : point_along line arcs nan ≡ place nan nan nan
unfolding point_along locate_of segment_of local_t leading point_at add sub mul div lt le of_bits
nowhere = refl

-- ---- a repeated point
abbrev twice : List Float
twice = f 0x80000000 ∷ o ∷ o ∷ o ∷ o ∷ o ∷ eight ∷ o ∷ o ∷ []

twice_arcs : cumulative_of twice 3 ≡ o ∷ o ∷ eight ∷ []
unfolding cumulative_of arc_at point_at length_of sqrt_of add sub mul lt of_bits
twice_arcs = refl

-- the last vertex at or before 0 is the second
twice_start : locate_of (o ∷ o ∷ eight ∷ []) o ≡ at 1 o
unfolding locate_of segment_of local_t leading sub div lt le of_bits
twice_start = refl

-- NaN gives the first point where the first segment is short; its -0 becomes +0
twice_nan : point_along twice (o ∷ o ∷ eight ∷ []) nan ≡ place o o o
unfolding point_along locate_of segment_of local_t leading point_at add sub mul div lt le of_bits
twice_nan = refl

-- ---- a right angle to the left: (0,0,0), (8,0,0), (8,8,0)
abbrev corner : List Float
corner = o ∷ o ∷ o ∷ eight ∷ o ∷ o ∷ eight ∷ eight ∷ o ∷ []

-- (16, -8, 0) is as near to the first segment as to the second: the first wins, with the point 8 m to its right
tie : project_of corner arcs (place sixteen (f 0xc1000000) o) ≡ record { s = eight; point = place eight o o; offset = f 0xc1000000 }
unfolding project_segments project_to nearer_at hit_along fraction_along left_normal normalize_or cross_of length_of sqrt_of point_at add sub
    mul div lt of_bits
tie = refl

-- over the second segment alone it lies 8 m to the right too, at the second segment's start
second_only : project_segments corner arcs
    (place sixteen (f 0xc1000000) o) 1 2 ≡ record { s = eight; point = place eight o o; offset = f 0xc1000000 }
unfolding project_segments project_to nearer_at hit_along fraction_along left_normal normalize_or cross_of length_of sqrt_of point_at add sub
    mul div lt of_bits
second_only = refl

abbrev turned : Option Ends
turned = Some (record { start = record { x = o; y = eight; z = eight }; end = zero_vector })

-- the bisector at the corner; a given start at unit length on the ground; a zero end falls back to the chord
corner_tangents : tangents_of corner 3 turned ≡ o ∷ one ∷ o ∷ f 0x3f3504f3 ∷ f 0x3f3504f3 ∷ o ∷ o ∷ one ∷ o ∷ []
unfolding tangents_to end_or chord_at normalize_or length_of sqrt_of point_at add sub mul div lt of_bits
corner_tangents = refl

-- halfway along the first segment the heading lies between its tangents
corner_pose : pose_along line arcs (one ∷ o ∷ o ∷ o ∷ one ∷ o ∷ o ∷ one ∷ o ∷ []) (f 0x40800000)
    ≡ record { position = place (f 0x40800000) o o; heading = record { x = f 0x3f3504f3; y = f 0x3f3504f3; z = o } }
unfolding pose_along locate_of segment_of local_t leading point_at vector_at normalize_or length_of sqrt_of add sub mul div lt le of_bits
corner_pose = refl

-- ---- tangents one by one

abbrev toward : Float → Float → Vector
toward x y = record { x = x; y = y; z = o }

abbrev ended : Option Ends
ended = Some (record { start = zero_vector; end = record { x = eight; y = o; z = eight } })

-- a given start at unit length on the ground, the bisector at the corner; a zero end falls back to the chord
corner_start : tangent_at corner 3 turned 0 ≡ toward o one
unfolding end_or chord_at normalize_or length_of sqrt_of point_at add sub mul div lt of_bits
corner_start = refl

corner_bisector : tangent_at corner 3 turned 1 ≡ toward (f 0x3f3504f3) (f 0x3f3504f3)
unfolding end_or chord_at normalize_or length_of sqrt_of point_at add sub mul div lt of_bits
corner_bisector = refl

corner_end : tangent_at corner 3 turned 2 ≡ toward o one
unfolding end_or chord_at normalize_or length_of sqrt_of point_at add sub mul div lt of_bits
corner_end = refl

-- a zero start falls back to the chord; a given end
other_start : tangent_at corner 3 ended 0 ≡ toward one o
unfolding end_or chord_at normalize_or length_of sqrt_of point_at add sub mul div lt of_bits
other_start = refl

other_end : tangent_at corner 3 ended 2 ≡ toward one o
unfolding end_or chord_at normalize_or length_of sqrt_of point_at add sub mul div lt of_bits
other_end = refl

-- a chord is dropped onto the ground, and stands at the ends where no tangents are given
abbrev ramp : List Float
ramp = o ∷ o ∷ o ∷ eight ∷ o ∷ eight ∷ []

ramp_start : tangent_at ramp 2 None 0 ≡ toward one o
unfolding end_or chord_at normalize_or length_of sqrt_of point_at add sub mul div lt of_bits
ramp_start = refl

ramp_end : tangent_at ramp 2 None 1 ≡ toward one o
unfolding end_or chord_at normalize_or length_of sqrt_of point_at add sub mul div lt of_bits
ramp_end = refl

-- a segment of 1e-6 counts as of no length, one of the next f32 does not
short_segment : local_t (o ∷ f 0x358637bd ∷ []) 0 (f 0x358637bd) ≡ o
unfolding local_t sub div lt of_bits
short_segment = refl

long_segment : local_t (o ∷ f 0x358637be ∷ []) 0 (f 0x358637be) ≡ one
unfolding local_t sub div lt of_bits
long_segment = refl

-- a squared length of just 1e-9 counts as none, the next f32 above does not
short_squared : fraction_along (place o o o) (toward (f 0x3804a277) (f 0x33faf33d)) (place eight o o) ≡ o
unfolding fraction_along add sub mul div lt of_bits
short_squared = refl

long_squared : fraction_along (place o o o) (toward (f 0x3804a2b3) o) (place eight o o) ≡ one
unfolding fraction_along add sub mul div lt of_bits
long_squared = refl
