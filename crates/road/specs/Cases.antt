-- Worked cases: what the definitions answer for small lanes, by computation.
use Rattle.std.specs.Prelude.{◌≡◌, refl, None, Some, List, [], ◌∷◌, ℕ, Float}
use Rattle.std.specs.Float.{nan, binary32, binary64}
use Rattle.std.specs.Float.Ieee.{add, sub, mul, div, lt, le, of_bits}
use Rattle.float.specs.Narrow.{narrow_of}
use Rattle.float.specs.Root.{sqrt_of}
use Rattle.coords.specs.Coords.{length_of}
use Rattle.geometry.specs.Polyline.{point_at, arc_at, cumulative_of}
use Rattle.geometry.specs.Partition.{leading}
use Rattle.geometry.specs.Locate.{segment_of}
use Rattle.road.specs.Along.{fraction_at, along_of, reached_by, part_of, station_on, station_of, centerline_of}

abbrev f : ℕ → Float
f n = of_bits binary32 n

abbrev d : ℕ → Float
d n = of_bits binary64 n

-- 8 m straight on, and 8 m more: a lane of 16 m
abbrev line : List Float
line = f 0 ∷ f 0 ∷ f 0 ∷ f 0x41000000 ∷ f 0 ∷ f 0 ∷ f 0x41800000 ∷ f 0 ∷ f 0 ∷ []

-- at the stations 0, 4 and 16
abbrev sts : List Float
sts = d 0 ∷ d 0x4010000000000000 ∷ d 0x4030000000000000 ∷ []

-- halfway to the second point
halfway : along_of line sts (d 0x4000000000000000) ≡ f 0x40800000
unfolding along_of segment_of leading fraction_at arc_at point_at length_of sqrt_of narrow_of add sub mul div lt le of_bits
halfway = refl

-- on the last station, and past it
last : along_of line sts (d 0x4030000000000000) ≡ f 0x41800000
unfolding along_of segment_of leading fraction_at arc_at point_at length_of sqrt_of narrow_of add sub mul div lt le of_bits
last = refl

past : along_of line sts (d 0x4034000000000000) ≡ f 0x41800000
unfolding along_of segment_of leading fraction_at arc_at point_at length_of sqrt_of narrow_of add sub mul div lt le of_bits
past = refl

-- 4 m along is station 2, 8 m the second station, 100 m the last one
back : station_of line sts (f 0x40800000) ≡ d 0x4000000000000000
unfolding station_of reached_by leading part_of station_on cumulative_of arc_at point_at length_of sqrt_of add sub mul div lt le of_bits
back = refl

back_vertex : station_of line sts (f 0x41000000) ≡ d 0x4010000000000000
unfolding station_of reached_by leading part_of station_on cumulative_of arc_at point_at length_of sqrt_of add sub mul div lt le of_bits
back_vertex = refl

back_past : station_of line sts (f 0x42c80000) ≡ d 0x4030000000000000
unfolding station_of reached_by leading part_of station_on cumulative_of arc_at point_at length_of sqrt_of add sub mul div lt le of_bits
back_past = refl

-- NaN falls to the last segment, and stays NaN
back_nan : station_of line sts nan ≡ nan
unfolding station_of reached_by leading part_of station_on cumulative_of arc_at point_at length_of sqrt_of add sub mul div lt le of_bits
back_nan = refl

-- on a lane of no length every arc length is the station where it starts
still : station_of (f 0 ∷ f 0 ∷ f 0 ∷ f 0 ∷ f 0 ∷ f 0 ∷ []) (d 0 ∷ d 0x4030000000000000 ∷ []) (f 0x40800000) ≡ d 0
unfolding station_of reached_by leading part_of station_on cumulative_of arc_at point_at length_of sqrt_of add sub mul div lt le of_bits
still = refl

-- a section from 2 to 16: its ends are within it, 1 and NaN are not
on_start : centerline_of (d 0x4000000000000000) (d 0x4030000000000000) line sts (d 0x4000000000000000) ≡ Some (f 0x40800000)
unfolding centerline_of along_of segment_of leading fraction_at arc_at point_at length_of sqrt_of narrow_of add sub mul div lt le of_bits
on_start = refl

on_end : centerline_of (d 0x4000000000000000) (d 0x4030000000000000) line sts (d 0x4030000000000000) ≡ Some (f 0x41800000)
unfolding centerline_of along_of segment_of leading fraction_at arc_at point_at length_of sqrt_of narrow_of add sub mul div lt le of_bits
on_end = refl

off_start : centerline_of (d 0x4000000000000000) (d 0x4030000000000000) line sts (d 0x3ff0000000000000) ≡ None
unfolding centerline_of along_of segment_of leading fraction_at arc_at point_at length_of sqrt_of narrow_of add sub mul div lt le of_bits
off_start = refl

off_nan : centerline_of (d 0x4000000000000000) (d 0x4030000000000000) line sts nan ≡ None
unfolding centerline_of along_of segment_of leading fraction_at arc_at point_at length_of sqrt_of narrow_of add sub mul div lt le of_bits
off_nan = refl
