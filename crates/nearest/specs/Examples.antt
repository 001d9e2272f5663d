-- Small plans, by computation: 9 before 10, 10 for a plan without lanes, and the lane number of a plan whose second record drives.
use Rattle.std.specs.Prelude.{List, [], ◌∷◌, ◌≡◌, refl, ℕ}
use Rattle.std.specs.Float.Ieee.{add, div, eq, is_nan, le, lt, mul, of_bits, of_int, sub, to_unsigned}
use Rattle.std.specs.Float.{binary32, nan}
use Rattle.coords.specs.Coords.{cross_of, length_of, normalize_or}
use Rattle.coords.specs.declared.Point.{Point}
use Rattle.geometry.specs.Polyline.{arc_at}
use Rattle.geometry.specs.Project.{fraction_along, hit_along, left_normal, nearer_at, project_to}
use Rattle.plan_format.specs.Plan.{Plan}
use Rattle.plan_format.specs.Records.{Lane, lane_id}
use Rattle.nearest.specs.Nearest.{lanes_after, nearest_among, nearest_in, refusal}
use Rattle.nearest.specs.declared.NearestAnswer.{NearestAnswer}

abbrev at : ℕ → ℕ → ℕ → Point
at x y z = record { x = of_bits binary32 x; y = of_bits binary32 y; z = of_bits binary32 z }

-- a lane of a type, from (0, y, 0) to (8, y, 0)
abbrev lane : ℕ → ℕ → ℕ → Lane
lane n type y =
    let f = of_bits binary32 in
    record {
      number = n;
      type = type;
      direction = 0;
      ends = 0;
      count = 2;
      points = f 0 ∷ f y ∷ f 0 ∷ f 0x41000000 ∷ f y ∷ f 0 ∷ [];
      tangents = [];
    }

abbrev plan : List Lane → Plan
plan ls = record { lanes = ls; links = []; sections = []; places = []; queries = [] }

-- a lane that parks at y 2, and one that drives at y 4
abbrev two : Plan
two = plan (lane 7 12 0x40000000 ∷ lane 9 1 0x40800000 ∷ [])

empty_plan : nearest_in (plan []) (at 0 0 0) ≡ refusal 10
unfolding nearest_among lanes_after of_bits
empty_plan = refl

nothing_drives : nearest_in (plan (lane 7 12 0x40000000 ∷ [])) (at 0 0 0) ≡ refusal 10
unfolding nearest_among lanes_after of_bits
nothing_drives = refl

not_finite : nearest_in (plan []) (record { x = of_bits binary32 0; y = nan; z = of_bits binary32 0 }) ≡ refusal 9
unfolding nearest_among lanes_after of_bits
not_finite = refl

unfoldable asked : Plan → Point → NearestAnswer
unfolding nearest_among lanes_after project_to nearer_at fraction_along hit_along left_normal arc_at length_of normalize_or cross_of
asked p q = nearest_in p q

-- at (3, 1, 0): s 3 and 3 m to the right
second_drives : asked two (at 0x40400000 0x3f800000 0)
    ≡ record {
      number = 0;
      lane = lane_id 9;
      projection = record { s = of_bits binary32 0x40400000; point = at 0x40400000 0x40800000 0; offset = of_bits binary32 0xc0400000 };
    }
unfolding asked add sub mul div lt le eq of_bits to_unsigned of_int is_nan
second_drives = refl

-- all other fields of a refused answer are zero
zeros : (n : ℕ)
    → refusal n
    ≡ record { number = n; lane = record { 0 = 0 }; projection = record { s = of_bits binary32 0; point = at 0 0 0; offset = of_bits binary32 0 } }
zeros n = refl
