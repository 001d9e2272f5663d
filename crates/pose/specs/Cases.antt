-- Worked cases: a plan of two lanes, number 7, straight on for 8 m, and number 9, which turns left after 8 m and gives its end tangents.
use Rattle.std.specs.Prelude.{[], ◌∷◌, refl, ◌≡◌, Float}
use Rattle.std.specs.Float.Ieee.{add, div, le, lt, mul, of_bits, sub}
use Rattle.std.specs.Float.{binary32, nan}
use Rattle.coords.specs.Coords.{length_of, normalize_or, zero_vector}
use Rattle.float.specs.Root.{sqrt_of}
use Rattle.geometry.specs.Locate.{local_t, locate_of, pose_along, segment_of}
use Rattle.geometry.specs.Partition.{leading}
use Rattle.geometry.specs.Polyline.{arc_at, chord_at, cumulative_of, end_or, point_at, tangents_to, vector_at}
use Rattle.plan_format.specs.Plan.{Plan, index_of}
use Rattle.plan_format.specs.Records.{Lane}
use Rattle.pose.specs.Lanes.{pose_in, posed_at, refused_pose}
use Rattle.pose.specs.declared.Posed.{Posed}
use Rattle.std.specs.Prelude.{ℕ}

abbrev o : Float
o = of_bits binary32 0

abbrev one : Float
one = of_bits binary32 0x3f800000

abbrev two : Float
two = of_bits binary32 0x40000000

abbrev eight : Float
eight = of_bits binary32 0x41000000

abbrev straight : Lane
straight =
    record { number = 7; type = 0; direction = 0; ends = 0; count = 2; points = o ∷ o ∷ o ∷ eight ∷ o ∷ o ∷ []; tangents = [] }

-- its start tangent leads to the left and up, its end tangent nowhere
abbrev turning : Lane
turning =
    record {
      number = 9;
      type = 0;
      direction = 0;
      ends = 1;
      count = 3;
      points = o ∷ o ∷ o ∷ eight ∷ o ∷ o ∷ eight ∷ eight ∷ o ∷ [];
      tangents = o ∷ eight ∷ eight ∷ o ∷ o ∷ o ∷ [];
    }

abbrev road : Plan
road = record { lanes = straight ∷ turning ∷ []; links = []; sections = []; places = []; queries = [] }

abbrev along : Float → Posed
along x = record { number = 0; pose = record { position = record { x = x; y = o; z = o }; heading = record { x = one; y = o; z = o } } }

two_along : pose_in road 7 two ≡ along two
unfolding pose_in index_of pose_along locate_of segment_of local_t leading cumulative_of arc_at tangents_to end_or chord_at point_at vector_at
    normalize_or length_of sqrt_of add sub mul div lt le of_bits
two_along = refl

-- past the end: the end
past : pose_in road 7 (of_bits binary32 0x42000000) ≡ along eight
unfolding pose_in index_of pose_along locate_of segment_of local_t leading cumulative_of arc_at tangents_to end_or chord_at point_at vector_at
    normalize_or length_of sqrt_of add sub mul div lt le of_bits
past = refl

-- before the start: the start
before : pose_in road 7 (of_bits binary32 0xc0000000) ≡ along o
unfolding pose_in index_of pose_along locate_of segment_of local_t leading cumulative_of arc_at tangents_to end_or chord_at point_at vector_at
    normalize_or length_of sqrt_of add sub mul div lt le of_bits
before = refl

-- NaN: a NaN position, and no heading
nowhere : pose_in road 7 nan ≡ posed_at (record { position = record { x = nan; y = nan; z = nan }; heading = zero_vector })
unfolding pose_in index_of pose_along locate_of segment_of local_t leading cumulative_of arc_at tangents_to end_or chord_at point_at vector_at
    normalize_or length_of sqrt_of add sub mul div lt le of_bits
nowhere = refl

-- the start tangent on the ground
turned_start : pose_in road 9 o ≡ posed_at (record { position = record { x = o; y = o; z = o }; heading = record { x = o; y = one; z = o } })
unfolding pose_in index_of pose_along locate_of segment_of local_t leading cumulative_of arc_at tangents_to end_or chord_at point_at vector_at
    normalize_or length_of sqrt_of add sub mul div lt le of_bits
turned_start = refl

-- 4 m into the second segment: between the bisector at the corner and the chord, which stands for the end tangent
turned_second : pose_in road 9 (of_bits binary32 0x41400000)
    ≡ posed_at
    (record {
      position = record { x = eight; y = of_bits binary32 0x40800000; z = o };
      heading = record { x = of_bits binary32 0x3ec3ef15; y = of_bits binary32 0x3f6c835f; z = o };
    })
unfolding pose_in index_of pose_along locate_of segment_of local_t leading cumulative_of arc_at tangents_to end_or chord_at point_at vector_at
    normalize_or length_of sqrt_of add sub mul div lt le of_bits
turned_second = refl

unknown : pose_in road 8 two ≡ refused_pose 12
unfolding pose_in index_of
unknown = refl

-- lane 9 with an end tangent that leads straight on and up
abbrev bent : Lane
bent =
    record {
      number = 9;
      type = 0;
      direction = 0;
      ends = 1;
      count = 3;
      points = o ∷ o ∷ o ∷ eight ∷ o ∷ o ∷ eight ∷ eight ∷ o ∷ [];
      tangents = o ∷ eight ∷ eight ∷ eight ∷ o ∷ eight ∷ [];
    }

-- 4 m into the second segment: between the bisector at the corner and the end tangent on the ground
bent_second :
    pose_in (record { lanes = straight ∷ bent ∷ []; links = []; sections = []; places = []; queries = [] }) 9 (of_bits binary32 0x41400000)
    ≡ posed_at
    (record {
      position = record { x = eight; y = of_bits binary32 0x40800000; z = o };
      heading = record { x = of_bits binary32 0x3f6c835f; y = of_bits binary32 0x3ec3ef15; z = o };
    })
unfolding pose_in index_of pose_along locate_of segment_of local_t leading cumulative_of arc_at tangents_to end_or chord_at point_at vector_at
    normalize_or length_of sqrt_of add sub mul div lt le of_bits
bent_second = refl

-- all other fields of a refused answer are zero
zeros : (n : ℕ) → refused_pose n
    ≡ record { number = n; pose = record { position = record { x = o; y = o; z = o }; heading = record { x = o; y = o; z = o } } }
zeros n = refl
