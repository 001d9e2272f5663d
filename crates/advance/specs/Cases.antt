-- Worked cases, by computation, over a plan's records: document 01's lanes 1 and 2, from (0,0,0) over (8,0,0) to (16,0,0), with the stations 0, 8
-- and 8, 16; lane 3 goes on to (24,0,0) and has no place; lane 4, beside lane 1, is a Both lane.
use Rattle.std.specs.Prelude.{◌≡◌, refl, List, [], ◌∷◌, ℕ, Float}
use Rattle.std.specs.Float.{binary32, binary64}
use Rattle.std.specs.Float.Ieee.{add, sub, mul, div, lt, le, eq, neg, of_bits, to_bits, to_signed, of_int, round, is_nan}
use Rattle.float.specs.Narrow.{narrow_of}
use Rattle.float.specs.Sign.{abs_of}
use Rattle.float.specs.Whole.{whole_by, round_of}
use Rattle.float.specs.Root.{sqrt_of}
use Rattle.coords.specs.Coords.{cross_of, length_of, normalize_or}
use Rattle.geometry.specs.Polyline.{point_at, arc_at, cumulative_of}
use Rattle.geometry.specs.Partition.{leading}
use Rattle.geometry.specs.Locate.{segment_of, local_t, locate_of, point_along}
use Rattle.geometry.specs.Project.{left_normal, fraction_along, hit_along, nearer_at, project_to, project_segments}
use Rattle.road.specs.Along.{fraction_at, along_of, reached_by, part_of, station_on, station_of}
use Rattle.plan_format.specs.Plan.{Plan, index_of}
use Rattle.plan_format.specs.Records.{Lane, Link, Place, Section}
use Rattle.plan_format.specs.Tables.{linked, plan_rows, rows, rows_from}
use Rattle.tables.specs.LaneTables.{lane_rows}
use Rattle.beside.specs.declared.LanePosition.{LanePosition}
use Rattle.plan_find.specs.FirstRow.{first_row}
use Rattle.branches.specs.Tables.{led_to}
use Rattle.branches.specs.Branches.{millimetres, at_end, is_next, kept, next_lanes, up_on, branch_onto, key_of, holds}
use Rattle.explore.specs.Explore.{follow, step_from, run}
use Rattle.advance.specs.Advance.{Answer, first_branches, explored, rows_of, refused_with, answered_by, advance_row, advance_rows}
use Rattle.advance.specs.InPlan.{advance_in}
use Rattle.branches.specs.Front.{enter, enter_all}
use Rattle.ends.specs.Ends.{placing_of, end_arc, end_position, end_of, give, place}
use Rattle.std.specs.Prelude.{true, false}

abbrev f : ℕ → Float
f n = of_bits binary32 n

abbrev d : ℕ → Float
d n = of_bits binary64 n

-- 8, 16 and 24
abbrev eight : Float
eight = f 0x41000000

abbrev sixteen : Float
sixteen = f 0x41800000

abbrev eight64 : Float
eight64 = d 0x4020000000000000

abbrev sixteen64 : Float
sixteen64 = d 0x4030000000000000

abbrev lane : ℕ → ℕ → Float → Float → Lane
lane number direction a b =
    record {
      number = number;
      type = 1;
      direction = direction;
      ends = 0;
      count = 2;
      points = a ∷ f 0 ∷ f 0 ∷ b ∷ f 0 ∷ f 0 ∷ [];
      tangents = [];
    }

abbrev section : ℕ → Float → Float → Section
section index start end = record { road = 0; index = index; start = start; end = end; count = 2; stations = start ∷ end ∷ [] }

-- the OpenDRIVE number with 2^31 added
abbrev placed : ℕ → ℕ → ℕ → Place
placed lane index raised = record { lane = lane; road = 0; index = index; raised = raised }

abbrev link : ℕ → ℕ → ℕ → Link
link from role to = record { from = from; role = role; to = to }

-- 2 is a successor of 1 and 1 a predecessor of 2, and such other links
abbrev plan : List Link → Plan
plan more = record {
  lanes = lane 1 0 (f 0) eight ∷ lane 2 0 eight sixteen ∷ lane 3 0 sixteen (f 0x41c00000) ∷ lane 4 2 (f 0) eight ∷ [];
  links = link 1 0 2 ∷ link 2 1 1 ∷ more;
  sections = section 0 (d 0) eight64 ∷ section 1 eight64 sixteen64 ∷ [];
  places = placed 1 0 2147483647 ∷ placed 2 1 2147483647 ∷ placed 4 0 2147483646 ∷ [];
  queries = [];
}

abbrev at : ℕ → Float → LanePosition
at lane s = record { lane = record { 0 = lane }; s = s; offset = d 0 }

-- lane 1 at s 2
abbrev from : LanePosition
from = at 1 (d 0x4000000000000000)

-- an answer with one position, in lists that hold one
abbrev one : ℕ → ℕ → ℕ → Float → Float → Answer
one keys case lane s short =
    record { advanced = record { number = 0; keys = keys; positions = 1 }; rows = case ∷ lane ∷ []; metres = s ∷ d 0 ∷ short ∷ [] }

abbrev moved : List Link → LanePosition → Float → Answer
moved more from distance = advance_in (plan more) from distance (7 ∷ 7 ∷ []) (d 7 ∷ d 7 ∷ d 7 ∷ [])

abbrev by : Float → Answer
by distance = moved [] from distance

pub record Worked : Type 0 where
  -- 6 m: to s 8 on lane 1, which metres left equal to the lane's do not leave
  pub by_six : by (d 0x4018000000000000) ≡ one 0 0 1 eight64 (d 0)
  -- 6.5 m: to s 8.5 on lane 2
  pub by_six_and_a_half : by (d 0x401a000000000000) ≡ one 1 0 2 (d 0x4021000000000000) (d 0)
  -- 20 m: a dead end at s 16, 6 m short
  pub by_twenty : by (d 0x4034000000000000) ≡ one 1 1 2 sixteen64 (d 0x4018000000000000)
  -- back: 4 m from s 10 on lane 2, to s 6 on lane 1
  pub back_four : moved [] (at 2 (d 0x4024000000000000)) (d 0xc010000000000000) ≡ one 1 0 1 (d 0x4018000000000000) (d 0)
  -- a way on to lane 3: the answer is empty, and the lists stay
  pub no_place_law : moved (link 2 0 3 ∷ []) from (d 0x4034000000000000)
      ≡ record { advanced = record { number = 0; keys = 2; positions = 0 }; rows = 7 ∷ 7 ∷ []; metres = d 7 ∷ d 7 ∷ d 7 ∷ [] }
  -- 2 m from s 4 on the Both lane: up the centerline, then down
  pub both_ways : advance_in (plan []) (at 4 (d 0x4010000000000000)) (d 0x4000000000000000) (7 ∷ 7 ∷ 7 ∷ 7 ∷ 7 ∷ [])
      (d 7 ∷ d 7 ∷ d 7 ∷ d 7 ∷ d 7 ∷ d 7 ∷ [])
      ≡ record {
        advanced = record { number = 0; keys = 0; positions = 2 };
        rows = 0 ∷ 4 ∷ 0 ∷ 4 ∷ 7 ∷ [];
        metres = d 0x4018000000000000 ∷ d 0 ∷ d 0 ∷ d 0x4000000000000000 ∷ d 0 ∷ d 0 ∷ [];
      }
  -- an infinite distance
  pub by_infinity : by (d 0x7ff0000000000000) ≡ refused_with 13 (7 ∷ 7 ∷ []) (d 7 ∷ d 7 ∷ d 7 ∷ [])
  -- lane 3 has no place
  pub from_three : moved [] (at 3 sixteen64) (d 0) ≡ refused_with 12 (7 ∷ 7 ∷ []) (d 7 ∷ d 7 ∷ d 7 ∷ [])
  -- no room for the position
  pub short_list : advance_in (plan []) from (d 0x4018000000000000) (7 ∷ []) (d 7 ∷ d 7 ∷ d 7 ∷ [])
      ≡ refused_with 14 (7 ∷ []) (d 7 ∷ d 7 ∷ d 7 ∷ [])

pub worked : Worked
unfolding advance_in plan_rows lane_rows rows rows_from linked index_of advance_rows advance_row answered_by explored run step_from follow place
    give end_of end_position end_arc placing_of enter enter_all first_branches rows_of first_row next_lanes kept is_next at_end up_on branch_onto
    key_of holds millimetres led_to along_of fraction_at station_of station_on reached_by part_of segment_of leading arc_at cumulative_of
    point_at sqrt_of length_of narrow_of round_of whole_by abs_of point_along locate_of local_t project_segments project_to nearer_at hit_along
    fraction_along left_normal cross_of normalize_or to_bits to_signed add sub mul div lt le eq neg of_bits of_int round is_nan
worked =
    record {
      by_six = refl;
      by_six_and_a_half = refl;
      by_twenty = refl;
      back_four = refl;
      no_place_law = refl;
      both_ways = refl;
      by_infinity = refl;
      from_three = refl;
      short_list = refl;
    }

-- all other fields of a refused answer are zero, and the lists stay
zeros : (n : ℕ) (rows : List ℕ) (metres : List Float)
    → refused_with n rows metres ≡ record { advanced = record { number = n; keys = 0; positions = 0 }; rows = rows; metres = metres }
zeros n rows metres = refl

pub record Refusals : Type 0 where
  -- lane 3 has no place, whatever the distance; 13 before 14
  pub from_three_by_infinity : moved [] (at 3 sixteen64) (d 0x7ff0000000000000) ≡ refused_with 12 (7 ∷ 7 ∷ []) (d 7 ∷ d 7 ∷ d 7 ∷ [])
  pub by_infinity_short : advance_in (plan []) from (d 0x7ff0000000000000) [] [] ≡ refused_with 13 [] []
  -- no room for the position in the second list
  pub short_metres : advance_in (plan []) from (d 0x4018000000000000) (7 ∷ 7 ∷ []) (d 7 ∷ d 7 ∷ [])
      ≡ refused_with 14 (7 ∷ 7 ∷ []) (d 7 ∷ d 7 ∷ [])
  -- a 1,025th key: 14, whatever was found; 1,024 keys are an answer
  pub full_keys : answered_by true 1024 [] (7 ∷ []) (d 7 ∷ []) ≡ refused_with 14 (7 ∷ []) (d 7 ∷ [])
  pub most_keys : answered_by false 1024 [] (7 ∷ []) (d 7 ∷ [])
      ≡ record { advanced = record { number = 0; keys = 1024; positions = 0 }; rows = 7 ∷ []; metres = d 7 ∷ [] }

pub refusals : Refusals
unfolding advance_in plan_rows lane_rows rows rows_from linked index_of advance_rows advance_row answered_by explored run step_from follow place
    give end_of end_position end_arc placing_of enter enter_all first_branches rows_of first_row next_lanes kept is_next at_end up_on branch_onto
    key_of holds millimetres led_to along_of fraction_at station_of station_on reached_by part_of segment_of leading arc_at cumulative_of
    point_at sqrt_of length_of narrow_of round_of whole_by abs_of point_along locate_of local_t project_segments project_to nearer_at hit_along
    fraction_along left_normal cross_of normalize_or to_bits to_signed add sub mul div lt le eq neg of_bits of_int round is_nan
refusals =
    record {
      from_three_by_infinity = refl;
      by_infinity_short = refl;
      short_metres = refl;
      full_keys = refl;
      most_keys = refl;
    }
