-- The public answers for a file, as the table asks for them: the lent tables are long enough, and the lists hold "257 chain lanes, 4,096 points and
-- 256 positions" as the program's do; of the lists the answer's entries are shown. An `unfolding` line names what its answer is computed by.
use Rattle.std.specs.Prelude.{false, List, ℕ, ◌*◌, Float, replicate, take}
use Rattle.std.specs.Float.Ieee.{div, is_nan, le, mul, of_bits, sub, to_unsigned}
use Rattle.advance.specs.Advance.{Answer, advance_row, advance_rows, answered_by, case_row, explored, first_branches, metre_row, rows_of}
use Rattle.advance.specs.InPlan.{advance_in, advance_of}
use Rattle.beside.specs.Beside.{center_of}
use Rattle.beside.specs.InPlan.{beside_in, beside_of, next_place}
use Rattle.beside.specs.declared.BesideAnswer.{BesideAnswer}
use Rattle.beside.specs.declared.LanePosition.{LanePosition}
use Rattle.branches.specs.Branches.{at_end, branch_onto, holds, is_next, key_of, kept, next_lanes, up_on}
use Rattle.branches.specs.Front.{enter, enter_all}
use Rattle.branches.specs.Tables.{led_to}
use Rattle.coords.specs.Coords.{length_of}
use Rattle.coords.specs.declared.Point.{Point}
use Rattle.ends.specs.Ends.{end_arc, end_of, end_position, give, place}
use Rattle.ends.specs.declared.Advance.{Advance}
use Rattle.explore.specs.Explore as explore
use Rattle.explore.specs.Explore.{follow, step_from}
use Rattle.fields.specs.Fields.{u32_at, u64_at}
use Rattle.float.specs.Narrow.{narrow_of}
use Rattle.float.specs.Root.{sqrt_of}
use Rattle.float.specs.Sign.{abs_of}
use Rattle.float.specs.Whole.{round_of}
use Rattle.geometry.specs.Locate.{local_t, locate_of, point_along, segment_of}
use Rattle.geometry.specs.Partition.{leading}
use Rattle.geometry.specs.Polyline.{arc_at, cumulative_of, point_at}
use Rattle.geometry.specs.Project.{fraction_along, hit_along, nearer_at, project_to}
use Rattle.lanes_advance.specs.Advance.{position}
use Rattle.lanes_beside.specs.Beside.{centerline}
use Rattle.lanes_route.specs.Route.{RouteLists, route_of}
use Rattle.nearest.specs.Nearest.{lanes_after}
use Rattle.network.specs.Nearest.{nearest_lane}
use Rattle.plan_find.specs.FirstRow.{first_row}
use Rattle.plan_format.specs.Plan.{Decoded, any, decode, every, fits, in_range, index_of, judged, lacks, lane_fits, lane_range, record_number}
use Rattle.plan_format.specs.Plan.{repeats, rises, rises_from, section_fits, section_range, settled, twice, walk, walked, with_record, within}
use Rattle.plan_format.specs.Reading.{opened, read_of}
use Rattle.plan_format.specs.Records as records
use Rattle.plan_format.specs.Records.{lane_id, raised_at}
use Rattle.plan_format.specs.Tables.{linked, plan_rows, rows, rows_from}
use Rattle.road.specs.Along.{along_of, fraction_at, part_of, reached_by, station_of, station_on}
use Rattle.route.specs.Route.{Routed, answer_of, between, fitted, followed, lengths_to, path_by, route_in, routed, suffices, tables_of}
use Rattle.sampling.specs.Kept.{flat, pushed}
use Rattle.sampling.specs.Sampling.{changes_off, exit_at, exit_for, is_ahead, is_forward, leads, sample_from, sample_lanes, sample_route}
use Rattle.sampling.specs.Sampling.{sample_span, steps_of, travel_end}
use Rattle.search.specs.LaneGraph.{edges, out}
use Rattle.search.specs.Search as search
use Rattle.search.specs.Search.{blank, expanded, least_open, marked, rebuild, relaxed, searched}
use Rattle.tables.specs.LaneTables.{lane_rows}
use Rattle.cases.specs.Files.{f32, f64, xyz}

-- what a file gives a caller whose tables are long enough
unfoldable pub decoded : ℕ → List ℕ → Decoded
unfolding opened decode settled judged walked walk with_record record_number fits lane_fits section_fits in_range lane_range section_range every
    any rises rises_from within index_of repeats twice lacks u32_at u64_at records.run raised_at of_bits le
decoded side file = opened false side file

-- ---- the number of a file, 0 for a plan

unfoldable pub number_of : List ℕ → ℕ
unfolding decoded
number_of file = (read_of (decoded 0 file)).number

-- ---- the route

abbrev pub shown : RouteLists → Routed
shown r =
    record {
      number = r.answer.number;
      chain = take r.answer.lanes r.chain;
      points = take (3 * r.answer.points) r.waypoints;
      length = r.answer.length;
    }

unfoldable pub route : List ℕ → Point → Point → Routed
unfolding decoded answer_of route_in fitted routed between followed path_by suffices tables_of plan_rows lane_rows rows rows_from linked
    lengths_to is_ahead searched search.run rebuild least_open relaxed expanded search.settled marked blank edges out sample_route sample_lanes
    sample_span sample_from steps_of exit_for exit_at travel_end is_forward changes_off leads pushed flat nearest_lane lanes_after arc_at
    point_along locate_of segment_of local_t leading project_to nearer_at fraction_along hit_along length_of abs_of sub mul div to_unsigned
    is_nan
route file from to = shown (route_of (decoded 0 file) from to (replicate 257 0) (replicate 12288 (f32 0)))

-- the answer with this chain, these points and this cost
abbrev pub answered : List ℕ → List Point → Float → Routed
answered chain points cost = record { number = 0; chain = chain; points = xyz points; length = cost }

-- ---- positions moved on

-- s on the lane n, without offset
abbrev pub on : ℕ → Float → LanePosition
on n s = position (lane_id n) s (f64 0)

abbrev pub shown_positions : Answer → Answer
shown_positions a =
    record {
      advanced = a.advanced;
      rows = take (2 * a.advanced.positions) a.rows;
      metres = take (3 * a.advanced.positions) a.metres;
    }

unfoldable pub advance : List ℕ → LanePosition → Float → Answer
unfolding decoded advance_in advance_rows advance_row answered_by explored explore.run step_from follow place give end_of end_position end_arc
    enter enter_all first_branches rows_of first_row next_lanes kept is_next at_end up_on branch_onto key_of holds led_to along_of fraction_at
    station_of station_on reached_by part_of plan_rows lane_rows rows rows_from linked segment_of leading arc_at cumulative_of point_at sqrt_of
    length_of narrow_of round_of abs_of local_t sub mul div is_nan
advance file from distance = shown_positions (advance_of (decoded 0 file) from distance (replicate 512 0) (replicate 768 (f64 0)))

-- the answer with so many keys and one position
abbrev pub one_position : ℕ → Advance → Answer
one_position n a = record { advanced = record { number = 0; keys = n; positions = 1 }; rows = case_row a; metres = metre_row a }

-- ---- the lane beside a lane, at s 2

unfoldable pub beside : ℕ → List ℕ → ℕ → BesideAnswer
unfolding decoded beside_in next_place
beside side file n = beside_of (decoded side file) (centerline (lane_id n) (f64 2)) side

abbrev pub left_of : List ℕ → ℕ → BesideAnswer
left_of file n = beside 0 file n

abbrev pub right_of : List ℕ → ℕ → BesideAnswer
right_of file n = beside 1 file n

-- the answer with this lane
abbrev pub beside_lane : ℕ → BesideAnswer
beside_lane n = center_of n (f64 2)
