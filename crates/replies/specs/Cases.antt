-- Worked cases, from the file's bytes to the text: document 01's printed case byte for byte; an empty file, a cut one, an empty plan with queries.
use Rattle.std.specs.Prelude.{List, [], ◌++◌, ◌∷◌, refl, ◌≡◌, ℕ}
use Rattle.std.specs.Float.Ieee.{add, div, eq, is_nan, le, lt, mul, of_bits, of_int, sub, to_bits, to_unsigned}
use Rattle.advance.specs.Advance.{advance_row, advance_rows}
use Rattle.advance.specs.InPlan.{advance_in}
use Rattle.beside.specs.InPlan.{beside_in}
use Rattle.coords.specs.Coords.{cross_of, length_of, normalize_or}
use Rattle.fields.specs.Fields.{u32_at, u64_at}
use Rattle.float.specs.Sign.{abs_of, signum_of}
use Rattle.float.specs.Whole.{ceil_of}
use Rattle.geometry.specs.Locate.{local_t, locate_of, point_along, segment_of}
use Rattle.geometry.specs.Partition.{leading}
use Rattle.geometry.specs.Polyline.{arc_at, cumulative_of, point_at}
use Rattle.geometry.specs.Project.{fraction_along, hit_along, left_normal, nearer_at, project_segments, project_to}
use Rattle.nearest.specs.Nearest.{lanes_after}
use Rattle.network.specs.Nearest.{nearest_lane}
use Rattle.plan_find.specs.FirstRow.{first_row}
use Rattle.plan_format.specs.Plan.{any, decode, every, fits, in_range, index_of, judged, lacks, lane_fits, lane_range, record_number, repeats}
use Rattle.plan_format.specs.Plan.{rises, rises_from, section_fits, section_range, settled, twice, walk, walked, with_record, within}
use Rattle.plan_format.specs.Records.{query_at, raised_at, run}
use Rattle.plan_format.specs.Samples.{advance, beside, bytes as little, link, made, point, straight}
use Rattle.plan_format.specs.Tables.{linked, plan_rows, rows, rows_from}
use Rattle.route.specs.Route.{answer_of, between, fitted, followed, lengths_to, path_by, route_in, routed, suffices, tables_of}
use Rattle.sampling.specs.Kept.{flat, pushed}
use Rattle.sampling.specs.Sampling.{changes_off, exit_at, exit_for, is_ahead, is_forward, leads, nearer_end, sample_from, sample_lanes, sample_route}
use Rattle.sampling.specs.Sampling.{sample_span, steps_of, toward, travel_end}
use Rattle.search.specs.LaneGraph.{edges, out}
use Rattle.search.specs.Search.{blank, expanded, least_open, marked, rebuild, relaxed, run as runSearch, searched, settled as settledLanes}
use Rattle.tables.specs.LaneTables.{lane_rows}
use Rattle.text.specs.Bytes.{bytes}
use Rattle.text.specs.Lines.{advance_line, advance_text, at_line, beside_line, beside_text, double_field, lane_line, lane_lines, newline}
use Rattle.text.specs.Lines.{number_field, plan_line, point_line, point_lines, position_lines, route_line, route_text, single_field}
use Rattle.text.specs.Numerals.{decimal_of, digits_of, double_of, hex_of, digit_count, digit_count_by, single_of}
use Rattle.replies.specs.Printed.{printed, printed_by, replies_to, reply_to}

-- a route query
unfoldable route : List ℕ → List ℕ → List ℕ
route from to = made 16 (from ++ to)

-- lane 1 from (0,0,0) to (8,0,0), lane 2 from there to (16,0,0), 2 a successor of 1, a route from (2,0,0) to (12,0,0)
printed_case :
    printed (straight 1 0 0x41000000 ++ (straight 2 0x41000000 0x41800000 ++ (link 1 0 2 ++ route (point 0x40000000 0 0) (point 0x41400000 0 0))))
    ≡ bytes "plan 0 2 1\n"
    ++ bytes "route 0 2 6 41000000\n"
    ++ bytes "lane 1\n"
    ++ bytes "lane 2\n"
    ++ bytes "point 40000000 00000000 00000000\n"
    ++ bytes "point 40800000 00000000 00000000\n"
    ++ bytes "point 40C00000 00000000 00000000\n"
    ++ bytes "point 41000000 00000000 00000000\n"
    ++ bytes "point 41200000 00000000 00000000\n"
    ++ bytes "point 41400000 00000000 00000000\n"
unfolding printed_by replies_to reply_to bytes plan_line route_text route_line lane_lines lane_line point_lines point_line newline number_field
    single_field decimal_of digits_of digit_count digit_count_by single_of hex_of to_bits u32_at u64_at run raised_at query_at lane_fits
    section_fits fits every any rises_from rises lane_range section_range in_range within record_number with_record walk walked index_of repeats
    twice lacks judged settled decode little made point straight link route route_in answer_of fitted routed between followed path_by suffices
    tables_of plan_rows lane_rows rows rows_from linked lengths_to is_ahead searched runSearch rebuild least_open relaxed expanded settledLanes
    marked blank edges out sample_route sample_lanes sample_span sample_from steps_of exit_for exit_at travel_end is_forward nearer_end
    changes_off leads toward pushed flat nearest_lane lanes_after cumulative_of arc_at point_at point_along locate_of segment_of local_t leading
    project_segments project_to nearer_at fraction_along hit_along left_normal length_of normalize_or cross_of abs_of signum_of ceil_of add sub
    mul div lt le eq of_bits to_unsigned of_int is_nan
printed_case = refl

-- 0: an empty file is a plan. 3: one byte is no record
empty_file : printed [] ≡ bytes "plan 0 0 0\n"
unfolding printed_by replies_to bytes plan_line newline number_field decimal_of digits_of digit_count digit_count_by walk walked repeats twice
    lacks any judged settled decode
empty_file = refl

cut_file : printed (0 ∷ []) ≡ bytes "plan 3 0 0\n"
unfolding printed_by bytes plan_line newline number_field decimal_of digits_of digit_count digit_count_by record_number walk walked settled
    decode
cut_file = refl

-- no lane drives, and none has a place: each query is refused and prints zeros
empty_plan :
    printed (route (point 0 0 0) (point 0x41000000 0 0) ++ (advance 1 0 0 0x4018000000000000 ++ beside 1 0 1))
    ≡ bytes "plan 0 0 0\n"
    ++ bytes "route 10 0 0 00000000\n"
    ++ bytes "advance 12 0 0\n"
    ++ bytes "beside 12\n"
    ++ bytes "at 0 0000000000000000 0000000000000000\n"
unfolding printed_by replies_to reply_to bytes plan_line route_text route_line lane_lines point_lines advance_text advance_line position_lines
    beside_text beside_line at_line newline number_field single_field double_field decimal_of digits_of digit_count digit_count_by single_of
    double_of hex_of to_bits u32_at u64_at run raised_at query_at fits every any in_range within record_number with_record walk walked index_of
    repeats twice lacks judged settled decode little made point route advance beside route_in answer_of fitted routed between tables_of plan_rows
    lane_rows rows rows_from linked lengths_to nearest_lane lanes_after advance_in advance_rows advance_row first_row beside_in add sub mul div
    lt le eq of_bits to_unsigned of_int is_nan
empty_plan = refl
