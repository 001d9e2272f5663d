-- Worked cases: what small files give, by computation.
use Rattle.std.specs.Prelude.{List, [], map, ◌++◌, ◌∷◌, refl, ◌≡◌, ℕ, ◌<◌, ◌≤◌, length}
use Rattle.std.specs.Float.Ieee.{le, lt, of_bits}
use Rattle.std.proofs.Common.{le-ltb, lt-ltb}
use Rattle.fields.specs.Fields.{u32_at, u64_at}
use Rattle.plan_format.specs.Plan.{accepted, any, decode, every, fits, in_range, index_of, judged, lacks}
use Rattle.plan_format.specs.Plan.{lane_fits, lane_range, record_number, refused, repeats, rises, rises_from}
use Rattle.plan_format.specs.Plan.{section_fits, section_range, settled, twice, walk, walked, with_record, within}
use Rattle.plan_format.specs.Records.{Lane, query_at, raised_at, run}
use Rattle.plan_format.specs.Samples.{bytes, f32_bits, lane, link, made, number_is, place, point, rows_in, section, section_by, straight, wide}
use Rattle.plan_format.specs.Tables.{linked, plan_rows, rows, rows_from}
use Rattle.plan_format.specs.declared.Counts.{Counts}
use Rattle.plan_format.specs.declared.Query.TheVariants.{Route}

-- the file printed in document 01: lanes 1 and 2, a link, a route from (2,0,0) to (12,0,0)
printed : List ℕ
printed =
    straight 1 0 0x41000000 ++
    (straight 2 0x41000000 0x41800000 ++ (link 1 0 2 ++ made 16 (point 0x40000000 0 0 ++ point 0x41400000 0 0)))

driving : ℕ → ℕ → ℕ → Lane
driving n from to =
    record {
      number = n;
      type = 1;
      direction = 0;
      ends = 0;
      count = 2;
      points = f32_bits from ∷ f32_bits 0 ∷ f32_bits 0 ∷ f32_bits to ∷ f32_bits 0 ∷ f32_bits 0 ∷ [];
      tangents = [];
    }

printed_plan :
    decode 0 printed
    ≡ accepted (record {
      lanes = driving 1 0 0x41000000 ∷ driving 2 0x41000000 0x41800000 ∷ [];
      links = record { from = 1; role = 0; to = 2 } ∷ [];
      sections = [];
      places = [];
      queries = Route (f32_bits 0x40000000) (f32_bits 0) (f32_bits 0) (f32_bits 0x41400000) (f32_bits 0) (f32_bits 0) ∷ [];
    })
unfolding
    of_bits le lt u32_at u64_at run raised_at query_at lane_fits section_fits fits every any rises_from rises lane_range section_range
    in_range within record_number with_record walk walked index_of repeats twice lacks judged settled decode bytes made point
    lane straight link wide section_by section place f32_bits driving printed
printed_plan = refl

-- its tables of lanes, links and fans
printed_tables :
    ((rows_in (decode 0 printed)).lanes ≡ 1 ∷ 1 ∷ 0 ∷ 0 ∷ 0 ∷ 2 ∷ 2 ∷ 1 ∷ 0 ∷ 0 ∷ 2 ∷ 2 ∷ [])
    × ((rows_in (decode 0 printed)).links ≡ 2 ∷ 1 ∷ [])
    × ((rows_in (decode 0 printed)).fans ≡ 0 ∷ 1 ∷ 0 ∷ 0 ∷ 256 ∷ 1 ∷ 0 ∷ 0 ∷ 0 ∷ 256 ∷ [])
unfolding
    of_bits le lt u32_at u64_at run raised_at query_at lane_fits section_fits fits every any rises_from rises lane_range section_range
    in_range within record_number with_record walk walked index_of repeats twice lacks judged settled decode bytes made point
    lane straight link wide section_by section place f32_bits driving printed rows rows_from linked plan_rows rows_in
printed_tables = (refl, refl, refl)

-- 0: an empty file is a plan without lanes
empty : List ℕ
empty = []

-- 3: under six header bytes
five_bytes : List ℕ
five_bytes = 1 ∷ 0 ∷ 0 ∷ 0 ∷ 0 ∷ []

-- 3: a record that runs past the file, whatever its kind
past_the_end : List ℕ
past_the_end = bytes 4 1 ++ bytes 2 99

-- 4: an unknown kind
unknown_kind : List ℕ
unknown_kind = made 5 []

-- 4: a length that does not fit its kind
wrong_length : List ℕ
wrong_length = made 4 (bytes 9 0)

-- 0: coordinates -4,096 and 4,096 pass
edge : List ℕ
edge = straight 1 0xc5800000 0x45800000

-- 5: the next f32 above 4,096 does not
above : List ℕ
above = straight 1 0 0x45800001

-- 5: one point
one_point : List ℕ
one_point = lane 1 0 0 1 (point 0 0 0)

-- 5: ends 2, its length taken as with tangents
two_ends : List ℕ
two_ends = lane 1 0 2 2 (bytes 48 0)

-- 7: a lane that stands twice
same_lane : List ℕ
same_lane = straight 1 0 0x41000000 ++ straight 1 0 0x41000000

-- 7: 7 comes before 8, wherever the records stand
twice_before_missing : List ℕ
twice_before_missing = link 9 0 1 ++ same_lane

-- 8: a from-lane that is missing
from_missing_law : List ℕ
from_missing_law = straight 1 0 0x41000000 ++ link 2 0 1

-- 0: a lane led to may be missing
to_missing : List ℕ
to_missing = straight 1 0 0x41000000 ++ link 1 0 2

-- 0: a place may stand before its lane and section; here its number is -1
placed : List ℕ
placed = place 1 0 0 0xffffffff ++ (straight 1 0 0x41000000 ++ section 0 0)

-- 8: a section that is missing
no_section_law : List ℕ
no_section_law = straight 1 0 0x41000000 ++ place 1 0 0 0

-- the number of each, in this order
cases :
    map (λ (s : List ℕ). number_is (decode 0 s))
    (empty ∷ five_bytes ∷ past_the_end ∷ unknown_kind ∷ wrong_length ∷ edge ∷ above ∷ one_point
    ∷ two_ends ∷ same_lane ∷ twice_before_missing ∷ from_missing_law ∷ to_missing ∷ placed ∷ no_section_law ∷ [])
    ≡ 0 ∷ 3 ∷ 3 ∷ 4 ∷ 4 ∷ 0 ∷ 5 ∷ 5 ∷ 5 ∷ 7 ∷ 7 ∷ 8 ∷ 0 ∷ 0 ∷ 8 ∷ []
unfolding
    of_bits le lt u32_at u64_at run raised_at query_at lane_fits section_fits fits every any rises_from rises lane_range section_range
    in_range within record_number with_record walk walked index_of repeats twice lacks judged settled decode bytes made point
    lane straight link wide section_by section place f32_bits driving printed empty five_bytes past_the_end unknown_kind wrong_length edge above one_point
    two_ends same_lane twice_before_missing from_missing_law to_missing placed no_section_law number_is
cases = refl

-- a caller's side above 1 is tried after the records and before 7
side_two : number_is (decode 2 same_lane) ≡ 5
unfolding
    of_bits le lt u32_at u64_at run raised_at query_at lane_fits section_fits fits every any rises_from rises lane_range section_range
    in_range within record_number with_record walk walked index_of repeats twice lacks judged settled decode bytes made point
    lane straight link wide section_by section place f32_bits driving printed empty five_bytes past_the_end unknown_kind wrong_length edge above one_point
    two_ends same_lane twice_before_missing from_missing_law to_missing placed no_section_law number_is
side_two = refl

-- a lane after so many lanes and points: 256 lanes and 4,096 points pass
after : ℕ → ℕ → Counts
after lanes points = record { lanes = lanes; points = points; links = 0; sections = 0; stations = 0; places = 0 }

limits :
    map (record_number (straight 1 0 0) 0) (after 255 4094 ∷ after 256 0 ∷ after 0 4095 ∷ []) ≡ 0 ∷ 6 ∷ 6 ∷ []
unfolding
    of_bits le lt u32_at u64_at run raised_at query_at lane_fits section_fits fits every any rises_from rises lane_range section_range
    in_range within record_number with_record walk walked index_of repeats twice lacks judged settled decode bytes made point
    lane straight link wide section_by section place f32_bits driving printed after
limits = refl

-- more than 65,536 bytes
too_large : (side : ℕ) (s : List ℕ) → 65536 < length s → decode side s ≡ refused 2
unfolding decode
too_large side s h = simp (lt-ltb 65536 (length s) h)

-- 65,536 pass
not_too_large : (side : ℕ) (s : List ℕ) → length s ≤ 65536 → decode side s ≡ settled side s (walked s)
unfolding decode
not_too_large side s h = simp (le-ltb 65536 (length s) h)
