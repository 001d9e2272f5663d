-- Worked cases of each number: the edges of every range, of every limit, and each kind of 7 and 8.
use Rattle.std.specs.Prelude.{false, true, List, [], map, ◌++◌, ◌∷◌, refl, ◌≡◌, ℕ, replicate}
use Rattle.std.specs.Float.{binary32, binary64}
use Rattle.std.specs.Float.Ieee.{le, lt, of_bits}
use Rattle.fields.specs.Fields.{u32_at, u64_at}
use Rattle.plan_format.specs.Plan.{accepted, any, decode, every, fits, in_range, index_of, judged, lacks}
use Rattle.plan_format.specs.Plan.{lane_fits, lane_range, record_number, refused, repeats, rises, rises_from}
use Rattle.plan_format.specs.Plan.{section_fits, section_range, settled, twice, walk, walked, with_record, within}
use Rattle.plan_format.specs.Reading.{opened, short}
use Rattle.plan_format.specs.Records.{lane_id, query_at, raised_at, run}
use Rattle.plan_format.specs.Samples.{advance, beside, bytes, lane, link, made, number_is, place, point, rows_in, section, section_by}
use Rattle.plan_format.specs.Samples.{straight, wide}
use Rattle.plan_format.specs.Tables.{Tables, linked, plan_rows, rows, rows_from, tables}
use Rattle.plan_format.specs.declared.Counts.{Counts}
use Rattle.plan_format.specs.declared.Query.TheVariants.{Advance, Beside}
use Rattle.plan_format.specs.Reading.{read_of}
use Rattle.plan_format.specs.Samples.{f32_bits, lane}

numbers : List (List ℕ) → List ℕ
numbers files = map (λ (s : List ℕ). number_is (decode 0 s)) files

-- a lane from (0,0,0) to (8,0,0), and the bits of f64s
eight : ℕ → List ℕ
eight n = straight n 0 0x41000000

minus_zero : ℕ
minus_zero = 0x8000000000000000

two : ℕ
two = 0x4000000000000000

four : ℕ
four = 0x4010000000000000

-- the largest station, 1,048,576, and the next f64 above
largest : ℕ
largest = 0x4130000000000000

larger : ℕ
larger = 0x4130000000000001

nan : ℕ
nan = 0x7ff8000000000000

-- 1: a table one entry shorter than its limit, here each in turn; tables of just these lengths pass
lent : ℕ → ℕ → ℕ → ℕ → ℕ → ℕ → ℕ → ℕ → ℕ → Tables
lent lanes points ends fans links sections bounds stations places =
    let zero = of_bits binary32 0 in
    tables (replicate lanes 0) (replicate points zero) (replicate ends zero) (replicate fans 0) (replicate links 0) (replicate sections 0)
    (replicate bounds zero) (replicate stations zero) (replicate places 0)

shorts :
    map short
    (lent 1536 12288 1536 1280 4096 256 128 4096 768 ∷ lent 1535 12288 1536 1280 4096 256 128 4096 768
    ∷ lent 1536 12287 1536 1280 4096 256 128 4096 768 ∷ lent 1536 12288 1535 1280 4096 256 128 4096 768
    ∷ lent 1536 12288 1536 1279 4096 256 128 4096 768 ∷ lent 1536 12288 1536 1280 4095 256 128 4096 768
    ∷ lent 1536 12288 1536 1280 4096 255 128 4096 768 ∷ lent 1536 12288 1536 1280 4096 256 127 4096 768
    ∷ lent 1536 12288 1536 1280 4096 256 128 4095 768 ∷ lent 1536 12288 1536 1280 4096 256 128 4096 767 ∷ [])
    ≡ false ∷ true ∷ true ∷ true ∷ true ∷ true ∷ true ∷ true ∷ true ∷ true ∷ []
unfolding short lent
shorts = refl

-- 1 before all others
too_short_law : (side : ℕ) (s : List ℕ) → opened true side s ≡ refused 1
unfolding opened
too_short_law side s = refl

-- 3: a length of FFFFFFFF; a header alone whose payload is missing. 4: the first failing record decides, here before a 3
three : numbers ((bytes 4 0xffffffff ++ bytes 2 1) ∷ (bytes 4 24 ++ bytes 2 16) ∷ (made 99 [] ++ (0 ∷ [])) ∷ []) ≡ 3 ∷ 3 ∷ 4 ∷ []
unfolding
    of_bits le lt u32_at u64_at run raised_at query_at lane_fits section_fits fits every any rises_from rises lane_range section_range
    in_range within record_number with_record walk walked index_of repeats twice lacks judged settled decode bytes made number_is numbers
three = refl

-- 4: a lane and a section whose counts cannot be read; a lane, a link and a section one byte too long; a route one too short;
-- ends 2 with a length as without tangents; ends 1 as well; a bad type in a lane of wrong length
lengths :
    numbers
    (made 1 (bytes 6 0) ∷ made 3 (bytes 21 0) ∷ lane 1 0 0 2 (bytes 25 0) ∷ made 2 (bytes 6 0) ∷ made 3 (bytes 23 0) ∷ made 16 (bytes 23 0)
    ∷ lane 1 0 2 2 (bytes 24 0) ∷ lane 1 0 1 2 (bytes 24 0) ∷ lane 28 0 0 2 (bytes 23 0) ∷ [])
    ≡ 4 ∷ 4 ∷ 4 ∷ 4 ∷ 4 ∷ 4 ∷ 4 ∷ 4 ∷ 4 ∷ []
unfolding
    of_bits le lt u32_at u64_at run raised_at query_at lane_fits section_fits fits every any rises_from rises lane_range section_range
    in_range within record_number with_record walk walked index_of repeats twice lacks judged settled decode bytes made lane number_is
    numbers
lengths = refl

-- 5: type 28; direction 3; ends 255 with a fitting length; no points. 0: type 27; direction 2; ends 1 with NaN tangents
lane_fields :
    numbers
    (lane 28 0 0 2 (bytes 24 0) ∷ lane 1 3 0 2 (bytes 24 0) ∷ lane 1 0 255 2 (bytes 48 0) ∷ lane 1 0 0 0 [] ∷ lane 27 0 0 2 (bytes 24 0)
    ∷ lane 1 2 0 2 (bytes 24 0) ∷ lane 1 0 1 2 (bytes 24 0 ++ bytes 24 0x7fc000007fc000007fc000007fc000007fc000007fc00000) ∷ [])
    ≡ 5 ∷ 5 ∷ 5 ∷ 5 ∷ 0 ∷ 0 ∷ 0 ∷ []
unfolding
    of_bits le lt u32_at u64_at run raised_at query_at lane_fits section_fits fits every any rises_from rises lane_range section_range
    in_range within record_number with_record walk walked index_of repeats twice lacks judged settled decode bytes made lane number_is
    numbers
lane_fields = refl

-- a coordinate. 5: NaN; infinity; the next f32 above 4,096 and below -4,096. 0: 4,096 and -4,096
coordinates :
    numbers
    (straight 1 0 0x7fc00000 ∷ straight 1 0 0x7f800000 ∷ straight 1 0 0x45800001 ∷ straight 1 0xc5800001 0 ∷ straight 1 0 0x45800000
    ∷ straight 1 0xc5800000 0 ∷ [])
    ≡ 5 ∷ 5 ∷ 5 ∷ 5 ∷ 0 ∷ 0 ∷ []
unfolding
    of_bits le lt u32_at u64_at run raised_at query_at lane_fits section_fits fits every any rises_from rises lane_range section_range
    in_range within record_number with_record walk walked index_of repeats twice lacks judged settled decode bytes made point straight
    number_is numbers
coordinates = refl

-- stations 0 and 4
bounded : ℕ → ℕ → List ℕ
bounded start end = section_by 0 0 start end (0 ∷ four ∷ [])

-- start and end. 5: start above end; a NaN start; a NaN end; an end above 1,048,576.
-- 0: start 0 with end -0; an end of 1,048,576; stations before the start and after the end
bounds :
    numbers
    (bounded four two ∷ bounded nan two ∷ bounded two nan ∷ bounded 0 larger ∷ bounded 0 minus_zero ∷ bounded 0 largest
    ∷ bounded two two ∷ [])
    ≡ 5 ∷ 5 ∷ 5 ∷ 5 ∷ 0 ∷ 0 ∷ 0 ∷ []
unfolding
    of_bits le lt u32_at u64_at run raised_at query_at lane_fits section_fits fits every any rises_from rises lane_range section_range
    in_range within record_number with_record walk walked index_of repeats twice lacks judged settled decode bytes made wide section_by
    bounded minus_zero two four largest larger nan number_is numbers
bounds = refl

-- stations. 5: -0 then 0; 2 twice; falling; one alone; none; a NaN; one above 1,048,576; one below 0. 0: -0 then 2; the last 1,048,576
stations :
    map (λ (xs : List ℕ). number_is (decode 0 (section_by 0 0 0 four xs)))
    ((minus_zero ∷ 0 ∷ []) ∷ (two ∷ two ∷ []) ∷ (four ∷ two ∷ []) ∷ (0 ∷ []) ∷ [] ∷ (0 ∷ nan ∷ []) ∷ (0 ∷ larger ∷ [])
    ∷ (0xc000000000000000 ∷ 0 ∷ []) ∷ (minus_zero ∷ two ∷ []) ∷ (0 ∷ two ∷ largest ∷ []) ∷ [])
    ≡ 5 ∷ 5 ∷ 5 ∷ 5 ∷ 5 ∷ 5 ∷ 5 ∷ 5 ∷ 0 ∷ 0 ∷ []
unfolding
    of_bits le lt u32_at u64_at run raised_at query_at lane_fits section_fits fits every any rises_from rises lane_range section_range
    in_range within record_number with_record walk walked index_of repeats twice lacks judged settled decode bytes made wide section_by
    minus_zero two four largest larger nan number_is
stations = refl

-- 5: role 3; side 2. 0: side 1, and a query's lane may be missing
other_fields :
    numbers ((eight 1 ++ link 1 3 1) ∷ beside 1 0 2 ∷ beside 1 0 1 ∷ advance 1 nan nan nan ∷ []) ≡ 5 ∷ 5 ∷ 0 ∷ 0 ∷ []
unfolding
    of_bits le lt u32_at u64_at run raised_at query_at lane_fits section_fits fits every any rises_from rises lane_range section_range
    in_range within record_number with_record walk walked index_of repeats twice lacks judged settled decode bytes made point straight
    link advance beside nan eight number_is numbers
other_fields = refl

-- 6, by what the records before have: one more passes up to the limit
links : ℕ → Counts
links n = record { lanes = 256; points = 4096; links = n; sections = 64; stations = 4096; places = 256 }

sections : ℕ → ℕ → Counts
sections n stations = record { lanes = 256; points = 4096; links = 2048; sections = n; stations = stations; places = 256 }

places : ℕ → Counts
places n = record { lanes = 256; points = 4096; links = 2048; sections = 64; stations = 4096; places = n }

full_links : map (record_number (link 1 0 1) 0) (links 2047 ∷ links 2048 ∷ []) ≡ 0 ∷ 6 ∷ []
unfolding u32_at fits in_range within record_number bytes made link links
full_links = refl

full_sections : map (record_number (section 0 0) 0) (sections 63 4094 ∷ sections 64 0 ∷ sections 0 4095 ∷ []) ≡ 0 ∷ 6 ∷ 6 ∷ []
unfolding
    of_bits le lt u32_at u64_at run section_fits fits every rises_from rises section_range in_range within record_number bytes made wide
    section_by section sections
full_sections = refl

full_places : map (record_number (place 1 0 0 0) 0) (places 255 ∷ places 256 ∷ []) ≡ 0 ∷ 6 ∷ []
unfolding u32_at fits in_range within record_number bytes made place places
full_places = refl

-- 0: queries have no limit. 5: a bad type in the lane past the limit
full_others :
    (record_number (beside 1 0 1) 0 (places 256) ≡ 0) × (record_number (lane 28 0 0 2 (bytes 24 0)) 0 (places 256) ≡ 5)
unfolding
    of_bits le u32_at u64_at run lane_fits fits every lane_range in_range within record_number bytes made lane beside places
full_others = (refl, refl)

-- 7: a road with index twice; two places of one lane; one OpenDRIVE number twice in a section; all where lane and section are missing too.
-- 0: one number in two sections; equal links
sevens :
    numbers
    ((section 1 2 ++ section 1 2) ∷ (place 1 0 0 1 ++ place 1 0 1 2) ∷ (place 1 0 0 1 ++ place 2 0 0 1)
    ∷ (eight 1 ++ (eight 2 ++ (section 0 0 ++ (section 0 1 ++ (place 1 0 0 1 ++ place 2 0 1 1))))) ∷ (eight 1 ++ (link 1 0 2 ++ link 1 0 2))
    ∷ [])
    ≡ 7 ∷ 7 ∷ 7 ∷ 0 ∷ 0 ∷ []
unfolding
    of_bits le lt u32_at u64_at run raised_at query_at lane_fits section_fits fits every any rises_from rises lane_range section_range
    in_range within record_number with_record walk walked index_of repeats twice lacks judged settled decode bytes made point straight
    link wide section_by section place eight number_is numbers
sevens = refl

-- 8: the from-lane of a predecessor, of a neighbour; a place's lane; its section, by its index; three stations for two points.
-- 0: a section with three stations that no place names
eights :
    let long = section_by 0 0 0 four (0 ∷ two ∷ four ∷ []) in
    numbers
    ((eight 1 ++ link 2 1 1) ∷ (eight 1 ++ link 2 2 1) ∷ (section 0 0 ++ place 1 0 0 1) ∷ (eight 1 ++ (section 0 0 ++ place 1 0 1 1))
    ∷ (eight 1 ++ (long ++ place 1 0 0 1)) ∷ (eight 1 ++ long) ∷ [])
    ≡ 8 ∷ 8 ∷ 8 ∷ 8 ∷ 8 ∷ 0 ∷ []
unfolding
    of_bits le lt u32_at u64_at run raised_at query_at lane_fits section_fits fits every any rises_from rises lane_range section_range
    in_range within record_number with_record walk walked index_of repeats twice lacks judged settled decode bytes made point straight
    link wide section_by section place two four eight number_is numbers
eights = refl

-- the queries of kinds 17 and 18
queries :
    decode 0 (advance 7 two minus_zero four ++ beside 258 four 1)
    ≡ accepted (record {
      lanes = [];
      links = [];
      sections = [];
      places = [];
      queries =
          Advance (lane_id 7) (of_bits binary64 two) (of_bits binary64 minus_zero) (of_bits binary64 four)
          ∷ Beside (lane_id 258) (of_bits binary64 four) 1
          ∷ [];
    })
unfolding
    of_bits u32_at u64_at query_at fits any in_range within record_number with_record walk walked repeats twice lacks judged settled decode
    bytes made advance beside minus_zero two four
queries = refl

-- links by lane, then by role, each role in file order; a lane that is missing has the row 256
grouped : List ℕ
grouped = link 1 2 2 ++ (link 1 0 2 ++ (link 2 1 1 ++ (link 1 0 9 ++ (eight 1 ++ eight 2))))

grouped_links :
    ((rows_in (decode 0 grouped)).links ≡ 2 ∷ 1 ∷ 9 ∷ 256 ∷ 2 ∷ 1 ∷ 1 ∷ 0 ∷ [])
    × ((rows_in (decode 0 grouped)).fans ≡ 0 ∷ 2 ∷ 0 ∷ 1 ∷ 256 ∷ 3 ∷ 0 ∷ 1 ∷ 0 ∷ 256 ∷ [])
unfolding
    of_bits le lt u32_at u64_at run raised_at query_at lane_fits section_fits fits every any rises_from rises lane_range section_range
    in_range within record_number with_record walk walked index_of repeats twice lacks judged settled decode bytes made point straight
    link eight rows rows_from linked plan_rows rows_in grouped
grouped_links = (refl, refl)

-- lane 2 placed in section 1 of road 0 as -1, after a section that no place names
placed : List ℕ
placed = eight 1 ++ (eight 2 ++ (section 0 0 ++ (section 0 1 ++ place 2 0 1 0xffffffff)))

placed_rows :
    ((rows_in (decode 0 placed)).sections ≡ 0 ∷ 0 ∷ 0 ∷ 2 ∷ 0 ∷ 1 ∷ 2 ∷ 2 ∷ [])
    × ((rows_in (decode 0 placed)).places ≡ 1 ∷ 1 ∷ 2147483647 ∷ [])
    × ((rows_in (decode 0 placed)).fans ≡ 0 ∷ 0 ∷ 0 ∷ 0 ∷ 256 ∷ 0 ∷ 0 ∷ 0 ∷ 0 ∷ 0 ∷ [])
unfolding
    of_bits le lt u32_at u64_at run raised_at query_at lane_fits section_fits fits every any rises_from rises lane_range section_range
    in_range within record_number with_record walk walked index_of repeats twice lacks judged settled decode bytes made point straight
    link wide section_by section place eight rows rows_from linked plan_rows rows_in placed
placed_rows = (refl, refl, refl)

-- the next f64 below 0
below : ℕ
below = 0x8000000000000001

-- start and end. 5: a start just below 0; both just below 0
bounds_below : numbers (bounded below two ∷ bounded below below ∷ []) ≡ 5 ∷ 5 ∷ []
unfolding
    of_bits le lt u32_at u64_at run raised_at query_at lane_fits section_fits fits every any rises_from rises lane_range section_range
    in_range within record_number with_record walk walked index_of repeats twice lacks judged settled decode bytes made wide section_by
    bounded below two four number_is numbers
bounds_below = refl

-- 5: a station just below 0
stations_below : number_is (decode 0 (section_by 0 0 0 four (below ∷ 0 ∷ []))) ≡ 5
unfolding
    of_bits le lt u32_at u64_at run raised_at query_at lane_fits section_fits fits every any rises_from rises lane_range section_range
    in_range within record_number with_record walk walked index_of repeats twice lacks judged settled decode bytes made wide section_by
    below four number_is
stations_below = refl

-- the OpenDRIVE lane numbers 0, 1, 2^31 - 1, -2^31 and -1, each with 2^31 added
raised_numbers :
    map (λ (n : ℕ). raised_at (bytes 4 n) 0) (0 ∷ 1 ∷ 0x7fffffff ∷ 0x80000000 ∷ 0xffffffff ∷ [])
    ≡ 0x80000000 ∷ 0x80000001 ∷ 0xffffffff ∷ 0 ∷ 0x7fffffff ∷ []
unfolding u32_at raised_at bytes
raised_numbers = refl

-- each field in its place: a lane of two points with tangents, after a section and its place
whole_records :
    decode 0
    (section_by 513 2 two four (0 ∷ four ∷ [])
    ++ (place 1 513 2 5 ++ lane 3 1 1 2 (point 1 2 3 ++ (point 4 5 6 ++ (point 7 8 9 ++ point 10 11 12)))))
    ≡ accepted (record {
      lanes =
          record {
            number = 1;
            type = 3;
            direction = 1;
            ends = 1;
            count = 2;
            points = f32_bits 1 ∷ f32_bits 2 ∷ f32_bits 3 ∷ f32_bits 4 ∷ f32_bits 5 ∷ f32_bits 6 ∷ [];
            tangents = f32_bits 7 ∷ f32_bits 8 ∷ f32_bits 9 ∷ f32_bits 10 ∷ f32_bits 11 ∷ f32_bits 12 ∷ [];
          }
          ∷ [];
      links = [];
      sections =
          record {
            road = 513;
            index = 2;
            start = of_bits binary64 two;
            end = of_bits binary64 four;
            count = 2;
            stations = of_bits binary64 0 ∷ of_bits binary64 four ∷ [];
          }
          ∷ [];
      places = record { lane = 1; road = 513; index = 2; raised = 0x80000005 } ∷ [];
      queries = [];
    })
unfolding
    of_bits le lt u32_at u64_at run raised_at query_at lane_fits section_fits fits every any rises_from rises lane_range section_range
    in_range within record_number with_record walk walked index_of repeats twice lacks judged settled decode bytes made point lane wide section_by
    place two four f32_bits
whole_records = refl

-- a refusal has no counts
refusal_counts : (n : ℕ)
    → read_of (refused n) ≡ record { number = n; counts = record { lanes = 0; points = 0; links = 0; sections = 0; stations = 0; places = 0 } }
refusal_counts n = refl
