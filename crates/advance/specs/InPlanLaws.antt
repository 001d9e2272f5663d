-- The rows of an accepted plan are what `advance` needs.
use Rattle.std.specs.Prelude.{◌≡◌, List, map, ℕ, suc, ◌+◌, ◌-◌, ◌*◌, ◌<◌, ◌≤◌, length, get_or, take, Float}
use Rattle.std.proofs.Common.{sym, ap, ◌∙◌, arith}
use Rattle.std.proofs.lemmas.List.{length-map}
use Rattle.std.specs.Float.{nan}
use Rattle.float_laws.specs.Compare.{less_le}
use Rattle.geometry.specs.Partition.{Rising}
use Rattle.geometry.specs.Polyline.{cumulative_of}
use Rattle.road.specs.Along.{Stationed}
use Rattle.rows.specs.Rows.{first_link, successors, predecessors, place_of, placed_section, first_station, end_station, stations_of}
use Rattle.plan.specs.Accepted.{Accepted}
use Rattle.plan.specs.Links.{links_all}
use Rattle.plan.specs.Rows.{section_entry, stations_part, stations_end, lanes_size, fans_size, places_size, sections_size}
use Rattle.plan.specs.Rows.{links_end}
use Rattle.plan_format.specs.Laws.{get_or_map_in}
use Rattle.plan_format.specs.Lookup.{index_own}
use Rattle.plan_format.specs.Plan.{Plan, lane_of, number_of, place_lane, place_section, section_count, section_of}
use Rattle.plan_format.specs.Reading.{sum}
use Rattle.plan_format.specs.Records.{Lane, Section}
use Rattle.plan_format.specs.Tables.{plan_rows}
use Rattle.tables.specs.LaneTables.{cumulative_row, lane_rows, no_lane}
use Rattle.tables.specs.Lines.{arcs_are, arcs_within_law, cumulative_length, line, points_are, points_within, rising}
use Rattle.beside.specs.InPlan.{no_place, no_section, place_at, placed}
use Rattle.beside.specs.InPlanLaws.{found, place_of_law, placed_section_law, seated}
use Rattle.branches.specs.Tables.{Laid, Ending, Tabled, Bounded}
use Rattle.advance.specs.InPlan.{plan_tables}
use Rattle.advance.specs.Linked.{first_link_law, predecessor_count, successor_count}

module _ (p : Plan) (A : Accepted p) where
  abbrev lanes : List ℕ
  lanes = (plan_rows p).lanes

  abbrev n : ℕ
  n = length p.lanes

  abbrev numbers : List ℕ
  numbers = map number_of p.lanes

  abbrev points : List Float
  points = (plan_rows p).points

  abbrev cumulative : List Float
  cumulative = (lane_rows p).cumulative

  abbrev fans : List ℕ
  fans = (plan_rows p).fans

  abbrev sections : List ℕ
  sections = (plan_rows p).sections

  abbrev stations : List Float
  stations = (plan_rows p).stations

  abbrev places : List ℕ
  places = (plan_rows p).places

  abbrev m : ℕ
  m = length p.places

  -- ---- a lane
  pub laid : (i : ℕ) → i < n → Laid lanes points cumulative i
  laid i h =
      let size = lanes_size p A in
      record {
        lane_row = omega arith;
        arcs_end = arcs_within_law p A i no_lane h;
        points_end = points_within p A i no_lane h;
        line = rw (points_are p A i no_lane h, arcs_are p A i no_lane h) (line p A i no_lane h);
        rising = rw (arcs_are p A i no_lane h) (rising p A i no_lane h);
      }

  -- ---- a section's stations
  module _ (j : ℕ) (h : j < length p.sections) where
    abbrev x : Section
    x = get_or p.sections j no_section

    -- how many stations the sections before it have
    abbrev before : ℕ
    before = sum (map section_count (take j p.sections))

    first_station_law : first_station sections j ≡ before
    first_station_law = section_entry p A j 2 no_section h (omega arith)

    station_count : get_or sections (4 * j + 3) 0 ≡ x.count
    station_count = section_entry p A j 3 no_section h (omega arith)

    stations_within : end_station sections j ≤ length stations
    stations_within =
        let a = first_station_law in
        let b = station_count in
        let c = stations_end p A j no_section h in
        omega arith

    stations_are : stations_of sections stations j ≡ x.stations
    stations_are =
        let size : before + x.count - before ≡ 1 * x.count = omega arith in
        let one : before ≡ 1 * before = omega arith in
        rw (first_station_law, station_count, size, one) (stations_part p A j no_section h)

    stations_rise : Rising x.stations
    stations_rise =
        record {
          step = λ i l. let size = (A.section j no_section h).size in
              less_le (get_or x.stations i nan) (get_or x.stations (suc i) nan) ((A.section j no_section h).rising i nan (omega arith));
        }

  -- ---- a lane with a place
  module _ (i : ℕ) (h : i < n) (there : place_of fans i < m) where
    abbrev k : ℕ
    k = place_of fans i

    abbrev j : ℕ
    j = section_of p (place_section (place_at p k))

    abbrev l : Lane
    l = get_or p.lanes i no_lane

    in_numbers : i < length numbers
    in_numbers = omega (arith, length-map p.lanes number_of)

    lane_of_place : lane_of p (place_at p k).lane ≡ i
    lane_of_place =
        let number = get_or numbers i 0 in
        let is : k ≡ placed p number = place_of_law p A i h in
        let limit = A.limited.places in
        let sought : get_or (map place_lane p.places) k 0 ≡ number = rw is (found number (map place_lane p.places) 256 (omega arith)) in
        let own = index_own numbers 0 i 256 A.numbers_once in_numbers in
        let z : 0 + i ≡ i = omega arith in
        ap (lane_of p) (sym (get_or_map_in place_lane p.places k no_place 0 there) ∙ sought) ∙ own ∙ z

    in_sections : j < length p.sections
    in_sections = (A.place k no_place there).section

    alike : (get_or p.sections j no_section).count ≡ l.count
    alike = sym ((A.place k no_place there).alike no_lane no_section) ∙ ap (λ (r : ℕ). (get_or p.lanes r no_lane).count) lane_of_place

    stationed : Stationed l.points (cumulative_row l) (get_or p.sections j no_section).stations
    stationed =
        record {
          line = line p A i no_lane h;
          arcs = ap (cumulative_of l.points) (sym (cumulative_length l));
          each = (A.section j no_section in_sections).size ∙ alike ∙ sym (cumulative_length l);
          arcs_rise = rising p A i no_lane h;
          stations_rise = stations_rise j in_sections;
        }

    section_is : placed_section places k ≡ j
    section_is = placed_section_law p A k there

    pub ending : Ending lanes points cumulative sections stations places i k
    ending =
        let size = places_size p A in
        let many = sections_size p A in
        record {
          place_row_law = omega arith;
          section_row_law = rw section_is (let z = in_sections in omega arith);
          stations_end = rw section_is (stations_within j in_sections);
          stationed = rw (section_is, points_are p A i no_lane h, arcs_are p A i no_lane h, stations_are j in_sections) stationed;
        }

  -- ---- a lane's links
  links_within : (i : ℕ) → i < n → 2 * (first_link fans i + successors fans i + predecessors fans i) ≤ length (plan_rows p).links
  links_within i h =
      let b : i < length numbers = omega (arith, length-map p.lanes number_of) in
      let first = first_link_law p i h in
      let ahead = successor_count p i h in
      let back = predecessor_count p i h in
      let end = links_end p A i b in
      omega arith

  -- ---- what `advance` needs
  pub tabled : Tabled (plan_tables p)
  tabled =
      let a = lanes_size p A in
      let b = fans_size p A in
      let c = links_all p A in
      let d = A.limited.links in
      record {
        lane_rows_law = omega arith;
        lane_limit = A.limited.lanes;
        fan_rows = omega arith;
        place_limit = A.limited.places;
        laid = laid;
        link_rows_law = links_within;
        link_limit = omega arith;
        ending = ending;
      }

  pub bounded : Bounded fans places m (plan_rows p).bounds n
  bounded i h there = (seated p A).place_section_law (place_of fans i) there
