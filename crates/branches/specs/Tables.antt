-- The plan's tables as `advance` reads them, and what it needs of them; crate `rows` says how their rows are read. Definitions only.
use Rattle.std.specs.Prelude.{List, [], ◌∷◌, ℕ, zero, suc, ◌+◌, ◌-◌, ◌*◌, ◌<◌, ◌≤◌, length, Float}
use Rattle.geometry.specs.Polyline.{Line}
use Rattle.geometry.specs.Partition.{Rising}
use Rattle.road.specs.Along.{Stationed}
use Rattle.rows.specs.Rows.{points_of, arcs_of, end_point, first_link, successors, predecessors, leads_to}
use Rattle.rows.specs.Rows.{place_of, placed_section, end_station, stations_of}

-- of a plan with so many lanes and places
pub record Tables : Type 0 where
  pub lanes : List ℕ
  pub lane_count : ℕ
  pub points : List Float
  pub cumulative : List Float
  pub fans : List ℕ
  pub links : List ℕ
  pub sections : List ℕ
  pub stations : List Float
  pub places : List ℕ
  pub place_count : ℕ

-- the rows of the lanes that the k links before row `end` lead to, in their order; a lane that is missing has 256
unfoldable pub led_to : List ℕ → ℕ → ℕ → List ℕ
led_to links end zero = []
led_to links end (suc k) = leads_to links (end - suc k) ∷ led_to links end k

-- ---- what an accepted plan gives

-- lane i stands in the tables
pub record Laid (lanes : List ℕ) (points cumulative : List Float) (i : ℕ) : Type 0 where
  pub lane_row : 6 * i + 5 < length lanes
  pub arcs_end : end_point lanes i ≤ length cumulative
  pub points_end : 3 * end_point lanes i ≤ length points
  pub line : Line (points_of lanes points i) (arcs_of lanes cumulative i)
  pub rising : Rising (arcs_of lanes cumulative i)

-- each of n lanes does
abbrev pub AllLaid : List ℕ → ℕ → List Float → List Float → Type 0
AllLaid lanes n points cumulative = (i : ℕ) → i < n → Laid lanes points cumulative i

-- a branch's lane i has the place p: what its end is reckoned from stands in the tables
pub record Ending (lanes : List ℕ) (points cumulative : List Float) (sections : List ℕ) (stations : List Float) (places : List ℕ)
    (i p : ℕ) : Type 0 where
  pub place_row_law : 3 * p + 2 < length places
  pub section_row_law : 4 * placed_section places p + 3 < length sections
  pub stations_end : end_station sections (placed_section places p) ≤ length stations
  pub stationed : Stationed (points_of lanes points i) (arcs_of lanes cumulative i) (stations_of sections stations (placed_section places p))

pub record Tabled (t : Tables) : Type 0 where
  pub lane_rows_law : 6 * t.lane_count ≤ length t.lanes
  pub lane_limit : t.lane_count ≤ 256
  pub fan_rows : 5 * t.lane_count ≤ length t.fans
  pub place_limit : t.place_count ≤ 256
  pub laid : AllLaid t.lanes t.lane_count t.points t.cumulative
  pub link_rows_law : (i : ℕ) → i < t.lane_count
      → 2 * (first_link t.fans i + successors t.fans i + predecessors t.fans i) ≤ length t.links
  pub link_limit : length t.links ≤ 4294967296
  pub ending : (i : ℕ) → i < t.lane_count → place_of t.fans i < t.place_count
      → Ending t.lanes t.points t.cumulative t.sections t.stations t.places i (place_of t.fans i)

abbrev pub tables : List ℕ → ℕ → List Float → List Float → List ℕ → List ℕ → List ℕ → List Float → List ℕ → ℕ → Tables
tables lanes n points cumulative fans links sections stations places m =
    record {
      lanes = lanes;
      lane_count = n;
      points = points;
      cumulative = cumulative;
      fans = fans;
      links = links;
      sections = sections;
      stations = stations;
      places = places;
      place_count = m;
    }

-- a lane with a place has its section's start and end
abbrev pub Bounded : List ℕ → List ℕ → ℕ → List Float → ℕ → Type 0
Bounded fans places m bounds n = (i : ℕ) → i < n → place_of fans i < m → 2 * placed_section places (place_of fans i) + 1 < length bounds
