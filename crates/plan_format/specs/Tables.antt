-- What the lent tables hold of a plan: rows one after the other from the first entry on; entries past them are as before.
use Rattle.std.specs.Prelude.{cond, ◌&&◌, List, [], map, ◌++◌, ◌∷◌, ℕ, ◌+◌, eqb, Float, length, replicate}
use Rattle.std.specs.Float.{binary32}
use Rattle.std.specs.Float.Ieee.{of_bits}
pub use Rattle.lists.specs.Over.{over}
unfoldable pub use Rattle.lists.specs.Rows.{rows}
use Rattle.plan_format.specs.Plan.{Plan, index_of, lane_count, lane_of, number_of, place_lane, place_section, section_count, section_of}
use Rattle.plan_format.specs.Records.{Lane, Link, Place, Section}

-- rows one after the other, where a row also has the sum of the counts before it
unfoldable pub rows_from : {X : Type 0} → (ℕ → X → List ℕ) → (X → ℕ) → ℕ → List X → List ℕ
rows_from row count first [] = []
rows_from row count first (x ∷ xs) = row first x ++ rows_from row count (first + count x) xs

-- lanes: number, type, direction, ends, first point, points
abbrev pub lane_row : ℕ → Lane → List ℕ
lane_row first l = l.number ∷ l.type ∷ l.direction ∷ l.ends ∷ first ∷ l.count ∷ []

-- points: x, y, z of each point of the lane
abbrev pub point_row : Lane → List Float
point_row l = l.points

-- ends: start and end tangent, zeros for a lane without
abbrev pub end_row : Lane → List Float
end_row l = cond (eqb l.ends 0) (replicate 6 (of_bits binary32 0)) l.tangents

-- sections: road, index, first station, stations
abbrev pub section_row : ℕ → Section → List ℕ
section_row first x = x.road ∷ x.index ∷ first ∷ x.count ∷ []

-- bounds: start, end
abbrev pub bound_row : Section → List Float
bound_row x = x.start ∷ x.end ∷ []

abbrev pub station_row : Section → List Float
station_row x = x.stations

-- places: the lane's row, the section's row, OpenDRIVE lane number plus 2^31
abbrev pub place_row : Plan → Place → List ℕ
place_row p x = lane_of p x.lane ∷ section_of p (place_section x) ∷ x.raised ∷ []

-- where the links from the lane n in one role lead, in file order
unfoldable pub linked : List Link → ℕ → ℕ → List ℕ
linked [] n role = []
linked (x ∷ xs) n role = cond (eqb x.from n && eqb x.role role) (x.to ∷ linked xs n role) (linked xs n role)

abbrev pub link_count : List Link → ℕ → ℕ
link_count xs n = length (linked xs n 0) + length (linked xs n 1) + length (linked xs n 2)

-- links: the number of the lane led to, its row or 256. `ns`: the numbers of the plan's lanes
abbrev pub link_row : List ℕ → ℕ → List ℕ
link_row ns n = n ∷ index_of n ns 0 256 ∷ []

-- the links of the lane n: successors, predecessors, neighbours
abbrev pub group : List ℕ → List Link → ℕ → List ℕ
group ns xs n = rows (link_row ns) (linked xs n 0) ++ (rows (link_row ns) (linked xs n 1) ++ rows (link_row ns) (linked xs n 2))

-- fans, a row for the lane n: first link, successors, predecessors, neighbours, its place's row or 256. `ps`: the lanes of the places
abbrev pub fan_row : List Link → List ℕ → ℕ → ℕ → List ℕ
fan_row xs ps first n = first ∷ length (linked xs n 0) ∷ length (linked xs n 1) ∷ length (linked xs n 2) ∷ index_of n ps 0 256 ∷ []

-- THE TABLES
pub record Tables : Type 0 where
  pub lanes : List ℕ
  pub points : List Float
  pub ends : List Float
  pub fans : List ℕ
  pub links : List ℕ
  pub sections : List ℕ
  pub bounds : List Float
  pub stations : List Float
  pub places : List ℕ

abbrev pub tables : List ℕ → List Float → List Float → List ℕ → List ℕ → List ℕ → List Float → List Float → List ℕ → Tables
tables lanes points ends fans links sections bounds stations places =
    record {
      lanes = lanes;
      points = points;
      ends = ends;
      fans = fans;
      links = links;
      sections = sections;
      bounds = bounds;
      stations = stations;
      places = places;
    }

-- a plan's rows: what its tables hold of it
unfoldable pub plan_rows : Plan → Tables
plan_rows p =
    let ns = map number_of p.lanes in
    record {
      lanes = rows_from lane_row lane_count 0 p.lanes;
      points = rows point_row p.lanes;
      ends = rows end_row p.lanes;
      fans = rows_from (fan_row p.links (map place_lane p.places)) (link_count p.links) 0 ns;
      links = rows (group ns p.links) ns;
      sections = rows_from section_row section_count 0 p.sections;
      bounds = rows bound_row p.sections;
      stations = rows station_row p.sections;
      places = rows (place_row p) p.places;
    }

-- the tables that held `t`, with the plan's rows first
unfoldable pub loaded : Plan → Tables → Tables
loaded p t =
    record {
      lanes = over (plan_rows p).lanes t.lanes;
      points = over (plan_rows p).points t.points;
      ends = over (plan_rows p).ends t.ends;
      fans = over (plan_rows p).fans t.fans;
      links = over (plan_rows p).links t.links;
      sections = over (plan_rows p).sections t.sections;
      bounds = over (plan_rows p).bounds t.bounds;
      stations = over (plan_rows p).stations t.stations;
      places = over (plan_rows p).places t.places;
    }
