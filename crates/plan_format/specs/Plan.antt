-- The plan of a file's bytes, or the number, 2 to 8, of a file that has none: document 01, "Numbers, in checking order".
use Rattle.std.specs.Prelude.{Bool, cond, false, not, true, ◌&&◌, ◌||◌, List, [], map, ◌++◌, ◌∷◌, suc, zero, ℕ, ◌*◌, ◌+◌, eqb, leb, ltb, Float, get_or, length}
use Rattle.std.specs.Float.{binary32, binary64}
use Rattle.std.specs.Float.Ieee.{le, lt, of_bits}
use Rattle.fields.specs.Fields.{u16_at, u32_at, u8_at}
use Rattle.plan_format.specs.Records.{Lane, Link, Place, Section, lane_at, link_at, place_at, query_at, section_at}
use Rattle.plan_format.specs.declared.Counts.{Counts}
use Rattle.plan_format.specs.declared.Query.{Query}

-- NUMBER 4. Whether a payload's length fits its kind and counts; no length fits an unknown kind.
-- where `ends` is not 0 the two tangents stand after the points
abbrev pub ends_size : ℕ → ℕ
ends_size ends = cond (eqb ends 0) 0 24

unfoldable pub lane_fits : List ℕ → ℕ → ℕ → Bool
lane_fits s at size = leb 7 size && eqb size (7 + 12 * u16_at s (at + 11) + ends_size (u8_at s (at + 10)))

unfoldable pub section_fits : List ℕ → ℕ → ℕ → Bool
section_fits s at size = leb 22 size && eqb size (22 + 8 * u16_at s (at + 26))

unfoldable pub fits : List ℕ → ℕ → ℕ → ℕ → Bool
fits s at kind size =
    cond (eqb kind 1) (lane_fits s at size)
    (cond (eqb kind 2) (eqb size 5)
    (cond (eqb kind 3) (section_fits s at size)
    (cond (eqb kind 4) (eqb size 10)
    (cond (eqb kind 16) (eqb size 24)
    (cond (eqb kind 17) (eqb size 26)
    (cond (eqb kind 18) (eqb size 11) false))))))

-- NUMBER 5. Coordinates lie from -4,096 to 4,096, stations from 0 to 1,048,576: no NaN does.
abbrev pub coordinate : Float → Bool
coordinate x = le (of_bits binary32 0xc5800000) x && le x (of_bits binary32 0x45800000)

abbrev pub station : Float → Bool
station x = le (of_bits binary64 0) x && le x (of_bits binary64 0x4130000000000000)

unfoldable pub every : {A : Type 0} → (A → Bool) → List A → Bool
every test [] = true
every test (x ∷ xs) = test x && every test xs

-- strictly, from x on
unfoldable pub rises_from : Float → List Float → Bool
rises_from x [] = true
rises_from x (y ∷ ys) = lt x y && rises_from y ys

unfoldable pub rises : List Float → Bool
rises [] = true
rises (x ∷ xs) = rises_from x xs

unfoldable pub lane_range : Lane → Bool
lane_range l = leb l.type 27 && (leb l.direction 2 && (leb l.ends 1 && (leb 2 l.count && every coordinate l.points)))

unfoldable pub section_range : Section → Bool
section_range x =
    station x.start &&
    (station x.end && (le x.start x.end && (leb 2 x.count && (every station x.stations && rises x.stations))))

unfoldable pub in_range : List ℕ → ℕ → ℕ → Bool
in_range s at kind =
    cond (eqb kind 1) (lane_range (lane_at s at))
    (cond (eqb kind 2) (leb (link_at s at).role 2)
    (cond (eqb kind 3) (section_range (section_at s at))
    (cond (eqb kind 18) (leb (u8_at s (at + 16)) 1) true)))

-- NUMBER 6. Whether one more record of this kind, with n points or stations, keeps within the limits.
abbrev pub items_at : List ℕ → ℕ → ℕ → ℕ
items_at s at kind = cond (eqb kind 1) (u16_at s (at + 11)) (cond (eqb kind 3) (u16_at s (at + 26)) 0)

unfoldable pub within : ℕ → ℕ → Counts → Bool
within kind n c =
    cond (eqb kind 1) (leb (c.lanes + 1) 256 && leb (c.points + n) 4096)
    (cond (eqb kind 2) (leb (c.links + 1) 2048)
    (cond (eqb kind 3) (leb (c.sections + 1) 64 && leb (c.stations + n) 4096)
    (cond (eqb kind 4) (leb (c.places + 1) 256) true)))

-- the number that the record at `at` gets after records with these counts: 0, or 3 to 6
unfoldable pub record_number : List ℕ → ℕ → Counts → ℕ
record_number s at c =
    cond (ltb (length s) (at + 6)) 3
    (cond (ltb (length s) (at + 6 + u32_at s at)) 3
    (cond (fits s at (u16_at s (at + 4)) (u32_at s at))
    (cond (in_range s at (u16_at s (at + 4)))
    (cond (within (u16_at s (at + 4)) (items_at s at (u16_at s (at + 4))) c) 0 6) 5) 4))

-- THE WALK over the file, record by record: where the records of each kind start, in file order, with the points and the stations in all.
pub record Starts : Type 0 where
  pub lanes : List ℕ
  pub links : List ℕ
  pub sections : List ℕ
  pub places : List ℕ
  pub queries : List ℕ
  pub points : ℕ
  pub stations : ℕ

abbrev pub none : Starts
none = record { lanes = []; links = []; sections = []; places = []; queries = []; points = 0; stations = 0 }

abbrev pub counts_of : Starts → Counts
counts_of a =
    record {
      lanes = length a.lanes;
      points = a.points;
      links = length a.links;
      sections = length a.sections;
      stations = a.stations;
      places = length a.places;
    }

abbrev pub with_lane : ℕ → ℕ → Starts → Starts
with_lane at n a =
    record {
      lanes = a.lanes ++ (at ∷ []);
      links = a.links;
      sections = a.sections;
      places = a.places;
      queries = a.queries;
      points = a.points + n;
      stations = a.stations;
    }

abbrev pub with_link : ℕ → Starts → Starts
with_link at a =
    record {
      lanes = a.lanes;
      links = a.links ++ (at ∷ []);
      sections = a.sections;
      places = a.places;
      queries = a.queries;
      points = a.points;
      stations = a.stations;
    }

abbrev pub with_section : ℕ → ℕ → Starts → Starts
with_section at n a =
    record {
      lanes = a.lanes;
      links = a.links;
      sections = a.sections ++ (at ∷ []);
      places = a.places;
      queries = a.queries;
      points = a.points;
      stations = a.stations + n;
    }

abbrev pub with_place : ℕ → Starts → Starts
with_place at a =
    record {
      lanes = a.lanes;
      links = a.links;
      sections = a.sections;
      places = a.places ++ (at ∷ []);
      queries = a.queries;
      points = a.points;
      stations = a.stations;
    }

abbrev pub with_query : ℕ → Starts → Starts
with_query at a =
    record {
      lanes = a.lanes;
      links = a.links;
      sections = a.sections;
      places = a.places;
      queries = a.queries ++ (at ∷ []);
      points = a.points;
      stations = a.stations;
    }

unfoldable pub with_record : ℕ → ℕ → ℕ → Starts → Starts
with_record at kind n a =
    cond (eqb kind 1) (with_lane at n a)
    (cond (eqb kind 2) (with_link at a)
    (cond (eqb kind 3) (with_section at n a)
    (cond (eqb kind 4) (with_place at a) (with_query at a))))

pub data Walked : Type 0 where
  stopped : ℕ → Walked
  ended : Starts → Walked

-- from `at` on, after the records of `a`; the first number is how many records may follow, the Bool whether `at` is before the end.
-- A record has at least six bytes: the file's length is count enough (Decodes.antt, `walked_any`).
unfoldable pub walk : ℕ → Bool → List ℕ → ℕ → Starts → Walked
walk zero more s at a = ended a
walk (suc k) false s at a = ended a
walk (suc k) true s at a =
    let next = at + 6 + u32_at s at in
    let kind = u16_at s (at + 4) in
    let rest = walk k (ltb next (length s)) s next (with_record at kind (items_at s at kind) a) in
    cond (eqb (record_number s at (counts_of a)) 0) rest (stopped (record_number s at (counts_of a)))

unfoldable pub walked : List ℕ → Walked
walked s = walk (length s) (ltb 0 (length s)) s 0 none

-- THE PLAN: all in file order
pub record Plan : Type 0 where
  pub lanes : List Lane
  pub links : List Link
  pub sections : List Section
  pub places : List Place
  pub queries : List Query

abbrev pub plan_of : List ℕ → Starts → Plan
plan_of s a =
    record {
      lanes = map (lane_at s) a.lanes;
      links = map (link_at s) a.links;
      sections = map (section_at s) a.sections;
      places = map (place_at s) a.places;
      queries = map (query_at s) a.queries;
    }

-- NUMBER 7. A road with index, and an OpenDRIVE lane number within a section, are one number each (Keys.antt: it tells them apart).
abbrev pub number_of : Lane → ℕ
number_of l = l.number

abbrev pub section_key : Section → ℕ
section_key x = x.road * 65536 + x.index

abbrev pub place_lane : Place → ℕ
place_lane x = x.lane

abbrev pub place_section : Place → ℕ
place_section x = x.road * 65536 + x.index

abbrev pub place_key : Place → ℕ
place_key x = (x.road * 65536 + x.index) * 4294967296 + x.raised

unfoldable pub any : {A : Type 0} → (A → Bool) → List A → Bool
any test [] = false
any test (x ∷ xs) = test x || any test xs

abbrev pub holds : ℕ → List ℕ → Bool
holds n xs = any (λ (x : ℕ). eqb x n) xs

unfoldable pub repeats : List ℕ → Bool
repeats [] = false
repeats (x ∷ xs) = holds x xs || repeats xs

unfoldable pub twice : Plan → Bool
twice p =
    repeats (map number_of p.lanes)
    || (repeats (map section_key p.sections) || (repeats (map place_lane p.places) || repeats (map place_key p.places)))

-- NUMBER 8
-- where n first stands in a list whose first place is i; d where it does not
unfoldable pub index_of : ℕ → List ℕ → ℕ → ℕ → ℕ
index_of n [] i d = d
index_of n (x ∷ xs) i d = cond (eqb x n) i (index_of n xs (i + 1) d)

-- the row of the lane with the number n, 256 where there is none; of the section with this key, 64 where there is none
abbrev pub lane_of : Plan → ℕ → ℕ
lane_of p n = index_of n (map number_of p.lanes) 0 256

abbrev pub section_of : Plan → ℕ → ℕ
section_of p k = index_of k (map section_key p.sections) 0 64

-- a link whose `from` is none of these numbers
abbrev pub from_missing : List ℕ → Link → Bool
from_missing ns x = eqb (index_of x.from ns 0 256) 256

abbrev pub lane_count : Lane → ℕ
lane_count l = l.count

abbrev pub section_count : Section → ℕ
section_count x = x.count

-- lane and section of a place by their rows, among lanes and sections with these counts: one is missing, or they differ in count
abbrev pub unlike : List ℕ → List ℕ → ℕ → ℕ → Bool
unlike ls ss i j = eqb i 256 || (eqb j 64 || not (eqb (get_or ls i 0) (get_or ss j 0)))

abbrev pub misplaced : Plan → Place → Bool
misplaced p x = unlike (map lane_count p.lanes) (map section_count p.sections) (lane_of p x.lane) (section_of p (place_section x))

unfoldable pub lacks : Plan → Bool
lacks p = any (from_missing (map number_of p.lanes)) p.links || any (misplaced p) p.places

-- THE FILE
pub data Decoded : Type 0 where
  refused : ℕ → Decoded
  accepted : Plan → Decoded

-- after the records: a caller's side above 1, then 7, then 8
unfoldable pub judged : ℕ → Plan → Decoded
judged side p = cond (ltb 1 side) (refused 5) (cond (twice p) (refused 7) (cond (lacks p) (refused 8) (accepted p)))

unfoldable pub settled : ℕ → List ℕ → Walked → Decoded
settled side s (stopped n) = refused n
settled side s (ended a) = judged side (plan_of s a)

-- `side` is the caller's, 0 where the caller gives none
unfoldable pub decode : ℕ → List ℕ → Decoded
decode side s = cond (ltb 65536 (length s)) (refused 2) (settled side s (walked s))
