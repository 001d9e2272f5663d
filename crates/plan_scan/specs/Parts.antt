-- What the loops after the scan need of the four lists of starts: room in the file, counts within the limits, roles.
use Rattle.std.specs.Prelude.{true, List, [], refl, ◌≡◌, ℕ, ◌*◌, ◌+◌, ◌≤◌, leb, get_or, length}
use Rattle.std.proofs.Common.{arith}
use borrow.Author.Tests.{leb-true}
use Rattle.fields.specs.Fields.{u16_at, u32_at, u8_at}
use Rattle.plan_format.specs.Laws.{Each, Room, and_fst, and_snd}
use Rattle.plan_format.specs.Plan.{Starts, coordinate, counts_of, ends_size, every, in_range, lane_range}
use Rattle.plan_format.specs.Records.{lane_at}
use Rattle.plan_scan.specs.Limits.{Limited}
use Rattle.plan_scan.specs.Scan.{Passes, Sound, total}
use Rattle.plan_scan.specs.Sizes.{lane_size, link_size, place_size, section_size}

abbrev pub Pointed : List ℕ → ℕ → Type 0
Pointed s at = at + 13 + 12 * u16_at s (at + 11) ≤ length s

abbrev pub Ended : List ℕ → ℕ → Type 0
Ended s at = at + 13 + 12 * u16_at s (at + 11) + ends_size (u8_at s (at + 10)) ≤ length s

abbrev pub Stationed : List ℕ → ℕ → Type 0
Stationed s at = at + 28 + 8 * u16_at s (at + 26) ≤ length s

abbrev pub Roled : List ℕ → ℕ → Type 0
Roled s at = u8_at s (at + 8) ≤ 2

-- the starts of the lanes, links, sections and places of a file whose records all pass
pub record Parts (s ls ks ss ps : List ℕ) : Type 0 where
  pub lane : Each (Room 16 s) ls
  pub pointed : Each (Pointed s) ls
  pub ended : Each (Ended s) ls
  pub lanes : length ls ≤ 256
  pub points : total s 11 ls ≤ 4096
  pub link : Each (Room 11 s) ks
  pub role : Each (Roled s) ks
  pub links : length ks ≤ 2048
  pub section : Each (Room 28 s) ss
  pub stationed : Each (Stationed s) ss
  pub sections : length ss ≤ 64
  pub stations : total s 26 ss ≤ 4096
  pub place : Each (Room 16 s) ps
  pub places : length ps ≤ 256

module _ (s : List ℕ) (at : ℕ) where
  -- two or more points: the record has more than 16 bytes
  lane_count_law : in_range s at 1 ≡ true → 2 ≤ u16_at s (at + 11)
  unfolding in_range lane_range
  lane_count_law e =
      let l = lane_at s at in
      leb-true 2 l.count
      (and_fst _ (every coordinate l.points)
      (and_snd (leb l.ends 1) _ (and_snd (leb l.direction 2) _ (and_snd (leb l.type 27) _ e))))

  link_role : in_range s at 2 ≡ true → u8_at s (at + 8) ≤ 2
  unfolding in_range
  link_role e = leb-true (u8_at s (at + 8)) 2 e

  lane_room : Passes s 1 at → (at + 16 ≤ length s) × Pointed s at × Ended s at
  lane_room o =
      let r = o.room in
      let l = lane_size s at 1 (u32_at s at) o.fit refl in
      let n = lane_count_law o.range in
      (omega arith, omega arith, omega arith)

  link_room : Passes s 2 at → at + 11 ≤ length s
  link_room o = let r = o.room in let l = link_size s at 2 (u32_at s at) o.fit refl in omega arith

  section_room : Passes s 3 at → (at + 28 ≤ length s) × Stationed s at
  section_room o = let r = o.room in let l = section_size s at 3 (u32_at s at) o.fit refl in (omega arith, omega arith)

  place_room : Passes s 4 at → at + 16 ≤ length s
  place_room o = let r = o.room in let l = place_size s at 4 (u32_at s at) o.fit refl in omega arith

pub parts_of : (s : List ℕ) (a : Starts) → Sound s a → Limited (counts_of a) → Parts s a.lanes a.links a.sections a.places
parts_of s a S L =
    record {
      lane = λ j l. (lane_room s (get_or a.lanes j 0) (S.lanes j l)).0;
      pointed = λ j l. (lane_room s (get_or a.lanes j 0) (S.lanes j l)).1;
      ended = λ j l. (lane_room s (get_or a.lanes j 0) (S.lanes j l)).2;
      lanes = L.lanes;
      points = let e = S.points in let h = L.points in omega arith;
      link = λ j l. link_room s (get_or a.links j 0) (S.links j l);
      role = λ j l. link_role s (get_or a.links j 0) (S.links j l).range;
      links = L.links;
      section = λ j l. (section_room s (get_or a.sections j 0) (S.sections j l)).0;
      stationed = λ j l. (section_room s (get_or a.sections j 0) (S.sections j l)).1;
      sections = L.sections;
      stations = let e = S.stations in let h = L.stations in omega arith;
      place = λ j l. place_room s (get_or a.places j 0) (S.places j l);
      places = L.places;
    }

-- the four lists as starts
abbrev pub listed : List ℕ → List ℕ → List ℕ → List ℕ → Starts
listed ls ks ss ps = record { lanes = ls; links = ks; sections = ss; places = ps; queries = []; points = 0; stations = 0 }
