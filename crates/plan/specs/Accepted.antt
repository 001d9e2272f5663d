-- What an accepted plan guarantees, for the crates above: counts, ranges, numbers that stand once, rows that exist.
use Rattle.std.specs.Prelude.{Bool, ◌&&◌, List, [], map, ◌∷◌, ◌≡◌, suc, zero, ℕ, ◌*◌, ◌+◌, ◌-◌, ◌<◌, ◌≤◌, T, eqb, leb, Float, get_or, length}
use Rattle.std.proofs.Math.Bool.{cond, false, true}
use Rattle.std.proofs.Common.{subst, sym, ◌∙◌, le_of_suc-le-suc, not-suc-le-zero}
use Rattle.std.proofs.Math.Path.{refl}
use native.Mathlib.Omega.{arith}
use Rattle.std.proofs.Math.Dec.{ltb}
use Rattle.std.specs.Float.{binary32}
use Rattle.std.specs.Float.Ieee.{fits, le, lt}
use Rattle.std.specs.Float.Ieee.Bits.{of_bits-fits}
use Rattle.std.proofs.lemmas.List.{length-map}
use borrow.Author.Tests.{eqb-false, eqb-true, leb-true, ltb-false, ltb-true, not-false}
use Rattle.fields.specs.Fields.{f32_at, f64_at, u16_at, u32_at, u8_at}
use Rattle.plan_format.specs.Decodes.{decodes}
use Rattle.plan_format.specs.Laws.{Bytes, and_fst, and_snd, any_none, every_each, get_or_map_in, long_below, or_fst, or_snd, word_below}
use Rattle.plan_format.specs.Lookup.{index_in}
use Rattle.plan_format.specs.Plan.{Plan, Starts, accepted, any, coordinate, counts_of, decode, ended, every, from_missing}
use Rattle.plan_format.specs.Plan.{in_range, items_at, lacks, lane_count, lane_of, lane_range, misplaced, none, number_of, place_key}
use Rattle.plan_format.specs.Plan.{place_lane, place_section, plan_of, record_number, repeats, rises, rises_from, section_count}
use Rattle.plan_format.specs.Plan.{section_key, section_of, section_range, station, stopped, twice, walked, with_record}
use Rattle.plan_format.specs.Reading.{plan_counts}
use Rattle.plan_format.specs.Records.{Lane, Link, Place, Section, floats, lane_at, link_at, place_at, raised_at, run, section_at}
use Rattle.plan_format.specs.Tables.{end_row}
use Rattle.plan_rows.specs.Runs.{end_length, run_length}
use Rattle.plan_scan.specs.Limits.{Limited}
use Rattle.plan_scan.specs.Scan.{Sound, Walking, walk_ends, walk_next, walk_start, walk_stops}
use Rattle.plan.specs.Checking.{plan_counts_law}

-- a lane: its fields lie in their ranges, its points are coordinates, each an f32
pub record LaneOk (l : Lane) : Type 0 where
  pub number : l.number < 65536
  pub type : l.type ≤ 27
  pub direction : l.direction ≤ 2
  pub ends : l.ends ≤ 1
  pub two : 2 ≤ l.count
  pub size : length l.points ≡ 3 * l.count
  pub end_size : length (end_row l) ≡ 6
  pub coordinates : (j : ℕ) (d : Float) → j < 3 * l.count → coordinate (get_or l.points j d) ≡ true
  pub held : (j : ℕ) (d : Float) → j < 3 * l.count → T (fits binary32 (get_or l.points j d))

-- a link: its from-lane is there; the lane led to need not be
pub record LinkOk (p : Plan) (x : Link) : Type 0 where
  pub role : x.role ≤ 2
  pub from : lane_of p x.from < length p.lanes
  pub to : (lane_of p x.to ≡ 256 → ⊥) → lane_of p x.to < length p.lanes

-- a section: all in range, start at most end, stations strictly rising
pub record SectionOk (x : Section) : Type 0 where
  pub road : x.road < 65536
  pub index : x.index < 65536
  pub start : station x.start ≡ true
  pub end : station x.end ≡ true
  pub ordered : le x.start x.end ≡ true
  pub two : 2 ≤ x.count
  pub size : length x.stations ≡ x.count
  pub stations : (j : ℕ) (d : Float) → j < x.count → station (get_or x.stations j d) ≡ true
  pub rising : (j : ℕ) (d : Float) → suc j < x.count → lt (get_or x.stations j d) (get_or x.stations (suc j) d) ≡ true

-- a place: its fields lie within their widths; lane and section are there, with as many points as stations
pub record PlaceOk (p : Plan) (x : Place) : Type 0 where
  pub number : x.lane < 65536
  pub road : x.road < 65536
  pub index : x.index < 65536
  pub raised : x.raised < 4294967296
  pub lane : lane_of p x.lane < length p.lanes
  pub section : section_of p (place_section x) < length p.sections
  pub alike : (d : Lane) (e : Section)
      → (get_or p.lanes (lane_of p x.lane) d).count ≡ (get_or p.sections (section_of p (place_section x)) e).count

pub record Accepted (p : Plan) : Type 0 where
  pub limited : Limited (plan_counts p)
  pub lane : (i : ℕ) (d : Lane) → i < length p.lanes → LaneOk (get_or p.lanes i d)
  pub link : (i : ℕ) (d : Link) → i < length p.links → LinkOk p (get_or p.links i d)
  pub section : (i : ℕ) (d : Section) → i < length p.sections → SectionOk (get_or p.sections i d)
  pub place : (i : ℕ) (d : Place) → i < length p.places → PlaceOk p (get_or p.places i d)
  pub numbers_once : repeats (map number_of p.lanes) ≡ false
  pub sections_once : repeats (map section_key p.sections) ≡ false
  pub places_once : repeats (map place_lane p.places) ≡ false
  pub keys_once : repeats (map place_key p.places) ≡ false

-- THE RECORDS of a walk that ended all passed
module _ (s : List ℕ) (a : Starts) (is : walked s ≡ ended a) where
  abbrev All : Type 0
  All = Sound s a × Limited (counts_of a)

  at_end_law : (at : ℕ) (b : Starts) → Walking s at b → length s ≤ at → All
  at_end_law at b W l =
      let same : ended a ≡ ended b = sym is ∙ walk_ends s at b W l in
      subst (λ (x : Starts). Sound s x × Limited (counts_of x)) (ended_same b a same) (W.sound, W.limited)
    where
      ended_same : (b a : Starts) → ended a ≡ ended b → b ≡ a
      ended_same b a e = cc

  step : (n : ℕ) → ((at : ℕ) (b : Starts) → Walking s at b → length s ≤ at + n → All)
      → (at : ℕ) (b : Starts) → Walking s at b → length s ≤ at + suc n
      → (t z : Bool) → ltb at (length s) ≡ t → eqb (record_number s at (counts_of b)) 0 ≡ z → All
  step n go at b W l false z e f = at_end_law at b W (ltb-false at (length s) e)
  step n go at b W l true true e f =
      let next = walk_next s at b W (ltb-true at (length s) e) (eqb-true (record_number s at (counts_of b)) 0 f) in
      go (at + 6 + u32_at s at) (with_record at (u16_at s (at + 4)) (items_at s at (u16_at s (at + 4))) b) next (omega arith)
  step n go at b W l true false e f =
      let stop = walk_stops s at b W (ltb-true at (length s) e) (eqb-false (record_number s at (counts_of b)) 0 f) in
      absurd (never (record_number s at (counts_of b)) a (sym stop ∙ is))
    where
      never : (v : ℕ) (a : Starts) → stopped v ≡ ended a → ⊥
      never v a q = let z : ◌≡◌ {A = ℕ} 0 1 = cc in omega arith

  walk_all : (n at : ℕ) (b : Starts) → Walking s at b → length s ≤ at + n → All
  walk_all zero at b W l = at_end_law at b W (omega arith)
  walk_all (suc n) at b W l = step n (walk_all n) at b W l (ltb at (length s)) (eqb (record_number s at (counts_of b)) 0) refl refl

  all_passed : All
  all_passed = walk_all (length s) 0 none (walk_start s) (omega arith)

-- ONE RECORD
opened_from : (x y : Float) (ys : List Float) → rises_from x (y ∷ ys) ≡ true → (lt x y && rises_from y ys) ≡ true
unfolding rises_from
opened_from x y ys e = e

rises_each : (xs : List Float) → rises xs ≡ true → (j : ℕ) (d : Float) → suc j < length xs → lt (get_or xs j d) (get_or xs (suc j) d) ≡ true
unfolding rises
rises_each [] e j d h = absurd (not-suc-le-zero h)
rises_each (x ∷ xs) e j d h = from x xs e j (le_of_suc-le-suc h)
  where
    from : (x : Float) (xs : List Float) → rises_from x xs ≡ true → (j : ℕ) → j < length xs → lt (get_or (x ∷ xs) j d) (get_or xs j d) ≡ true
    from x [] e j h = absurd (not-suc-le-zero h)
    from x (y ∷ ys) e zero h = and_fst (lt x y) (rises_from y ys) (opened_from x y ys e)
    from x (y ∷ ys) e (suc j) h = from y ys (and_snd (lt x y) (rises_from y ys) (opened_from x y ys e)) j (le_of_suc-le-suc h)

-- what is read from four bytes is an f32
floats_held : (s : List ℕ) (at n j : ℕ) (d : Float) → j < n → T (fits binary32 (get_or (floats s at n) j d))
unfolding run
floats_held s at zero j d h = absurd (not-suc-le-zero h)
floats_held s at (suc n) zero d h = of_bits-fits binary32 (u32_at s at)
floats_held s at (suc n) (suc j) d h = floats_held s (at + 4) n j d (le_of_suc-le-suc h)

-- the fields of a place
abbrev Narrow : Place → Type 0
Narrow x = (x.lane < 65536) × (x.road < 65536) × (x.index < 65536) × (x.raised < 4294967296)

module _ (s : List ℕ) (B : Bytes s) (at : ℕ) where
  lane_ok : in_range s at 1 ≡ true → LaneOk (lane_at s at)
  unfolding in_range lane_range
  lane_ok e =
      let l = lane_at s at in
      let e₁ = and_snd (leb l.type 27) _ e in
      let e₂ = and_snd (leb l.direction 2) _ e₁ in
      let e₃ = and_snd (leb l.ends 1) _ e₂ in
      let size = run_length f32_at 4 s (at + 13) (3 * u16_at s (at + 11)) in
      record {
        number = word_below s (at + 6) B;
        type = leb-true l.type 27 (and_fst _ _ e);
        direction = leb-true l.direction 2 (and_fst _ _ e₁);
        ends = leb-true l.ends 1 (and_fst _ _ e₂);
        two = leb-true 2 l.count (and_fst _ _ e₃);
        size = size;
        end_size = end_length s at;
        coordinates = λ j d h. every_each coordinate l.points d (and_snd (leb 2 l.count) _ e₃) j (omega arith);
        held = λ j d h. floats_held s (at + 13) (3 * u16_at s (at + 11)) j d h;
      }

  role_ok : in_range s at 2 ≡ true → (link_at s at).role ≤ 2
  unfolding in_range
  role_ok e = leb-true (u8_at s (at + 8)) 2 e

  section_ok : in_range s at 3 ≡ true → SectionOk (section_at s at)
  unfolding in_range section_range
  section_ok e =
      let x = section_at s at in
      let e₁ = and_snd (station x.start) _ e in
      let e₂ = and_snd (station x.end) _ e₁ in
      let e₃ = and_snd (le x.start x.end) _ e₂ in
      let e₄ = and_snd (leb 2 x.count) _ e₃ in
      let size = run_length f64_at 8 s (at + 28) (u16_at s (at + 26)) in
      record {
        road = word_below s (at + 6) B;
        index = word_below s (at + 8) B;
        start = and_fst (station x.start) _ e;
        end = and_fst (station x.end) _ e₁;
        ordered = and_fst (le x.start x.end) _ e₂;
        two = leb-true 2 x.count (and_fst _ _ e₃);
        size = size;
        stations = λ j d h. every_each station x.stations d (and_fst (every station x.stations) _ e₄) j (omega arith);
        rising = λ j d h. rises_each x.stations (and_snd (every station x.stations) _ e₄) j d (omega arith);
      }

  raised_below : raised_at s (at + 12) < 4294967296
  unfolding raised_at
  raised_below = by (ltb (u32_at s (at + 12)) 2147483648) refl
    where
      by : (b : Bool) → ltb (u32_at s (at + 12)) 2147483648 ≡ b
          → cond b (u32_at s (at + 12) + 2147483648) (u32_at s (at + 12) - 2147483648) < 4294967296
      by true e = let z = ltb-true (u32_at s (at + 12)) 2147483648 e in omega arith
      by false e = let z = long_below s (at + 12) B in omega arith

  place_narrow : Narrow (place_at s at)
  place_narrow = (word_below s (at + 6) B, word_below s (at + 8) B, word_below s (at + 10) B, raised_below)

-- THE PLAN
module _ (p : Plan) (few : length p.lanes ≤ 256) (some : length p.sections ≤ 64) (full : lacks p ≡ false) where
  from_all : any (from_missing (map number_of p.lanes)) p.links ≡ false
  unfolding lacks
  from_all = or_fst (any (from_missing (map number_of p.lanes)) p.links) _ full

  placed_all : any (misplaced p) p.places ≡ false
  unfolding lacks
  placed_all = or_snd (any (from_missing (map number_of p.lanes)) p.links) _ full

  link_ok : (i : ℕ) (d : Link) → i < length p.links → (get_or p.links i d).role ≤ 2 → LinkOk p (get_or p.links i d)
  link_ok i d h r =
      let x = get_or p.links i d in
      let there = any_none (from_missing (map number_of p.lanes)) p.links d from_all i h in
      record {
        role = r;
        from = index_in x.from number_of p.lanes (lane_of p x.from) 256 refl (eqb-false (lane_of p x.from) 256 there);
        to = λ n. index_in x.to number_of p.lanes (lane_of p x.to) 256 refl n;
      }

  place_ok : (i : ℕ) (d : Place) → i < length p.places → Narrow (get_or p.places i d) → PlaceOk p (get_or p.places i d)
  place_ok i d h w =
      let x = get_or p.places i d in
      let e = any_none (misplaced p) p.places d placed_all i h in
      let l = lane_of p x.lane in
      let j = section_of p (place_section x) in
      let e₁ = or_snd (eqb l 256) _ e in
      let e₂ = or_snd (eqb j 64) _ e₁ in
      let lane = index_in x.lane number_of p.lanes l 256 refl (eqb-false l 256 (or_fst (eqb l 256) _ e)) in
      let section = index_in (place_section x) section_key p.sections j 64 refl (eqb-false j 64 (or_fst (eqb j 64) _ e₁)) in
      let same = eqb-true (get_or (map lane_count p.lanes) l 0) (get_or (map section_count p.sections) j 0) (not-false _ e₂) in
      record {
        number = w.0;
        road = w.1;
        index = w.2;
        raised = w.3;
        lane = lane;
        section = section;
        alike = λ d e. sym (get_or_map_in lane_count p.lanes l d 0 lane) ∙ same ∙ get_or_map_in section_count p.sections j e 0 section;
      }

-- the plan of a file whose walk ended
accepted_by : (s : List ℕ) → Bytes s → (a : Starts) → walked s ≡ ended a → twice (plan_of s a) ≡ false → lacks (plan_of s a) ≡ false
    → Accepted (plan_of s a)
unfolding twice
accepted_by s B a is once full =
    let p = plan_of s a in
    let S = (all_passed s a is).0 in
    let L = (all_passed s a is).1 in
    let o₁ = or_snd (repeats (map number_of p.lanes)) _ once in
    let o₂ = or_snd (repeats (map section_key p.sections)) _ o₁ in
    let few : length p.lanes ≤ 256 = omega (arith, length-map a.lanes (lane_at s), L.lanes) in
    let some : length p.sections ≤ 64 = omega (arith, length-map a.sections (section_at s), L.sections) in
    record {
      limited = subst Limited (plan_counts_law s a S.points S.stations) L;
      lane = λ i d h.
          let k : i < length a.lanes = omega (arith, length-map a.lanes (lane_at s)) in
          rw (get_or_map_in (lane_at s) a.lanes i 0 d k) (lane_ok s B (get_or a.lanes i 0) (S.lanes i k).range);
      link = λ i d h.
          let k : i < length a.links = omega (arith, length-map a.links (link_at s)) in
          link_ok p few some full i d h
          (rw (get_or_map_in (link_at s) a.links i 0 d k) (role_ok s B (get_or a.links i 0) (S.links i k).range));
      section = λ i d h.
          let k : i < length a.sections = omega (arith, length-map a.sections (section_at s)) in
          rw (get_or_map_in (section_at s) a.sections i 0 d k) (section_ok s B (get_or a.sections i 0) (S.sections i k).range);
      place = λ i d h.
          let k : i < length a.places = omega (arith, length-map a.places (place_at s)) in
          place_ok p few some full i d h (rw (get_or_map_in (place_at s) a.places i 0 d k) (place_narrow s B (get_or a.places i 0)));
      numbers_once = or_fst (repeats (map number_of p.lanes)) _ once;
      sections_once = or_fst (repeats (map section_key p.sections)) _ o₁;
      places_once = or_fst (repeats (map place_lane p.places)) _ o₂;
      keys_once = or_snd (repeats (map place_lane p.places)) _ o₂;
    }

-- THE LAW
pub accepted_plan : (side : ℕ) (s : List ℕ) (p : Plan) → Bytes s → decode side s ≡ accepted p → Accepted p
accepted_plan side s p B e =
    let D = decodes side s p e in
    subst Accepted D.plan (accepted_by s B D.starts D.is D.once D.full)
