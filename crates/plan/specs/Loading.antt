-- The tables that the code loads, and the answer with them, are those of the definition.
use Rattle.std.specs.List.{list_any}
use Rattle.std.specs.Prelude.{Bool, false, true, ◌||◌, List, [], ◌∷◌, map, ◌≡◌, ℕ, ◌≤◌, ltb, Float, length}
use Rattle.std.proofs.Common.{ap, ◌∙◌, ltb-false}
use Rattle.std.proofs.Math.Path.{refl, sym}
use Rattle.plan_format.specs.Laws.{or_fst, or_snd}
use Rattle.plan_format.specs.Plan.{Decoded, Plan, accepted, decode, lane_count, plan_of, refused, section_count}
use Rattle.plan_format.specs.Reading.{Answers, opened, read_of, short, tables_of}
use Rattle.plan_format.specs.Records.{Link, lane_at, link_at, place_at, section_at}
use Rattle.plan_format.specs.Tables.{Tables, bound_row, end_row, fan_row, group, lane_row, link_count, loaded, over, place_row, plan_rows, point_row}
use Rattle.plan_format.specs.Tables.{rows, rows_from, section_row, station_row, tables}
use Rattle.plan_format.specs.declared.Read.{Read}
use Rattle.plan_links.specs.Linked.{Linkable}
use Rattle.plan_scan.specs.Parts.{listed}
use Rattle.plan_scan.specs.declared.starts.RecordStarts.{RecordStarts}
use Rattle.plan_whole.specs.Keys.{key_at, lane_keys, place_lanes}
use Rattle.plan_whole.specs.Missing.{Searching}
use Rattle.plan.specs.Checking.{Checked, Loadable, parts_in}

-- NUMBER 1, by the lengths of the tables
unfoldable pub short_by : ℕ → ℕ → ℕ → ℕ → ℕ → ℕ → ℕ → ℕ → ℕ → Bool
short_by a b c d e f g h i =
    ltb a 1536 || (ltb b 12288 || (ltb c 1536 || (ltb d 1280 || (ltb e 4096 || (ltb f 256 || (ltb g 128 || (ltb h 4096 || ltb i 768)))))))

abbrev pub short_in : Tables → Bool
short_in t =
    short_by (length t.lanes) (length t.points) (length t.ends) (length t.fans) (length t.links) (length t.sections)
    (length t.bounds) (length t.stations) (length t.places)

pub short_is : (t : Tables) → short t ≡ short_in t
unfolding short short_by
short_is t = refl

-- the lengths with their limits
abbrev pub lengths : Tables → List (ℕ × ℕ)
lengths t =
    (length t.lanes, 1536)
    ∷ (length t.points, 12288)
    ∷ (length t.ends, 1536)
    ∷ (length t.fans, 1280)
    ∷ (length t.links, 4096)
    ∷ (length t.sections, 256)
    ∷ (length t.bounds, 128)
    ∷ (length t.stations, 4096)
    ∷ (length t.places, 768)
    ∷ []

or_none : (b : Bool) → (b || false) ≡ b
or_none true = refl
or_none false = refl

pub short_listed : (t : Tables) → short_in t ≡ list_any (λ (x : ℕ × ℕ). ltb x.0 x.1) (lengths t)
unfolding short_by
short_listed t = rw (or_none (ltb (length t.places) 768)) refl

-- tables that are long enough
pub record Long (t : Tables) : Type 0 where
  pub lanes : 1536 ≤ length t.lanes
  pub points : 12288 ≤ length t.points
  pub ends : 1536 ≤ length t.ends
  pub fans : 1280 ≤ length t.fans
  pub links : 4096 ≤ length t.links
  pub sections : 256 ≤ length t.sections
  pub bounds : 128 ≤ length t.bounds
  pub stations : 4096 ≤ length t.stations
  pub places : 768 ≤ length t.places

pub long_enough : (t : Tables) → short_in t ≡ false → Long t
unfolding short_by
long_enough t e₁ =
    let e₂ = or_snd (ltb (length t.lanes) 1536) _ e₁ in
    let e₃ = or_snd (ltb (length t.points) 12288) _ e₂ in
    let e₄ = or_snd (ltb (length t.ends) 1536) _ e₃ in
    let e₅ = or_snd (ltb (length t.fans) 1280) _ e₄ in
    let e₆ = or_snd (ltb (length t.links) 4096) _ e₅ in
    let e₇ = or_snd (ltb (length t.sections) 256) _ e₆ in
    let e₈ = or_snd (ltb (length t.bounds) 128) _ e₇ in
    let e₉ = or_snd (ltb (length t.stations) 4096) _ e₈ in
    record {
      lanes = ltb-false (length t.lanes) 1536 (or_fst _ _ e₁);
      points = ltb-false (length t.points) 12288 (or_fst _ _ e₂);
      ends = ltb-false (length t.ends) 1536 (or_fst _ _ e₃);
      fans = ltb-false (length t.fans) 1280 (or_fst _ _ e₄);
      links = ltb-false (length t.links) 4096 (or_fst _ _ e₅);
      sections = ltb-false (length t.sections) 256 (or_fst _ _ e₆);
      bounds = ltb-false (length t.bounds) 128 (or_fst _ _ e₇);
      stations = ltb-false (length t.stations) 4096 (or_fst _ _ e₈);
      places = ltb-false (length t.places) 768 e₉;
    }

-- tables t' that hold the plan of an accepted file, after tables t
abbrev pub Loads : List ℕ → Tables → Tables → Type 0
Loads s t t' = (p : Plan) → decode 0 s ≡ accepted p → t' ≡ loaded p t

-- THE TABLES, each as its function writes it
module _ (s : List ℕ) (h : RecordStarts) (m : List ℕ) (K : Loadable s h m) where
  abbrev lane_starts : List ℕ
  lane_starts = h.lanes.items

  abbrev links_in_law : List Link
  links_in_law = map (link_at s) h.links.items

  abbrev section_starts : List ℕ
  section_starts = h.sections.items

  abbrev place_starts : List ℕ
  place_starts = h.places.items

  abbrev numbers : List ℕ
  numbers = map (key_at s 0) h.lanes.items

  pub linkable : Linkable s h.lanes.items h.links.items h.places.items m
  linkable =
      let P = parts_in s h K.standing in
      record {
        lane = record { room = P.lane; count = P.lanes };
        link = P.link;
        links = P.links;
        role = P.role;
        place = record { room = P.place; count = P.places };
        once = rw (K.standing.kept.lanes) K.once;
        from = rw (K.standing.kept.lanes, K.standing.kept.links) K.from;
        index = rw (K.standing.kept.lanes) K.index;
      }

  pub searching : Searching s h.lanes.items h.sections.items m
  searching =
      let P = parts_in s h K.standing in
      record {
        lane = P.lane;
        lanes = P.lanes;
        section = P.section;
        sections = P.sections;
        rows = rw (K.standing.kept.lanes) K.index;
      }

  pub loaded_by : (t : Tables) (lanes : List ℕ) (points ends : List Float) (fans links sections : List ℕ)
      (bounds stations : List Float) (places : List ℕ)
      → lanes ≡ over (rows_from lane_row lane_count 0 (map (lane_at s) lane_starts)) t.lanes
      → points ≡ over (rows point_row (map (lane_at s) lane_starts)) t.points
      → ends ≡ over (rows end_row (map (lane_at s) lane_starts)) t.ends
      → (links ≡ over (rows (group numbers links_in_law) numbers) t.links)
      × (fans ≡ over (rows_from (fan_row links_in_law (map (key_at s 0) place_starts)) (link_count links_in_law) 0 numbers) t.fans)
      → sections ≡ over (rows_from section_row section_count 0 (map (section_at s) section_starts)) t.sections
      → bounds ≡ over (rows bound_row (map (section_at s) section_starts)) t.bounds
      → stations ≡ over (rows station_row (map (section_at s) section_starts)) t.stations
      → places ≡ over (rows (place_row (plan_of s (listed lane_starts [] section_starts []))) (map (place_at s) place_starts)) t.places
      → Loads s t (tables lanes points ends fans links sections bounds stations places)
  unfolding loaded plan_rows
  loaded_by t lanes points ends fans links sections bounds stations places e₁ e₂ e₃ e₄ e₅ e₆ e₇ e₈ p d =
      let a = K.standing.starts in
      let same : p ≡ plan_of s a = (let z = sym d ∙ K.plan in cc) in
      rw (
        same,
        e₁,
        e₂,
        e₃,
        e₄.0,
        e₄.1,
        e₅,
        e₆,
        e₇,
        e₈,
        K.standing.kept.lanes,
        K.standing.kept.links,
        K.standing.kept.sections,
        K.standing.kept.places,
        lane_keys s a.lanes,
        place_lanes s a.places,
      )

-- THE ANSWER
module _ (side : ℕ) (s : List ℕ) (t : Tables) where
  pub answers_short : short_in t ≡ true → (r : Read) → r ≡ read_of (refused 1) → Answers (opened (short t) side s) r t t
  unfolding opened
  answers_short e r q = rw (short_is t, e) (record { read = q; tables = refl })

  module _ (long : short_in t ≡ false) (r : Read) (h : RecordStarts) (m : List ℕ) (C : Checked side s r h m) where
    opened_long : opened (short t) side s ≡ decode side s
    unfolding opened
    opened_long = rw (short_is t, long)

    unwritten : (d : Decoded) → r ≡ read_of d → (r.number ≡ 0 → ⊥) → t ≡ tables_of d t
    unwritten (refused n) e z = refl
    unwritten (accepted p) e z = absurd (z (ap (λ (x : Read). x.number) e))

    pub answers_refused : (r.number ≡ 0 → ⊥) → Answers (opened (short t) side s) r t t
    answers_refused z = rw opened_long (record { read = C.read; tables = unwritten (decode side s) C.read z })

    pub answers_accepted : r.number ≡ 0 → (t' : Tables) → Loads s t t' → Answers (opened (short t) side s) r t t'
    answers_accepted z t' w =
        let K = (C.ready z).1 in
        let same = (C.ready z).0 in
        let d = same ∙ K.plan in
        rw opened_long (record { read = C.read; tables = rw d (w (plan_of s K.standing.starts) K.plan) })
