-- What the scan of a file keeps: the counts, and where each record starts.
use Rattle.std.specs.Prelude.{Bool, cond, false, true, List, [], ◌++◌, ◌∷◌, refl, ◌≡◌, suc, zero, ℕ, ◌+◌, ◌-◌, ◌<◌, ◌≤◌, eqb, leb, ltb, length}
use Rattle.std.proofs.Math.Path.{ap, sym}
use Rattle.std.proofs.Common.{subst, ◌∙◌, eq-eqb, eqb-true, leb-true, ne_eqb}
use native.Mathlib.Omega.{arith}
use borrow.Author.Tests.{le-ltb, lt-ltb, ltb-false}
use Rattle.fields.specs.Fields.{u16_at, u32_at}
use Rattle.plan_format.specs.Kinds.{kind_number}
use Rattle.plan_format.specs.Laws.{Each, and_fst, and_snd, each_snoc, length_snoc}
use Rattle.plan_format.specs.Plan.{Starts, Walked, counts_of, ended, fits, in_range, items_at, none, record_number, refused, stopped}
use Rattle.plan_format.specs.Plan.{walk, walked, with_query, with_record, within}
use Rattle.plan_format.specs.Reading.{read_of}
use Rattle.plan_format.specs.declared.Counts.{Counts}
use Rattle.plan_format.specs.declared.Read.{Read}
use Rattle.plan_scan.specs.Limits.{Limited, more}
use Rattle.plan_scan.specs.declared.starts.Record.{Record}
use Rattle.plan_scan.specs.declared.starts.RecordStarts.{RecordStarts}

-- the starts of these records; those of the queries are not kept
pub record Kept (h : RecordStarts) (a : Starts) : Type 0 where
  pub lanes : h.lanes.items ≡ a.lanes
  pub links : h.links.items ≡ a.links
  pub sections : h.sections.items ≡ a.sections
  pub places : h.places.items ≡ a.places
  pub points : h.points ≡ a.points
  pub stations : h.stations ≡ a.stations

abbrev pub counts_in : RecordStarts → Counts
counts_in h =
    record {
      lanes = length h.lanes.items;
      points = h.points;
      links = length h.links.items;
      sections = length h.sections.items;
      stations = h.stations;
      places = length h.places.items;
    }

-- one record more, of this kind and with n points or stations, which starts at `at`
abbrev pub Grows : ℕ → ℕ → ℕ → RecordStarts → RecordStarts → Type 0
Grows at kind n h h' = (a : Starts) → Kept h a → Kept h' (with_record at kind n a)

-- a record of the file, as it was read
pub record Reads (s : List ℕ) (at : ℕ) (r : Record) : Type 0 where
  pub kind : kind_number r.kind ≡ u16_at s (at + 4)
  pub items : r.items ≡ items_at s at (u16_at s (at + 4))
  pub next : r.next ≡ at + 6 + u32_at s at

-- a record of this kind that lies in the file, with its length and fields as they should be
pub record Passes (s : List ℕ) (kind at : ℕ) : Type 0 where
  pub room : at + 6 + u32_at s at ≤ length s
  pub fit : fits s at kind (u32_at s at) ≡ true
  pub range : in_range s at kind ≡ true

-- the sum of the counts that stand `off` bytes after each start
unfoldable pub total : List ℕ → ℕ → List ℕ → ℕ
total s off [] = 0
total s off (x ∷ xs) = u16_at s (x + off) + total s off xs

pub record Sound (s : List ℕ) (a : Starts) : Type 0 where
  pub lanes : Each (Passes s 1) a.lanes
  pub links : Each (Passes s 2) a.links
  pub sections : Each (Passes s 3) a.sections
  pub places : Each (Passes s 4) a.places
  pub points : a.points ≡ total s 11 a.lanes
  pub stations : a.stations ≡ total s 26 a.sections

-- what the scan of a file answers
abbrev pub Scanned : List ℕ → Walked → Read → RecordStarts → Type 0
Scanned s (stopped v) r h = (r ≡ read_of (refused v)) × (v ≡ 0 → ⊥)
Scanned s (ended a) r h = (r ≡ record { number = 0; counts = counts_of a }) × Limited (counts_of a) × Kept h a × Sound s a

pub counts_kept : (h : RecordStarts) (a : Starts) → Kept h a → counts_in h ≡ counts_of a
counts_kept h a K = rw (K.lanes, K.links, K.sections, K.places, K.points, K.stations) refl

pub total_snoc : (s : List ℕ) (off : ℕ) (xs : List ℕ) (v : ℕ) → total s off (xs ++ (v ∷ [])) ≡ total s off xs + u16_at s (v + off)
unfolding total
total_snoc s off [] v = omega arith
total_snoc s off (x ∷ xs) v = let r = total_snoc s off xs v in omega arith

-- ONE RECORD MORE
pub record Next (s : List ℕ) (a : Starts) (c : Counts) : Type 0 where
  pub counts : c ≡ counts_of a
  pub limited : Limited c
  pub sound : Sound s a

data Kind (kind : ℕ) : Type 0 where
  is_lane_law : kind ≡ 1 → Kind kind
  is_link : kind ≡ 2 → Kind kind
  is_section : kind ≡ 3 → Kind kind
  is_place : kind ≡ 4 → Kind kind
  is_other : eqb kind 1 ≡ false → eqb kind 2 ≡ false → eqb kind 3 ≡ false → eqb kind 4 ≡ false → Kind kind

kind_of : (kind : ℕ) → Kind kind
kind_of kind = go (eqb kind 1) (eqb kind 2) (eqb kind 3) (eqb kind 4) refl refl refl refl
  where
    go : (b₁ b₂ b₃ b₄ : Bool) → eqb kind 1 ≡ b₁ → eqb kind 2 ≡ b₂ → eqb kind 3 ≡ b₃ → eqb kind 4 ≡ b₄ → Kind kind
    go true b₂ b₃ b₄ e₁ e₂ e₃ e₄ = is_lane_law (eqb-true kind 1 e₁)
    go false true b₃ b₄ e₁ e₂ e₃ e₄ = is_link (eqb-true kind 2 e₂)
    go false false true b₄ e₁ e₂ e₃ e₄ = is_section (eqb-true kind 3 e₃)
    go false false false true e₁ e₂ e₃ e₄ = is_place (eqb-true kind 4 e₄)
    go false false false false e₁ e₂ e₃ e₄ = is_other e₁ e₂ e₃ e₄

module _ (s : List ℕ) (at : ℕ) (a : Starts) (S : Sound s a) (L : Limited (counts_of a)) where
  abbrev Grown : ℕ → Type 0
  Grown kind = Next s (with_record at kind (items_at s at kind) a) (more kind (items_at s at kind) (counts_of a))

  abbrev Room : ℕ → Type 0
  Room kind = within kind (items_at s at kind) (counts_of a) ≡ true

  lane_more : Passes s 1 at → Room 1 → Grown 1
  unfolding with_record within
  lane_more o w =
      let l = leb-true (length a.lanes + 1) 256 (and_fst _ _ w) in
      let m = leb-true (a.points + u16_at s (at + 11)) 4096 (and_snd (leb (length a.lanes + 1) 256) _ w) in
      record {
        counts = rw (length_snoc a.lanes at) refl;
        limited =
            record {
              lanes = omega arith;
              points = omega arith;
              links = L.links;
              sections = L.sections;
              stations = L.stations;
              places = L.places;
            };
        sound =
            record {
              lanes = each_snoc (Passes s 1) a.lanes at S.lanes o;
              links = S.links;
              sections = S.sections;
              places = S.places;
              points = ap (λ (k : ℕ). k + u16_at s (at + 11)) S.points ∙ sym (total_snoc s 11 a.lanes at);
              stations = S.stations;
            };
      }

  link_more : Passes s 2 at → Room 2 → Grown 2
  unfolding with_record within
  link_more o w =
      let l = leb-true (length a.links + 1) 2048 w in
      record {
        counts = rw (length_snoc a.links at) refl;
        limited =
            record {
              lanes = L.lanes;
              points = L.points;
              links = omega arith;
              sections = L.sections;
              stations = L.stations;
              places = L.places;
            };
        sound =
            record {
              lanes = S.lanes;
              links = each_snoc (Passes s 2) a.links at S.links o;
              sections = S.sections;
              places = S.places;
              points = S.points;
              stations = S.stations;
            };
      }

  section_more : Passes s 3 at → Room 3 → Grown 3
  unfolding with_record within
  section_more o w =
      let l = leb-true (length a.sections + 1) 64 (and_fst _ _ w) in
      let m = leb-true (a.stations + u16_at s (at + 26)) 4096 (and_snd (leb (length a.sections + 1) 64) _ w) in
      record {
        counts = rw (length_snoc a.sections at) refl;
        limited =
            record {
              lanes = L.lanes;
              points = L.points;
              links = L.links;
              sections = omega arith;
              stations = omega arith;
              places = L.places;
            };
        sound =
            record {
              lanes = S.lanes;
              links = S.links;
              sections = each_snoc (Passes s 3) a.sections at S.sections o;
              places = S.places;
              points = S.points;
              stations = ap (λ (k : ℕ). k + u16_at s (at + 26)) S.stations ∙ sym (total_snoc s 26 a.sections at);
            };
      }

  place_more : Passes s 4 at → Room 4 → Grown 4
  unfolding with_record within
  place_more o w =
      let l = leb-true (length a.places + 1) 256 w in
      record {
        counts = rw (length_snoc a.places at) refl;
        limited =
            record {
              lanes = L.lanes;
              points = L.points;
              links = L.links;
              sections = L.sections;
              stations = L.stations;
              places = omega arith;
            };
        sound =
            record {
              lanes = S.lanes;
              links = S.links;
              sections = S.sections;
              places = each_snoc (Passes s 4) a.places at S.places o;
              points = S.points;
              stations = S.stations;
            };
      }

  -- a query: its start is not kept
  query_more : Next s (with_query at a) (counts_of a)
  query_more =
      record {
        counts = refl;
        limited = L;
        sound =
            record {
              lanes = S.lanes;
              links = S.links;
              sections = S.sections;
              places = S.places;
              points = S.points;
              stations = S.stations;
            };
      }

  one_more : (kind : ℕ) → Passes s kind at → Room kind → Grown kind
  unfolding with_record
  one_more kind o w = go (kind_of kind)
    where
      go : Kind kind → Grown kind
      go (is_lane_law e) = rw e (lane_more (rw e at o) (rw e at w))
      go (is_link e) = rw e (link_more (rw e at o) (rw e at w))
      go (is_section e) = rw e (section_more (rw e at o) (rw e at w))
      go (is_place e) = rw e (place_more (rw e at o) (rw e at w))
      go (is_other e₁ e₂ e₃ e₄) = simp (e₁, e₂, e₃, e₄) query_more

-- a record that gets no number
pub record Passed (s : List ℕ) (at : ℕ) (c : Counts) : Type 0 where
  pub ok : Passes s (u16_at s (at + 4)) at
  pub limit : within (u16_at s (at + 4)) (items_at s at (u16_at s (at + 4))) c ≡ true

pub passed : (s : List ℕ) (at : ℕ) (c : Counts) → record_number s at c ≡ 0 → Passed s at c
unfolding record_number
passed s at c e =
    go (ltb (length s) (at + 6)) (ltb (length s) (at + 6 + u32_at s at)) (fits s at kind (u32_at s at)) (in_range s at kind)
    (within kind (items_at s at kind) c) refl refl refl refl e
  where
    kind : ℕ
    kind = u16_at s (at + 4)

    go : (b₁ b₂ b₃ b₄ b₅ : Bool) → ltb (length s) (at + 6 + u32_at s at) ≡ b₂ → fits s at (u16_at s (at + 4)) (u32_at s at) ≡ b₃
        → in_range s at (u16_at s (at + 4)) ≡ b₄ → within (u16_at s (at + 4)) (items_at s at (u16_at s (at + 4))) c ≡ b₅
        → ◌≡◌ {A = ℕ} (cond b₁ 3 (cond b₂ 3 (cond b₃ (cond b₄ (cond b₅ 0 6) 5) 4))) 0 → Passed s at c
    go true b₂ b₃ b₄ b₅ e₂ e₃ e₄ e₅ h = absurd (omega arith)
    go false true b₃ b₄ b₅ e₂ e₃ e₄ e₅ h = absurd (omega arith)
    go false false false b₄ b₅ e₂ e₃ e₄ e₅ h = absurd (omega arith)
    go false false true false b₅ e₂ e₃ e₄ e₅ h = absurd (omega arith)
    go false false true true false e₂ e₃ e₄ e₅ h = absurd (omega arith)
    go false false true true true e₂ e₃ e₄ e₅ h =
        record { ok = record { room = ltb-false (length s) (at + 6 + u32_at s at) e₂; fit = e₃; range = e₄ }; limit = e₅ }

-- THE LOOP: what is left of the walk, after the records of a, gives what the whole gives
pub record Walking (s : List ℕ) (at : ℕ) (a : Starts) : Type 0 where
  pub inside : at ≤ length s
  pub fuel : ℕ
  pub enough : length s ≤ at + fuel
  pub same : walk fuel (ltb at (length s)) s at a ≡ walked s
  pub limited : Limited (counts_of a)
  pub sound : Sound s a

pub walk_start : (s : List ℕ) → Walking s 0 none
unfolding walked total
walk_start s =
    record {
      inside = omega arith;
      fuel = length s;
      enough = omega arith;
      same = refl;
      limited =
          record {
            lanes = omega arith;
            points = omega arith;
            links = omega arith;
            sections = omega arith;
            stations = omega arith;
            places = omega arith;
          };
      sound =
          record {
            lanes = λ j l. absurd (omega arith);
            links = λ j l. absurd (omega arith);
            sections = λ j l. absurd (omega arith);
            places = λ j l. absurd (omega arith);
            points = refl;
            stations = refl;
          };
    }

walk_zero : (b : Bool) (s : List ℕ) (at : ℕ) (a : Starts) → walk zero b s at a ≡ ended a
unfolding walk
walk_zero b s at a = refl

walk_end : (k : ℕ) (s : List ℕ) (at : ℕ) (a : Starts) → walk (suc k) false s at a ≡ ended a
unfolding walk
walk_end k s at a = refl

walk_step : (k : ℕ) (s : List ℕ) (at : ℕ) (a : Starts)
    → walk (suc k) true s at a
    ≡ cond (eqb (record_number s at (counts_of a)) 0)
    (walk k (ltb (at + 6 + u32_at s at) (length s)) s (at + 6 + u32_at s at)
    (with_record at (u16_at s (at + 4)) (items_at s at (u16_at s (at + 4))) a))
    (stopped (record_number s at (counts_of a)))
unfolding walk
walk_step k s at a = refl

module _ (s : List ℕ) (at : ℕ) (a : Starts) (W : Walking s at a) where
  stop_by : (k : ℕ) → at < length s → length s ≤ at + k → (record_number s at (counts_of a) ≡ 0 → ⊥)
      → walk k (ltb at (length s)) s at a ≡ walked s → walked s ≡ stopped (record_number s at (counts_of a))
  stop_by zero l e z p = absurd (omega arith)
  stop_by (suc k) l e z p =
      let n : eqb (record_number s at (counts_of a)) 0 ≡ false = ne_eqb _ _ z in
      sym (simp (lt-ltb at (length s) l, walk_step, n) at p)

  -- the record at `at` gets a number
  pub walk_stops : at < length s → (record_number s at (counts_of a) ≡ 0 → ⊥) → walked s ≡ stopped (record_number s at (counts_of a))
  walk_stops l z = stop_by W.fuel l W.enough z W.same

  end_by : (k : ℕ) → length s ≤ at → walk k (ltb at (length s)) s at a ≡ walked s → walked s ≡ ended a
  end_by zero l p = sym (simp walk_zero at p)
  end_by (suc k) l p = sym (simp (le-ltb at (length s) l, walk_end) at p)

  -- no record is left
  pub walk_ends : length s ≤ at → walked s ≡ ended a
  walk_ends l = end_by W.fuel l W.same

  next_same : (k : ℕ) → at < length s → length s ≤ at + k → record_number s at (counts_of a) ≡ 0
      → walk k (ltb at (length s)) s at a ≡ walked s
      → walk (k - 1) (ltb (at + 6 + u32_at s at) (length s)) s (at + 6 + u32_at s at)
      (with_record at (u16_at s (at + 4)) (items_at s at (u16_at s (at + 4))) a) ≡ walked s
  next_same zero l e v p = absurd (omega arith)
  next_same (suc k) l e v p =
      let z : suc k - 1 ≡ k = omega arith in
      let n : eqb (record_number s at (counts_of a)) 0 ≡ true = eq-eqb _ _ v in
      rw z (simp (lt-ltb at (length s) l, walk_step, n) at p)

  -- the record at `at` gets no number
  pub walk_next : at < length s → record_number s at (counts_of a) ≡ 0
      → Walking s (at + 6 + u32_at s at) (with_record at (u16_at s (at + 4)) (items_at s at (u16_at s (at + 4))) a)
  walk_next l v =
      let kind = u16_at s (at + 4) in
      let P = passed s at (counts_of a) v in
      let room = P.ok.room in
      let N = one_more s at a W.sound W.limited kind P.ok P.limit in
      record {
        inside = room;
        fuel = W.fuel - 1;
        enough = omega (arith, W.enough);
        same = next_same W.fuel l W.enough v W.same;
        limited = subst Limited N.counts N.limited;
        sound = N.sound;
      }

-- the walk, and the starts of its records so far
pub record Scanning (s : List ℕ) (at : ℕ) (h : RecordStarts) : Type 0 where
  pub starts : Starts
  pub walking : Walking s at starts
  pub kept : Kept h starts

pub scan_start : (s : List ℕ) (h : RecordStarts) → Kept h none → Scanning s 0 h
scan_start s h K = record { starts = none; walking = walk_start s; kept = K }

module _ (s : List ℕ) (at : ℕ) (h : RecordStarts) (S : Scanning s at h) where
  number_as : record_number s at (counts_in h) ≡ record_number s at (counts_of S.starts)
  number_as = ap (record_number s at) (counts_kept h S.starts S.kept)

  -- the record at `at` gets a number
  pub scan_stop : at < length s → (v : ℕ) → v ≡ record_number s at (counts_in h) → (v ≡ 0 → ⊥) → (h' : RecordStarts)
      → Scanned s (walked s) (read_of (refused v)) h'
  scan_stop l v q z h' =
      let e = q ∙ number_as in
      subst (λ (w : Walked). Scanned s w (read_of (refused v)) h')
      (ap stopped e ∙ sym (walk_stops s at S.starts S.walking l (λ (y : record_number s at (counts_of S.starts) ≡ 0). z (e ∙ y)))) (refl, z)

  -- no record is left
  pub scan_end : length s ≤ at → Scanned s (walked s) (record { number = 0; counts = counts_in h }) h
  scan_end l =
      subst (λ (w : Walked). Scanned s w (record { number = 0; counts = counts_in h }) h) (sym (walk_ends s at S.starts S.walking l))
      (ap (λ (c : Counts). record { number = 0; counts = c }) (counts_kept h S.starts S.kept), S.walking.limited, S.kept, S.walking.sound)

  -- the record at `at` gets no number
  module _ (v : record_number s at (counts_in h) ≡ 0) (r : Record) (R : Reads s at r) where
    pub room_for : within (kind_number r.kind) r.items (counts_in h) ≡ true
    room_for = rw (R.kind, R.items) (passed s at (counts_in h) v).limit

    pub scan_next : at < length s → (h' : RecordStarts) → Grows at (kind_number r.kind) r.items h h' → Scanning s r.next h'
    scan_next l h' G =
        record {
          starts = with_record at (u16_at s (at + 4)) (items_at s at (u16_at s (at + 4))) S.starts;
          walking = rw R.next (walk_next s at S.starts S.walking l (sym number_as ∙ v));
          kept = rw (R.kind, R.items) at (G S.starts S.kept);
        }
