-- The numbers 2 to 8 as the code tries them are those of the definition.
use Rattle.std.specs.Prelude.{cond, false, ◌≡◌, ℕ, ◌+◌, ◌<◌, ◌≤◌, T, eqb, length}
use mathlib.Core.List.{List, [], map, ◌∷◌}
use Rattle.std.proofs.Math.Path.{ap, refl}
use Rattle.std.proofs.Common.{sym, ◌∙◌, arith, eq-eqb, le-ltb, lt-ltb, ne_eqb}
use Rattle.std.proofs.lemmas.List.{length-map}
use Rattle.fields.specs.Fields.{u16_at}
use Rattle.plan_format.specs.Plan.{Starts, Walked, accepted, any, counts_of, decode, ended, from_missing, lane_count, plan_of, refused}
use Rattle.plan_format.specs.Plan.{repeats, section_count, settled, stopped, walked}
use Rattle.plan_format.specs.Reading.{plan_counts, read_of, sum}
use Rattle.plan_format.specs.Records.{lane_at, link_at, place_at, section_at}
use Rattle.plan_format.specs.declared.Counts.{Counts}
use Rattle.plan_format.specs.declared.Read.{Read}
use Rattle.plan_scan.specs.Limits.{Limited}
use Rattle.plan_scan.specs.Parts.{Parts, parts_of}
use Rattle.plan_scan.specs.Scan.{Kept, Scanned, Sound, total}
use Rattle.plan_scan.specs.declared.starts.RecordStarts.{RecordStarts}
use Rattle.plan_whole.specs.ByNumber.{ByNumber}
use Rattle.plan_whole.specs.Keys.{key_at}
use Rattle.plan_whole.specs.Whole.{judged_is, whole_free, whole_zero, whole_in}

-- a file whose records all pass, with their starts
pub record Standing (s : List ℕ) (h : RecordStarts) : Type 0 where
  pub starts : Starts
  pub is : walked s ≡ ended starts
  pub limited : Limited (counts_of starts)
  pub kept : Kept h starts
  pub sound : Sound s starts
  pub small : length s ≤ 65536

-- an accepted file; m has the row of each lane number
pub record Loadable (s : List ℕ) (h : RecordStarts) (m : List ℕ) : Type 0 where
  pub standing : Standing s h
  pub plan : decode 0 s ≡ accepted (plan_of s standing.starts)
  pub index : ByNumber m (map (key_at s 0) standing.starts.lanes) 0
  pub once : repeats (map (key_at s 0) standing.starts.lanes) ≡ false
  pub from : any (from_missing (map (key_at s 0) standing.starts.lanes)) (map (link_at s) standing.starts.links) ≡ false

-- what `check` answers, and leaves in its working lists where the answer is 0
pub record Checked (side : ℕ) (s : List ℕ) (r : Read) (h : RecordStarts) (m : List ℕ) : Type 0 where
  pub read : r ≡ read_of (decode side s)
  pub ready : r.number ≡ 0 → (decode side s ≡ decode 0 s) × Loadable s h m

pub parts_in : (s : List ℕ) (h : RecordStarts) → Standing s h → Parts s h.lanes.items h.links.items h.sections.items h.places.items
parts_in s h K = rw (K.kept.lanes, K.kept.links, K.kept.sections, K.kept.places) (parts_of s K.starts K.sound K.limited)

-- the counts of the starts are those of the plan
module _ (s : List ℕ) where
  lane_total : (xs : List ℕ) → sum (map lane_count (map (lane_at s) xs)) ≡ total s 11 xs
  unfolding sum total
  lane_total [] = refl
  lane_total (p ∷ xs) = ap (λ (n : ℕ). u16_at s (p + 11) + n) (lane_total xs)

  section_total : (xs : List ℕ) → sum (map section_count (map (section_at s) xs)) ≡ total s 26 xs
  unfolding sum total
  section_total [] = refl
  section_total (p ∷ xs) = ap (λ (n : ℕ). u16_at s (p + 26) + n) (section_total xs)

  pub plan_counts_law : (a : Starts) → a.points ≡ total s 11 a.lanes → a.stations ≡ total s 26 a.sections
      → counts_of a ≡ plan_counts (plan_of s a)
  plan_counts_law a points stations =
      rw (
        lane_total a.lanes,
        section_total a.sections,
        ← points,
        ← stations,
        length-map a.lanes (lane_at s),
        length-map a.links (link_at s),
        length-map a.sections (section_at s),
        length-map a.places (place_at s),
      )

-- THE SCAN
standing_by : (s : List ℕ) (w : Walked) (r : Read) (h : RecordStarts) → walked s ≡ w → r.number ≡ 0 → Scanned s w r h → length s ≤ 65536
    → Standing s h
standing_by s (stopped v) r h e z T l = absurd (T.1 (sym (ap (λ (x : Read). x.number) T.0) ∙ z))
standing_by s (ended a) r h e z T l =
    record { starts = a; is = e; limited = T.1; kept = T.2; sound = T.3; small = l }

pub standing : (s : List ℕ) (r : Read) (h : RecordStarts) → r.number ≡ 0 → Scanned s (walked s) r h → length s ≤ 65536 → Standing s h
standing s r h = standing_by s (walked s) r h refl

stopped_by : (side : ℕ) (s : List ℕ) (w : Walked) (r : Read) (h : RecordStarts) → walked s ≡ w → (r.number ≡ 0 → ⊥) → Scanned s w r h
    → length s ≤ 65536
    → r ≡ read_of (decode side s)
unfolding decode settled
stopped_by side s (stopped v) r h e z T l = rw (le-ltb 65536 (length s) l, e) T.0
stopped_by side s (ended a) r h e z T l = absurd (z (ap (λ (x : Read). x.number) T.0))

-- NUMBER 2, and a refusal by the scan
pub checked_large : (side : ℕ) (s : List ℕ) (r : Read) (h : RecordStarts) (m : List ℕ) → 65536 < length s → r ≡ read_of (refused 2) → Checked side s r h m
unfolding decode
checked_large side s r h m l e =
    record {
      read = e ∙ rw (lt-ltb 65536 (length s) l);
      ready = λ z. absurd (let n = ap (λ (x : Read). x.number) e in omega arith);
    }

pub checked_stopped : (side : ℕ) (s : List ℕ) (r : Read) (h h' : RecordStarts) (m : List ℕ) → (r.number ≡ 0 → ⊥) → Scanned s (walked s) r h → length s ≤ 65536
    → Checked side s r h' m
checked_stopped side s r h h' m z T l = record { read = stopped_by side s (walked s) r h refl z T l; ready = λ y. absurd (z y) }

-- THE WHOLE FILE
whole_same : (s : List ℕ) (side : ℕ) (a a' b b' c c' d d' : List ℕ) → a ≡ a' → b ≡ b' → c ≡ c' → d ≡ d'
    → whole_in s side a b c d ≡ whole_in s side a' b' c' d'
whole_same s side a a' b b' c c' d d' p q r t = rw (p, q, r, t) refl

module _ (side : ℕ) (s : List ℕ) (h : RecordStarts) (K : Standing s h) where
  abbrev ls : List ℕ
  ls = K.starts.lanes

  abbrev ks : List ℕ
  ks = K.starts.links

  abbrev ss : List ℕ
  ss = K.starts.sections

  abbrev ps : List ℕ
  ps = K.starts.places

  decode_is : (d : ℕ)
      → decode d s ≡ cond (eqb (whole_in s d ls ks ss ps) 0) (accepted (plan_of s K.starts)) (refused (whole_in s d ls ks ss ps))
  unfolding decode settled
  decode_is d = rw (le-ltb 65536 (length s) K.small, K.is) (judged_is s d K.starts)

  whole_in_law : (v : ℕ) → v ≡ whole_in s side h.lanes.items h.links.items h.sections.items h.places.items → v ≡ whole_in s side ls ks ss ps
  whole_in_law v e = e ∙ whole_same s side _ ls _ ks _ ss _ ps K.kept.lanes K.kept.links K.kept.sections K.kept.places

  pub checked_refused : (v : ℕ) → v ≡ whole_in s side h.lanes.items h.links.items h.sections.items h.places.items → (v ≡ 0 → ⊥)
      → (r : Read) (m : List ℕ) → r ≡ read_of (refused v) → Checked side s r h m
  checked_refused v e z r m q =
      let w = whole_in_law v e in
      let d : decode side s ≡ refused v = decode_is side ∙ rw (← w) (simp (ne_eqb v 0 z)) in
      record { read = rw d q; ready = λ y. absurd (z (sym (ap (λ (x : Read). x.number) q) ∙ y)) }

  counts_are : counts_of K.starts ≡ plan_counts (plan_of s K.starts)
  counts_are = plan_counts_law s K.starts K.sound.points K.sound.stations

  pub checked_accepted : (v : ℕ) → v ≡ whole_in s side h.lanes.items h.links.items h.sections.items h.places.items → v ≡ 0
      → (m : List ℕ) → ByNumber m (map (key_at s 0) h.lanes.items) 0 → (r : Read) → r.number ≡ 0 → Scanned s (walked s) r h → Checked side s r h m
  checked_accepted v e z m M r n q =
      let w = whole_in_law v e in
      let K-facts = whole_free s side ls ks ss ps (sym w ∙ z) in
      let d : decode side s ≡ accepted (plan_of s K.starts) = decode_is side ∙ rw (← w) (simp (eq-eqb v 0 z)) in
      let d₀ : decode 0 s ≡ accepted (plan_of s K.starts) = decode_is 0 ∙ rw (whole_zero s side ls ks ss ps (sym w ∙ z)) in
      record {
        read = rw d (scan_read r n (rw K.is at q) ∙ ap (λ (k : Counts). record { number = 0; counts = k }) counts_are);
        ready = λ y. (
          d ∙ sym d₀,
          (record { standing = K; plan = d₀; index = rw K.kept.lanes at M; once = K-facts.0; from = K-facts.1 }),
        );
      }
    where
      scan_read : (r : Read) → r.number ≡ 0 → Scanned s (ended K.starts) r h → r ≡ record { number = 0; counts = counts_of K.starts }
      scan_read r n T = T.0
