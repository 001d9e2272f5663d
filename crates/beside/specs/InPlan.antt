-- The lane beside a position, by the plan's records: the lane's place, its section, and the next larger or next smaller OpenDRIVE number among
-- the places of that section. No lane of the section lies between: `next_found`, `next_missing`.
use Rattle.std.specs.Prelude.{◌≡◌, Bool, true, false, cond, ◌&&◌, ◌||◌, [], map, eqb, leb, ltb, length, get_or, Float}
use Rattle.std.proofs.Math.Path.{refl}
use Rattle.std.proofs.Common.{sym, ◌∙◌, subst, true≢false, arith, ltb-true, ltb-false, le-ltb, le-leb}
use Prim.Native.Nat.{ℕ, zero, suc, ◌<◌, ◌≤◌}
use Rattle.std.specs.Float.Ieee.{le}
use Rattle.std.specs.Float.{nan}
use Rattle.std.proofs.lemmas.Bool.{lt-leb}
use Rattle.plan_format.specs.Plan.{Decoded, Plan, accepted, index_of, lane_of, place_lane, place_section, refused, section_of}
use Rattle.plan_format.specs.Records.{Place, Section}
use Rattle.tables.specs.LaneTables.{no_lane}
use Rattle.beside.specs.declared.LanePosition.{LanePosition}
use Rattle.beside.specs.declared.BesideAnswer.{BesideAnswer}
use Rattle.beside.specs.Beside.{beyond, toward_larger, refusal, center_of, pick}

-- what stands for a record past the end of its list; no answer has it
abbrev pub no_place : Place
no_place = record { lane = 0; road = 0; index = 0; raised = 0 }

abbrev pub no_section : Section
no_section = record { road = 0; index = 0; start = nan; end = nan; count = 0; stations = [] }

abbrev pub place_at : Plan → ℕ → Place
place_at p k = get_or p.places k no_place

-- where the place of the lane with the number n stands, 256 where it has none
abbrev pub placed : Plan → ℕ → ℕ
placed p n = index_of n (map place_lane p.places) 0 256

-- x is in the section of `here`, past it, toward the larger numbers (true) or toward the smaller
abbrev pub is_past : Place → Bool → Place → Bool
is_past here larger x = eqb (place_section x) (place_section here) && beyond larger here.raised x.raised

-- the nearest to `here` of the first k places, 256 where none lies on that side
unfoldable pub next_place : Plan → Place → Bool → ℕ → ℕ
next_place p here larger zero = 256
next_place p here larger (suc k) =
    let best = next_place p here larger k in
    let x = place_at p k in
    cond (is_past here larger x && (leb (length p.places) best || beyond larger x.raised (place_at p best).raised)) k best

-- both ends of a section count as within it; a NaN lies in none
abbrev pub within : Section → Float → Bool
within x s = le x.start s && le s x.end

-- 12: the lane is unknown or has no place, or s is not within its section; 15: no lane is on that side
unfoldable pub beside_in : Plan → LanePosition → ℕ → BesideAnswer
beside_in p at side =
    let i = lane_of p at.lane.0 in
    let k = placed p at.lane.0 in
    let here = place_at p k in
    let section = get_or p.sections (section_of p (place_section here)) no_section in
    let larger = toward_larger (get_or p.lanes i no_lane).direction side in
    let next = next_place p here larger (length p.places) in
    pick (ltb i (length p.lanes) && (ltb k (length p.places) && within section at.s))
    (pick (ltb next (length p.places)) (center_of (place_at p next).lane at.s) (refusal 15))
    (refusal 12)

-- the answer for a file
abbrev pub beside_of : Decoded → LanePosition → ℕ → BesideAnswer
beside_of (refused k) at side = refusal k
beside_of (accepted p) at side = beside_in p at side

-- ---- no lane of the section lies between

-- place r lies on that side of `here`, and no other of the plan's places on that side lies between
pub record Next (p : Plan) (here : Place) (larger : Bool) (r : ℕ) : Type 0 where
  pub is_place : r < length p.places
  pub past : is_past here larger (place_at p r) ≡ true
  pub none_between : (i : ℕ) → i < length p.places → is_past here larger (place_at p i) ≡ true
      → beyond larger (place_at p i).raised (place_at p r).raised ≡ false

-- none of the plan's places lies on that side
pub record Last (p : Plan) (here : Place) (larger : Bool) : Type 0 where
  pub none_past : (i : ℕ) → i < length p.places → is_past here larger (place_at p i) ≡ false

beyond_self : (larger : Bool) (a : ℕ) → beyond larger a a ≡ false
beyond_self true a = le-ltb a a (omega arith)
beyond_self false a = le-ltb a a (omega arith)

-- what does not lie before b does not lie before a number that b lies past
beyond_nearer : (larger : Bool) (a b d : ℕ) → beyond larger b d ≡ true → beyond larger a d ≡ false → beyond larger a b ≡ false
beyond_nearer true a b d h k = le-ltb a b (omega (arith, ltb-true b d h, ltb-false a d k))
beyond_nearer false a b d h k = le-ltb b a (omega (arith, ltb-true d b h, ltb-false d a k))

-- one more
up_to : (P : ℕ → Type 0) (k : ℕ) → ((i : ℕ) → i < k → P i) → P k → (i : ℕ) → i < suc k → P i
up_to P k below here i h = by (ltb i k) refl
  where
    by : (t : Bool) → ltb i k ≡ t → P i
    by true e = below i (ltb-true i k e)
    by false e = let same : k ≡ i = omega (arith, ltb-false i k e) in subst P same here

module _ (p : Plan) (here : Place) (larger : Bool) (limit : length p.places ≤ 256) where
  abbrev raised : ℕ → ℕ
  raised i = (place_at p i).raised

  abbrev Past : ℕ → Type 0
  Past i = is_past here larger (place_at p i) ≡ true

  -- what the first k places have shown
  data Seen (k r : ℕ) : Type 0 where
    none : r ≡ 256 → ((i : ℕ) → i < k → is_past here larger (place_at p i) ≡ false) → Seen k r
    some : r < k → Past r → ((i : ℕ) → i < k → Past i → beyond larger (raised i) (raised r) ≡ false) → Seen k r

  module _ (k r : ℕ) (below : k < length p.places) where
    abbrev nearer : Bool → Bool → ℕ
    nearer past best = cond (past && (leb (length p.places) r || best)) k r

    seen_more : (t b : Bool) → is_past here larger (place_at p k) ≡ t → beyond larger (raised k) (raised r) ≡ b → Seen k r
        → Seen (suc k) (nearer t b)
    seen_more false b e f (none z l) = none z (up_to (λ (i : ℕ). is_past here larger (place_at p i) ≡ false) k l e)
    seen_more false b e f (some h q l) =
        some (omega arith) q
        (up_to (λ (i : ℕ). Past i → beyond larger (raised i) (raised r) ≡ false) k l
        (λ x. let w : ◌≡◌ {A = Bool} true false = sym x ∙ e in absurd (true≢false w)))
    seen_more true b e f (none z l) =
        rw (le-leb (length p.places) r (omega arith))
        (some (omega arith) e
        (up_to (λ (i : ℕ). Past i → beyond larger (raised i) (raised k) ≡ false) k
        (λ i h x. let w : ◌≡◌ {A = Bool} true false = sym x ∙ l i h in absurd (true≢false w)) (λ _. beyond_self larger (raised k))))
    seen_more true true e f (some h q l) =
        rw (lt-leb (length p.places) r (omega arith))
        (some (omega arith) e
        (up_to (λ (i : ℕ). Past i → beyond larger (raised i) (raised k) ≡ false) k
        (λ i h x. beyond_nearer larger (raised i) (raised k) (raised r) f (l i h x)) (λ _. beyond_self larger (raised k))))
    seen_more true false e f (some h q l) =
        rw (lt-leb (length p.places) r (omega arith))
        (some (omega arith) q (up_to (λ (i : ℕ). Past i → beyond larger (raised i) (raised r) ≡ false) k l (λ _. f)))

  seen : (k : ℕ) → k ≤ length p.places → Seen k (next_place p here larger k)
  unfolding next_place
  seen zero h = none refl (λ i b. absurd (omega arith))
  seen (suc k) h =
      let r = next_place p here larger k in
      seen_more k r (omega arith) (is_past here larger (place_at p k)) (beyond larger (raised k) (raised r)) refl refl (seen k (omega arith))

  abbrev next : ℕ
  next = next_place p here larger (length p.places)

  -- a place found is the next one, and none lies between
  pub next_found : next < length p.places → Next p here larger next
  next_found h = from (seen (length p.places) (omega arith))
    where
      from : Seen (length p.places) next → Next p here larger next
      from (none z l) = absurd (omega arith)
      from (some b q l) = record { is_place = b; past = q; none_between = l }

  -- where none is found, none lies on that side
  pub next_missing : length p.places ≤ next → Last p here larger
  next_missing h = from (seen (length p.places) (omega arith))
    where
      from : Seen (length p.places) next → Last p here larger
      from (none z l) = record { none_past = l }
      from (some b q l) = absurd (omega arith)
