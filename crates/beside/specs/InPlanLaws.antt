-- The rows of an accepted plan: they are what `beside` needs, and its answer by the rows is the one by the plan's records. What that means.
use Rattle.std.specs.Prelude.{◌≡◌, Bool, true, false, ◌&&◌, ◌||◌, List, map, eqb, leb, ltb, length, get_or, Float}
use Rattle.std.proofs.Math.Path.{refl, sym}
use Rattle.std.proofs.Common.{ap, ◌∙◌, arith, ltb-true, ltb-false, leb-false, eqb-true}
use Prim.Native.Nat.{ℕ, zero, suc, ◌+◌, ◌*◌, ◌<◌, ◌≤◌}
use Rattle.std.proofs.lemmas.List.{length-map}
use Rattle.std.specs.Float.{nan}
use Rattle.std.proofs.lemmas.Bool.{eqb-false}
use Rattle.plan.specs.Accepted.{Accepted}
use Rattle.plan.specs.Rows.{fan_entry, place_entry, bound_entry, lanes_size, fans_size, places_size, bounds_size}
use Rattle.plan_find.specs.FirstRow.{first_row, is_lane}
use Rattle.plan_find.specs.Lookup.{find_lane}
use Rattle.plan_format.specs.Laws.{get_or_map_in}
use Rattle.plan_format.specs.Lookup.{index_get}
use Rattle.plan_format.specs.Plan.{Plan, index_of, lane_of, number_of, place_section, section_key, section_of}
use Rattle.plan_format.specs.Records.{Place}
use Rattle.plan_format.specs.Tables.{plan_rows}
use Rattle.tables.specs.LaneTables.{no_lane}
use Rattle.tables.specs.Lines.{direction_is, number_is}
use Rattle.rows.specs.Rows.{lane_number, direction_of, place_of, placed_lane, placed_section, raised_number, start_of, end_of}
use Rattle.beside.specs.declared.LanePosition.{LanePosition}
use Rattle.beside.specs.declared.BesideAnswer.{BesideAnswer}
use Rattle.beside.specs.Beside.{beyond, toward_larger, nearer_at, next_row, in_section, refusal, center_of, beside_rows}
use Rattle.beside.specs.BesideLaws.{unknown, unplaced, off, alone, beside_it}
use Rattle.beside.specs.InPlan.{Last, Next, next_found, next_missing}
use Rattle.beside.specs.InPlan.{no_place, no_section, place_at, placed, is_past, next_place, within, beside_in}
use Rattle.beside.specs.Seated.{Seated}

-- what is found has the number sought
pub found : (n : ℕ) (xs : List ℕ) (d : ℕ) → index_of n xs 0 d < d → get_or xs (index_of n xs 0 d) 0 ≡ n
found n xs d h = index_get n xs 0 (index_of n xs 0 d) d (omega arith) (λ (e : 0 + index_of n xs 0 d ≡ d). absurd (omega arith))

module _ (p : Plan) (A : Accepted p) where
  abbrev lanes : List ℕ
  lanes = (plan_rows p).lanes

  abbrev n : ℕ
  n = length p.lanes

  abbrev fans : List ℕ
  fans = (plan_rows p).fans

  abbrev places : List ℕ
  places = (plan_rows p).places

  abbrev m : ℕ
  m = length p.places

  abbrev bounds : List Float
  bounds = (plan_rows p).bounds

  -- ---- the entries of the rows

  number_of_law : (i : ℕ) → i < n → lane_number lanes i ≡ get_or (map number_of p.lanes) i 0
  number_of_law i h = number_is p A i no_lane h ∙ sym (get_or_map_in number_of p.lanes i no_lane 0 h)

  pub place_of_law : (i : ℕ) → i < n → place_of fans i ≡ placed p (get_or (map number_of p.lanes) i 0)
  place_of_law i h = fan_entry p i 4 (omega (arith, length-map p.lanes number_of)) (omega arith)

  pub placed_lane_law : (k : ℕ) → k < m → placed_lane places k ≡ lane_of p (place_at p k).lane
  placed_lane_law k h = let z : 3 * k ≡ 3 * k + 0 = omega arith in rw z (place_entry p A k 0 no_place h (omega arith))

  pub placed_section_law : (k : ℕ) → k < m → placed_section places k ≡ section_of p (place_section (place_at p k))
  placed_section_law k h = place_entry p A k 1 no_place h (omega arith)

  pub placed_number : (k : ℕ) → k < m → raised_number places k ≡ (place_at p k).raised
  placed_number k h = place_entry p A k 2 no_place h (omega arith)

  -- ---- what `beside` needs
  pub seated : Seated lanes n fans places m bounds
  seated =
      let a = lanes_size p A in
      let b = fans_size p A in
      let c = places_size p A in
      let d = bounds_size p A in
      record {
        lane_rows_law = omega arith;
        lane_limit = A.limited.lanes;
        fan_rows = omega arith;
        place_rows = omega arith;
        place_limit = A.limited.places;
        place_lane_law = λ k h. rw (placed_lane_law k h) (A.place k no_place h).lane;
        place_section_law = λ k h. rw (placed_section_law k h) (let z = (A.place k no_place h).section in omega arith);
      }

  -- ---- the search for the next number

  -- two sections are one by their rows as by their keys
  same_section : (a b : ℕ) → section_of p a < length p.sections → section_of p b < length p.sections
      → eqb (section_of p a) (section_of p b) ≡ eqb a b
  same_section a b h l = by (eqb (section_of p a) (section_of p b)) (eqb a b) refl refl
    where
      by : (t u : Bool) → eqb (section_of p a) (section_of p b) ≡ t → eqb a b ≡ u → eqb (section_of p a) (section_of p b) ≡ eqb a b
      by true true e f = e ∙ sym f
      by false false e f = e ∙ sym f
      by true false e f =
          let limit = A.limited.sections in
          let keys = map section_key p.sections in
          let one = found a keys 64 (omega arith) in
          let other = found b keys 64 (omega arith) in
          let same = eqb-true (section_of p a) (section_of p b) e in
          absurd (eqb-false a b f (sym one ∙ ap (λ (i : ℕ). get_or keys i 0) same ∙ other))
      by false true e f = absurd (eqb-false (section_of p a) (section_of p b) e (ap (section_of p) (eqb-true a b f)))

  module _ (h : ℕ) (is_place : h < m) (larger : Bool) where
    abbrev here : Place
    here = place_at p h

    abbrev nearest : ℕ → ℕ → Bool
    nearest best k = is_past here larger (place_at p k) && (leb m best || beyond larger (place_at p k).raised (place_at p best).raised)

    nearer_same : (best k : ℕ) → k < m → nearer_at places m (placed_section places h) (raised_number places h) larger best k ≡ nearest best k
    nearer_same best k l = by (eqb (placed_section places k) (placed_section places h)) (leb m best) refl refl
      where
        section : eqb (placed_section places k) (placed_section places h) ≡ eqb (place_section (place_at p k)) (place_section here)
        section =
            rw (placed_section_law k l, placed_section_law h is_place)
            (same_section (place_section (place_at p k)) (place_section here) (A.place k no_place l).section (A.place h no_place is_place).section)

        by : (s b : Bool) → eqb (placed_section places k) (placed_section places h) ≡ s → leb m best ≡ b
            → nearer_at places m (placed_section places h) (raised_number places h) larger best k ≡ nearest best k
        by false b e f = rw (e, sym section ∙ e)
        by true true e f = rw (e, sym section ∙ e, f, placed_number k l, placed_number h is_place)
        by true false e f =
            let lower : best < m = leb-false m best f in
            rw (e, sym section ∙ e, f, placed_number k l, placed_number h is_place, placed_number best lower)

    pub next_same : (k : ℕ) → k ≤ m
        → next_row places m (placed_section places h) (raised_number places h) larger k ≡ next_place p here larger k
    unfolding next_row next_place
    next_same zero l = refl
    next_same (suc k) l =
        let best = next_place p here larger k in
        rw (next_same k (omega arith), nearer_same best k (omega arith))

  -- ---- the answer
  module _ (at : LanePosition) (side : ℕ) where
    abbrev i : ℕ
    i = lane_of p at.lane.0

    abbrev k : ℕ
    k = placed p at.lane.0

    abbrev j : ℕ
    j = section_of p (place_section (place_at p k))

    abbrev on : Bool
    on = within (get_or p.sections j no_section) at.s

    abbrev larger : Bool
    larger = toward_larger (get_or p.lanes i no_lane).direction side

    abbrev next : ℕ
    next = next_place p (place_at p k) larger m

    -- by the records
    in_unknown : ltb i n ≡ false → refusal 12 ≡ beside_in p at side
    unfolding beside_in
    in_unknown e = sym (rw e)

    module _ (known : ltb i n ≡ true) where
      in_unplaced : ltb k m ≡ false → refusal 12 ≡ beside_in p at side
      unfolding beside_in
      in_unplaced e = sym (rw (known, e))

      module _ (has_place : ltb k m ≡ true) where
        in_off : on ≡ false → refusal 12 ≡ beside_in p at side
        unfolding beside_in
        in_off e = sym (rw (known, has_place, e))

        in_alone : on ≡ true → ltb next m ≡ false → refusal 15 ≡ beside_in p at side
        unfolding beside_in
        in_alone e f = sym (rw (known, has_place, e, f))

        in_beside : on ≡ true → ltb next m ≡ true → center_of (place_at p next).lane at.s ≡ beside_in p at side
        unfolding beside_in
        in_beside e f = sym (rw (known, has_place, e, f))

    -- the rows have the same
    row : i ≡ first_row (is_lane lanes at.lane.0) n 0 256
    row = sym (find_lane p A no_lane at.lane.0)

    module _ (known : i < n) where
      place_is : place_of fans i ≡ k
      place_is =
          let limit = A.limited.lanes in
          place_of_law i known ∙ ap (placed p) (found at.lane.0 (map number_of p.lanes) 256 (omega arith))

      module _ (has_place : k < m) where
        start_is : start_of bounds j ≡ (get_or p.sections j no_section).start
        start_is =
            let z : 2 * j ≡ 2 * j + 0 = omega arith in
            rw z (bound_entry p A j 0 no_section nan (A.place k no_place has_place).section (omega arith))

        end_is : end_of bounds j ≡ (get_or p.sections j no_section).end
        end_is = bound_entry p A j 1 no_section nan (A.place k no_place has_place).section (omega arith)

        on_is : on ≡ in_section bounds (placed_section places (place_of fans i)) at.s
        on_is = sym (rw (place_is, placed_section_law k has_place, start_is, end_is))

        larger_is : larger ≡ toward_larger (direction_of lanes i) side
        larger_is = ap (λ (d : ℕ). toward_larger d side) (sym (direction_is p A i no_lane known))

        next_is : next ≡ next_row places m (placed_section places (place_of fans i)) (raised_number places (place_of fans i)) larger m
        next_is = rw place_is (sym (next_same k has_place larger m (omega arith)))

        lane_is : next < m → lane_number lanes (placed_lane places next) ≡ (place_at p next).lane
        lane_is h =
            let x = (place_at p next).lane in
            let limit = A.limited.lanes in
            let there = (A.place next no_place h).lane in
            rw (placed_lane_law next h) (number_of_law (lane_of p x) there ∙ found x (map number_of p.lanes) 256 (omega arith))

    pub beside_is : beside_rows lanes n fans places m bounds at side ≡ beside_in p at side
    beside_is = by (ltb i n) (ltb k m) on (ltb next m) refl refl refl refl
      where
        by : (a b c d : Bool) → ltb i n ≡ a → ltb k m ≡ b → on ≡ c → ltb next m ≡ d
            → beside_rows lanes n fans places m bounds at side ≡ beside_in p at side
        by false b c d e f g h = sym (unknown lanes n fans places m bounds at side i row (ltb-false i n e)) ∙ in_unknown e
        by true false c d e f g h =
            let known = ltb-true i n e in
            let none : m ≤ place_of fans i = rw (place_is known) (ltb-false k m f) in
            sym (unplaced lanes n fans places m bounds at side i row known none) ∙ in_unplaced e f
        by true true c d e f g h = placed_by c d g h
          where
            known : i < n
            known = ltb-true i n e

            has_place : k < m
            has_place = ltb-true k m f

            there : place_of fans i < m
            there = rw (place_is known) has_place

            placed_by : (c d : Bool) → on ≡ c → ltb next m ≡ d → beside_rows lanes n fans places m bounds at side ≡ beside_in p at side
            placed_by false d g h =
                sym (off lanes n fans places m bounds at side i row known there on (on_is known has_place) g) ∙ in_off e f g
            placed_by true false g h =
                sym (alone lanes n fans places m bounds at side i row known there on (on_is known has_place) g larger
                (larger_is known has_place) next (next_is known has_place) (ltb-false next m h))
                ∙ in_alone e f g h
            placed_by true true g h =
                sym (beside_it lanes n fans places m bounds at side i row known there on (on_is known has_place) g larger
                (larger_is known has_place) next (next_is known has_place) (ltb-true next m h))
                ∙ ap (λ (x : ℕ). center_of x at.s) (lane_is known has_place (ltb-true next m h))
                ∙ in_beside e f g h

    -- ---- what the answer means: the lane next to this one in its section, with none between; or none is there
    says : (x : ℕ) (a : BesideAnswer) → a ≡ beside_in p at side → (beside_in p at side).number ≡ x → a.number ≡ x
    says x a e z = ap (λ (r : BesideAnswer). r.number) e ∙ z

    pub beside_next : (beside_in p at side).number ≡ 0
        → Next p (place_at p k) larger next × ((beside_in p at side).at.lane.0 ≡ (place_at p next).lane)
    beside_next z = by (ltb i n) (ltb k m) on (ltb next m) refl refl refl refl
      where
        by : (a b c d : Bool) → ltb i n ≡ a → ltb k m ≡ b → on ≡ c → ltb next m ≡ d
            → Next p (place_at p k) larger next × ((beside_in p at side).at.lane.0 ≡ (place_at p next).lane)
        by false b c d e f g h = let w = says 0 (refusal 12) (in_unknown e) z in absurd (omega arith)
        by true false c d e f g h = let w = says 0 (refusal 12) (in_unplaced e f) z in absurd (omega arith)
        by true true false d e f g h = let w = says 0 (refusal 12) (in_off e f g) z in absurd (omega arith)
        by true true true false e f g h = let w = says 0 (refusal 15) (in_alone e f g h) z in absurd (omega arith)
        by true true true true e f g h = (
          next_found p (place_at p k) larger A.limited.places (ltb-true next m h),
          sym (ap (λ (r : BesideAnswer). r.at.lane.0) (in_beside e f g h)),
        )

    pub beside_last : (beside_in p at side).number ≡ 15 → Last p (place_at p k) larger
    beside_last z = by (ltb i n) (ltb k m) on (ltb next m) refl refl refl refl
      where
        by : (a b c d : Bool) → ltb i n ≡ a → ltb k m ≡ b → on ≡ c → ltb next m ≡ d → Last p (place_at p k) larger
        by false b c d e f g h = let w = says 15 (refusal 12) (in_unknown e) z in absurd (omega arith)
        by true false c d e f g h = let w = says 15 (refusal 12) (in_unplaced e f) z in absurd (omega arith)
        by true true false d e f g h = let w = says 15 (refusal 12) (in_off e f g) z in absurd (omega arith)
        by true true true true e f g h = let w = says 15 (center_of (place_at p next).lane at.s) (in_beside e f g h) z in absurd (omega arith)
        by true true true false e f g h = next_missing p (place_at p k) larger A.limited.places (ltb-false next m h)
