-- Opening a plan: the arc lengths and the tangents that the code writes are those of the plan's lanes, and with the nine tables of
-- `read_plan` make the promise whole. What a caller knows of the plan that was opened.
use Rattle.std.specs.Prelude.{Bool, cond, eqb, ltb, Float, drop, get_or, length, take}
use Rattle.std.proofs.Math.Bool.{false, true}
use mathlib.Core.List.{List, [], append_assoc, append-nil, map, ◌++◌, ◌∷◌}
use Rattle.std.proofs.Math.Path.{ap, ap₂, refl, sym, ◌≡◌}
use Rattle.std.proofs.Common.{subst, ◌∙◌, le_of_suc-le-suc, not-suc-le-zero, length-append}
use Prim.Native.Nat.{suc, zero, ℕ, ◌*◌, ◌+◌, ◌<◌, ◌≤◌}
use native.Mathlib.Omega.{arith}
use Rattle.std.specs.Float.Ieee.{nan}
use Rattle.std.proofs.Math.Seq.{take-length}
use borrow.Author.Tests.{eqb-false, le-ltb, lt-ltb}
use Rattle.geometry.specs.Polyline.{cumulative_of, tangents_of, vector_at}
use Rattle.geometry_rows.specs.Rows.{Rows, TangentRoom, cumulative_rows, lane_ends, points_before, tangent_rows}
use Rattle.plan.specs.Accepted.{Accepted, accepted_plan}
use Rattle.plan.specs.Links.{links_all}
use Rattle.plan.specs.Rows.{bounds_size, end_entry, ends_size_law, fans_size, lanes_size, places_size, points_size}
use Rattle.plan.specs.Rows.{sections_size, stations_size}
use Rattle.lists.specs.Over.{over_front}
use Rattle.plan_format.specs.Laws.{Bytes}
use Rattle.plan_format.specs.Plan.{Decoded, Plan, Starts, Walked, accepted, counts_of, decode, ended, judged, lacks, lane_count, plan_of}
use Rattle.plan_format.specs.Plan.{record_number, refused, section_count, settled, stopped, twice, walk, walked}
use Rattle.plan_format.specs.Reading.{Answers, opened, plan_counts, read_of, short, sum, tables_of}
use Rattle.plan_format.specs.Records.{Lane}
use Rattle.plan_format.specs.Tables.{Tables, end_row, loaded, over, plan_rows, rows}
use Rattle.plan_format.specs.declared.Counts.{Counts}
use Rattle.plan_format.specs.declared.Read.{Read}
use Rattle.rows.specs.Rows.{points_of}
use Rattle.tables.specs.LaneTables.{LaneTables, Opens, cumulative_row, ends_of, held, lane_rows, no_lane, tables_after, tangent_row, too_short}
use Rattle.tables.specs.Lines.{count_is, cumulative_size, ends_is, first_is, points_are, tangents_size}

-- tables that start with the rows of n lanes and the points of these, m in all, and tables with room for an arc length and a tangent of each
pub record Polylines (lanes : List ℕ) (points ends : List Float) (n m : ℕ) (cumulative tangents : List Float) : Type 0 where
  pub lanes_there : 6 * n ≤ length lanes
  pub points_there : 3 * m ≤ length points
  pub ends_there : 6 * n ≤ length ends
  pub rows : Rows (take (6 * n) lanes) n (take (3 * m) points)
  pub room : points_before (take (6 * n) lanes) n ≤ length cumulative
  pub tangent_room : TangentRoom (take (6 * n) lanes) n (take (6 * n) ends) tangents

-- ONE ELEMENT MORE
rows_grow : {X A : Type 0} (row : X → List A) (xs : List X) (d : X) (k : ℕ) → k < length xs
    → rows row (take (suc k) xs) ≡ rows row (take k xs) ++ row (get_or xs k d)
unfolding rows
rows_grow row [] d k h = absurd (not-suc-le-zero h)
rows_grow row (x ∷ xs) d zero h = append-nil (row x)
rows_grow row (x ∷ xs) d (suc k) h =
    rw (rows_grow row xs d k (le_of_suc-le-suc h)) (sym (append_assoc (row x) (rows row (take k xs)) (row (get_or xs k d))))

sum_grow : {X : Type 0} (count : X → ℕ) (xs : List X) (d : X) (k : ℕ) → k < length xs
    → sum (map count (take (suc k) xs)) ≡ sum (map count (take k xs)) + count (get_or xs k d)
unfolding sum
sum_grow count [] d k h = absurd (not-suc-le-zero h)
sum_grow count (x ∷ xs) d zero h = omega arith
sum_grow count (x ∷ xs) d (suc k) h = let r = sum_grow count xs d k (le_of_suc-le-suc h) in omega arith

-- THE POLYLINES of a plan's rows are those of its lanes
module _ (p : Plan) (A : Accepted p) where
  abbrev n : ℕ
  n = length p.lanes

  abbrev lane : ℕ → Lane
  lane i = get_or p.lanes i no_lane

  before_is : (k : ℕ) → k ≤ n → points_before (plan_rows p).lanes k ≡ sum (map lane_count (take k p.lanes))
  unfolding points_before sum
  before_is zero h = refl
  before_is (suc k) h =
      let b = before_is k (omega arith) in
      let c = count_is p A k no_lane h in
      let g = sum_grow lane_count p.lanes no_lane k h in
      omega arith

  before_all : points_before (plan_rows p).lanes n ≡ sum (map lane_count p.lanes)
  before_all = before_is n (omega arith) ∙ ap (λ (xs : List Lane). sum (map lane_count xs)) (take-length p.lanes)

  plan_rows_law : Rows (plan_rows p).lanes n (plan_rows p).points
  plan_rows_law =
      record {
        held = let z = lanes_size p A in omega arith;
        firsts = λ i h. first_is p A i no_lane h ∙ sym (before_is i (omega arith));
        some = λ i h. let c = count_is p A i no_lane h in omega (arith, (A.lane i no_lane h).two);
        room = let z = points_size p A in let b = before_all in omega arith;
      }

  vector_of : (k j : ℕ) → k < n → j < 2 → vector_at (plan_rows p).ends (2 * k + j) ≡ vector_at (end_row (lane k)) j
  unfolding vector_at
  vector_of k j h b =
      let x : 3 * (2 * k + j) ≡ 6 * k + 3 * j = omega arith in
      let y : 6 * k + 3 * j + 1 ≡ 6 * k + (3 * j + 1) = omega arith in
      let z : 6 * k + 3 * j + 2 ≡ 6 * k + (3 * j + 2) = omega arith in
      rw (
        x,
        y,
        z,
        end_entry p A k (3 * j) no_lane nan h (omega arith),
        end_entry p A k (3 * j + 1) no_lane nan h (omega arith),
        end_entry p A k (3 * j + 2) no_lane nan h (omega arith),
      )

  ends_of_law : (k : ℕ) → k < n → lane_ends (plan_rows p).lanes (plan_rows p).ends k ≡ ends_of (lane k)
  unfolding lane_ends
  ends_of_law k h =
      let z : 2 * k ≡ 2 * k + 0 = omega arith in
      let s : vector_at (plan_rows p).ends (2 * k) ≡ vector_at (end_row (lane k)) 0 = rw z (vector_of k 0 h (omega arith)) in
      rw (s, vector_of k 1 h (omega arith), ends_is p A k no_lane h)

  cumulative_to : (k : ℕ) → k ≤ n → cumulative_rows (plan_rows p).lanes (plan_rows p).points k ≡ rows cumulative_row (take k p.lanes)
  unfolding cumulative_rows rows
  cumulative_to zero h = refl
  cumulative_to (suc k) h =
      ap₂ ◌++◌ (cumulative_to k (omega arith)) (ap₂ cumulative_of (points_are p A k no_lane h) (count_is p A k no_lane h))
      ∙ sym (rows_grow cumulative_row p.lanes no_lane k h)

  tangents_to_law : (k : ℕ) → k ≤ n
      → tangent_rows (plan_rows p).lanes (plan_rows p).points (plan_rows p).ends k ≡ rows tangent_row (take k p.lanes)
  unfolding tangent_rows rows
  tangents_to_law zero h = refl
  tangents_to_law (suc k) h =
      let here : tangents_of (points_of (plan_rows p).lanes (plan_rows p).points k) (get_or (plan_rows p).lanes (6 * k + 5) 0)
      (lane_ends (plan_rows p).lanes (plan_rows p).ends k) ≡ tangent_row (lane k) =
      rw (points_are p A k no_lane h, count_is p A k no_lane h, ends_of_law k h) in
      ap₂ ◌++◌ (tangents_to_law k (omega arith)) here ∙ sym (rows_grow tangent_row p.lanes no_lane k h)

  cumulative_is : cumulative_rows (plan_rows p).lanes (plan_rows p).points n ≡ (lane_rows p).cumulative
  unfolding lane_rows
  cumulative_is = cumulative_to n (omega arith) ∙ ap (rows cumulative_row) (take-length p.lanes)

  tangents_is : tangent_rows (plan_rows p).lanes (plan_rows p).points (plan_rows p).ends n ≡ (lane_rows p).tangents
  unfolding lane_rows
  tangents_is = tangents_to_law n (omega arith) ∙ ap (rows tangent_row) (take-length p.lanes)

-- THE FRONT of a table after opening: the plan's rows alone
pub record Front {A : Type 0} (k : ℕ) (l xs : List A) : Type 0 where
  pub long : k ≤ length l
  pub is : take k l ≡ xs

front_over : {A : Type 0} (xs old : List A) (k : ℕ) → length xs ≡ k → Front k (over xs old) xs
front_over xs old k e = record { long = let z = length-append xs (drop (length xs) old) in omega arith; is = over_front xs old k e }

module _ (p : Plan) (A : Accepted p) (t : Tables) (k : ℕ) where
  pub lanes_front : k ≡ 6 * length p.lanes → Front k (loaded p t).lanes (plan_rows p).lanes
  unfolding loaded
  lanes_front e = front_over (plan_rows p).lanes t.lanes k (lanes_size p A ∙ sym e)

  pub points_front : k ≡ 3 * sum (map lane_count p.lanes) → Front k (loaded p t).points (plan_rows p).points
  unfolding loaded
  points_front e = front_over (plan_rows p).points t.points k (points_size p A ∙ sym e)

  pub ends_front : k ≡ 6 * length p.lanes → Front k (loaded p t).ends (plan_rows p).ends
  unfolding loaded
  ends_front e = front_over (plan_rows p).ends t.ends k (ends_size_law p A ∙ sym e)

  pub fans_front : k ≡ 5 * length p.lanes → Front k (loaded p t).fans (plan_rows p).fans
  unfolding loaded
  fans_front e = front_over (plan_rows p).fans t.fans k (fans_size p A ∙ sym e)

  pub links_front : k ≡ 2 * length p.links → Front k (loaded p t).links (plan_rows p).links
  unfolding loaded
  links_front e = front_over (plan_rows p).links t.links k (links_all p A ∙ sym e)

  pub sections_front : k ≡ 4 * length p.sections → Front k (loaded p t).sections (plan_rows p).sections
  unfolding loaded
  sections_front e = front_over (plan_rows p).sections t.sections k (sections_size p A ∙ sym e)

  pub bounds_front : k ≡ 2 * length p.sections → Front k (loaded p t).bounds (plan_rows p).bounds
  unfolding loaded
  bounds_front e = front_over (plan_rows p).bounds t.bounds k (bounds_size p A ∙ sym e)

  pub stations_front : k ≡ sum (map section_count p.sections) → Front k (loaded p t).stations (plan_rows p).stations
  unfolding loaded
  stations_front e = front_over (plan_rows p).stations t.stations k (stations_size p A ∙ sym e)

  pub places_front : k ≡ 3 * length p.places → Front k (loaded p t).places (plan_rows p).places
  unfolding loaded
  places_front e = front_over (plan_rows p).places t.places k (places_size p A ∙ sym e)

module _ (p : Plan) (t : LaneTables) (k : ℕ) where
  pub cumulative_front : k ≡ sum (map lane_count p.lanes) → Front k (held p t).cumulative (lane_rows p).cumulative
  unfolding held
  cumulative_front e = front_over (lane_rows p).cumulative t.cumulative k (cumulative_size p ∙ sym e)

  pub tangents_front : k ≡ 3 * sum (map lane_count p.lanes) → Front k (held p t).tangents (lane_rows p).tangents
  unfolding held
  tangents_front e = front_over (lane_rows p).tangents t.tangents k (tangents_size p ∙ sym e)

-- what `build` needs and writes, on tables that start with the plan's rows
module _ (p : Plan) (A : Accepted p) (lanes : List ℕ) (points ends : List Float) (n m : ℕ) (few : n ≡ length p.lanes)
    (L : Front (6 * n) lanes (plan_rows p).lanes) (P : Front (3 * m) points (plan_rows p).points) (E : Front (6 * n) ends (plan_rows p).ends)
  where
    polylines_of : (cs ts : List Float) → 4096 ≤ length cs → 12288 ≤ length ts → Polylines lanes points ends n m cs ts
    polylines_of cs ts long wide =
        let all = before_all p A in
        let size = ends_size_law p A in
        record {
          lanes_there = L.long;
          points_there = P.long;
          ends_there = E.long;
          rows = rw (L.is, P.is, few) (plan_rows_law p A);
          room = rw (L.is, few) (omega (arith, A.limited.points));
          tangent_room = rw (L.is, E.is, few) (record { held = omega arith; room = omega (arith, A.limited.points) });
        }

    cumulative_of_law : cumulative_rows (take (6 * n) lanes) (take (3 * m) points) n ≡ (lane_rows p).cumulative
    cumulative_of_law = rw (L.is, P.is, few) (cumulative_is p A)

    tangents_of_law : tangent_rows (take (6 * n) lanes) (take (3 * m) points) (take (6 * n) ends) n ≡ (lane_rows p).tangents
    tangents_of_law = rw (L.is, P.is, E.is, few) (tangents_is p A)

-- NO REFUSAL has the number 0
never : (n : ℕ) (p : Plan) → accepted p ≡ refused n → ⊥
never n p e = let z : ◌≡◌ {A = ℕ} 0 1 = cc in omega arith

unless : (n m : ℕ) → refused (suc m) ≡ refused n → n ≡ 0 → ⊥
unless n m e z = let q : suc m ≡ 0 = cc in omega arith

stopped_some : (k : ℕ) (more : Bool) (s : List ℕ) (at : ℕ) (a : Starts) (n : ℕ) → walk k more s at a ≡ stopped n → n ≡ 0 → ⊥
unfolding walk
stopped_some zero more s at a n e z = let q : ◌≡◌ {A = ℕ} 0 1 = cc in omega arith
stopped_some (suc k) false s at a n e z = let q : ◌≡◌ {A = ℕ} 0 1 = cc in omega arith
stopped_some (suc k) true s at a n e z = by (record_number s at (counts_of a)) (eqb (record_number s at (counts_of a)) 0) refl _
    (λ q. stopped_some k _ s _ _ n q z) e
  where
    by : (v : ℕ) (b : Bool) → eqb v 0 ≡ b → (rest : Walked) → (rest ≡ stopped n → ⊥) → cond b rest (stopped v) ≡ stopped n → ⊥
    by v true q rest go e = go e
    by v false q rest go e = eqb-false v 0 q (let same : v ≡ n = cc in same ∙ z)

opened_some : (b : Bool) (side : ℕ) (s : List ℕ) (n : ℕ) → opened b side s ≡ refused n → n ≡ 0 → ⊥
unfolding opened decode settled judged walked
opened_some true side s n e z = unless n 0 e z
opened_some false side s n e z = size (ltb 65536 (length s)) (walked s) refl e
  where
    free : (a : Starts) (b c d : Bool)
        → cond b (refused 5) (cond c (refused 7) (cond d (refused 8) (accepted (plan_of s a)))) ≡ refused n → ⊥
    free a true c d e = unless n 4 e z
    free a false true d e = unless n 6 e z
    free a false false true e = unless n 7 e z
    free a false false false e = never n (plan_of s a) e

    size : (b : Bool) (w : Walked) → walked s ≡ w → cond b (refused 2) (settled side s w) ≡ refused n → ⊥
    size true w is e = unless n 1 e z
    size false (stopped v) is e = let same : v ≡ n = cc in stopped_some (length s) _ s 0 _ v is (same ∙ z)
    size false (ended a) is e = free a (ltb 1 side) (twice (plan_of s a)) (lacks (plan_of s a)) e

-- WHAT WAS OPENED, by its number
pub record Plans (d : Decoded) (r : Read) : Type 0 where
  pub plan : Plan
  pub is : d ≡ accepted plan
  pub ok : Accepted plan
  pub counts : r.counts ≡ plan_counts plan

module _ (b : Bool) (side : ℕ) (s : List ℕ) (B : Bytes s) (r : Read) (e : r ≡ read_of (opened b side s)) where
  decoded : (b : Bool) (p : Plan) → opened b side s ≡ accepted p → decode side s ≡ accepted p
  unfolding opened
  decoded true p q = let z : ◌≡◌ {A = ℕ} 0 1 = cc in absurd (omega arith)
  decoded false p q = q

  plan_by : (d : Decoded) → opened b side s ≡ d → r ≡ read_of d → r.number ≡ 0 → Plans (opened b side s) r
  plan_by (refused n) is q z = absurd (opened_some b side s n is (sym (ap (λ (x : Read). x.number) q) ∙ z))
  plan_by (accepted p) is q z =
      record {
        plan = p;
        is = is;
        ok = accepted_plan side s p B (decoded b p is);
        counts = ap (λ (x : Read). x.counts) q;
      }

  pub has_plan : r.number ≡ 0 → Plans (opened b side s) r
  has_plan z = plan_by (opened b side s) refl e z

  none_by : (d : Decoded) → opened b side s ≡ d → r ≡ read_of d → (r.number ≡ 0 → ⊥) → opened b side s ≡ refused r.number
  none_by (refused n) is q z = is ∙ ap refused (sym (ap (λ (x : Read). x.number) q))
  none_by (accepted p) is q z = absurd (z (ap (λ (x : Read). x.number) q))

  pub has_none : (r.number ≡ 0 → ⊥) → opened b side s ≡ refused r.number
  has_none z = none_by (opened b side s) refl e z

-- THE PROMISE
abbrev with : Tables → List Float → List Float → LaneTables
with t cs ts = record { plan = t; cumulative = cs; tangents = ts }

module _ (side : ℕ) (s : List ℕ) (t : Tables) (cs ts : List Float) where
  all_held : (p : Plan) (t' : Tables) (cs' ts' : List Float) → t' ≡ loaded p t → cs' ≡ over (lane_rows p).cumulative cs
      → ts' ≡ over (lane_rows p).tangents ts → with t' cs' ts' ≡ held p (with t cs ts)
  unfolding held
  all_held p t' cs' ts' a b c = rw (a, b, c)

  opens_by : {d e : Decoded} {r : Read} {x : LaneTables} → d ≡ e → r ≡ read_of e → x ≡ tables_after e (with t cs ts) → Opens d r (with t cs ts) x
  opens_by same a b = rw same (record { read = a; tables = b })

  pub opens_one : length cs < 4096 → (r : Read) → r ≡ read_of (refused 1)
      → Opens (opened (too_short (with t cs ts)) side s) r (with t cs ts) (with t cs ts)
  unfolding opened too_short
  opens_one h r q = rw (lt-ltb (length cs) 4096 h) (record { read = q; tables = refl })

  module _ (long : 4096 ≤ length cs) where
    pub opens_two : length ts < 12288 → (r : Read) → r ≡ read_of (refused 1)
        → Opens (opened (too_short (with t cs ts)) side s) r (with t cs ts) (with t cs ts)
    unfolding opened too_short
    opens_two h r q = rw (le-ltb (length cs) 4096 long, lt-ltb (length ts) 12288 h) (record { read = q; tables = refl })

    module _ (wide : 12288 ≤ length ts) (B : Bytes s) (r : Read) (t' : Tables) (R : Answers (opened (short t) side s) r t t') where
      same_opened : opened (too_short (with t cs ts)) side s ≡ opened (short t) side s
      unfolding too_short
      same_opened = rw (le-ltb (length cs) 4096 long, le-ltb (length ts) 12288 wide)

      pub opens_refused : (r.number ≡ 0 → ⊥) → Opens (opened (too_short (with t cs ts)) side s) r (with t cs ts) (with t' cs ts)
      opens_refused z =
          let d = has_none (short t) side s B r R.read z in
          let same : t' ≡ t = R.tables ∙ ap (λ (x : Decoded). tables_of x t) d in
          opens_by (same_opened ∙ d) (R.read ∙ ap read_of d) (ap (λ (x : Tables). with x cs ts) same)

      module _ (z : r.number ≡ 0) where
        P : Plans (opened (short t) side s) r
        P = has_plan (short t) side s B r R.read z

        abbrev p : Plan
        p = P.plan

        now_loaded : t' ≡ loaded p t
        now_loaded = R.tables ∙ ap (λ (x : Decoded). tables_of x t) P.is

        few : r.counts.lanes ≡ length p.lanes
        few = ap (λ (x : Counts). x.lanes) P.counts

        lanes_read : Front (6 * r.counts.lanes) t'.lanes (plan_rows p).lanes
        lanes_read =
            subst (λ (x : Tables). Front (6 * r.counts.lanes) x.lanes (plan_rows p).lanes) (sym now_loaded)
            (lanes_front p P.ok t _ (ap (λ (x : Counts). 6 * x.lanes) P.counts))

        points_read : Front (3 * r.counts.points) t'.points (plan_rows p).points
        points_read =
            subst (λ (x : Tables). Front (3 * r.counts.points) x.points (plan_rows p).points) (sym now_loaded)
            (points_front p P.ok t _ (ap (λ (x : Counts). 3 * x.points) P.counts))

        ends_read : Front (6 * r.counts.lanes) t'.ends (plan_rows p).ends
        ends_read =
            subst (λ (x : Tables). Front (6 * r.counts.lanes) x.ends (plan_rows p).ends) (sym now_loaded)
            (ends_front p P.ok t _ (ap (λ (x : Counts). 6 * x.lanes) P.counts))

        pub polylines : Polylines t'.lanes t'.points t'.ends r.counts.lanes r.counts.points cs ts
        polylines = polylines_of p P.ok _ _ _ _ _ few lanes_read points_read ends_read cs ts long wide

        pub opens_accepted : (cs' ts' : List Float)
            → (cs' ≡ over (cumulative_rows (take (6 * r.counts.lanes) t'.lanes) (take (3 * r.counts.points) t'.points) r.counts.lanes)
            cs)
            × (ts'
            ≡ over (tangent_rows (take (6 * r.counts.lanes) t'.lanes) (take (3 * r.counts.points) t'.points)
            (take (6 * r.counts.lanes) t'.ends) r.counts.lanes)
            ts)
            → Opens (opened (too_short (with t cs ts)) side s) r (with t cs ts) (with t' cs' ts')
        opens_accepted cs' ts' w =
            let cs-are = w.0 ∙ ap (λ (x : List Float). over x cs)
            (cumulative_of_law p P.ok _ _ _ _ _ few lanes_read points_read ends_read) in
            let ts-are = w.1 ∙ ap (λ (x : List Float). over x ts)
            (tangents_of_law p P.ok _ _ _ _ _ few lanes_read points_read ends_read) in
            opens_by (same_opened ∙ P.is) (R.read ∙ ap read_of P.is) (all_held p t' cs' ts' now_loaded cs-are ts-are)

-- WHAT A CALLER FINDS in the tables of an accepted file: the front of each is the plan's rows
module _ (side : ℕ) (s : List ℕ) (B : Bytes s) (r : Read) (t t' : LaneTables) (O : Opens (opened (too_short t) side s) r t t')
    (z : r.number ≡ 0) where
  pub found : Plans (opened (too_short t) side s) r
  found = has_plan (too_short t) side s B r O.read z

  abbrev plan : Plan
  plan = found.plan

  pub found_held : t' ≡ held plan t
  found_held = O.tables ∙ ap (λ (d : Decoded). tables_after d t) found.is

  module _ (c : Counts) (e : c ≡ r.counts) where
    counts_are : c ≡ plan_counts plan
    counts_are = e ∙ found.counts

    now_nine : t'.plan ≡ loaded plan t.plan
    unfolding held
    now_nine = ap (λ (x : LaneTables). x.plan) found_held

    pub lanes_now : Front (6 * c.lanes) t'.plan.lanes (plan_rows plan).lanes
    lanes_now =
        subst (λ (x : Tables). Front (6 * c.lanes) x.lanes (plan_rows plan).lanes) (sym now_nine)
        (lanes_front plan found.ok t.plan _ (ap (λ (x : Counts). 6 * x.lanes) counts_are))

    pub points_now : Front (3 * c.points) t'.plan.points (plan_rows plan).points
    points_now =
        subst (λ (x : Tables). Front (3 * c.points) x.points (plan_rows plan).points) (sym now_nine)
        (points_front plan found.ok t.plan _ (ap (λ (x : Counts). 3 * x.points) counts_are))

    pub fans_now : Front (5 * c.lanes) t'.plan.fans (plan_rows plan).fans
    fans_now =
        subst (λ (x : Tables). Front (5 * c.lanes) x.fans (plan_rows plan).fans) (sym now_nine)
        (fans_front plan found.ok t.plan _ (ap (λ (x : Counts). 5 * x.lanes) counts_are))

    pub links_now : Front (2 * c.links) t'.plan.links (plan_rows plan).links
    links_now =
        subst (λ (x : Tables). Front (2 * c.links) x.links (plan_rows plan).links) (sym now_nine)
        (links_front plan found.ok t.plan _ (ap (λ (x : Counts). 2 * x.links) counts_are))

    pub sections_now : Front (4 * c.sections) t'.plan.sections (plan_rows plan).sections
    sections_now =
        subst (λ (x : Tables). Front (4 * c.sections) x.sections (plan_rows plan).sections) (sym now_nine)
        (sections_front plan found.ok t.plan _ (ap (λ (x : Counts). 4 * x.sections) counts_are))

    pub bounds_now : Front (2 * c.sections) t'.plan.bounds (plan_rows plan).bounds
    bounds_now =
        subst (λ (x : Tables). Front (2 * c.sections) x.bounds (plan_rows plan).bounds) (sym now_nine)
        (bounds_front plan found.ok t.plan _ (ap (λ (x : Counts). 2 * x.sections) counts_are))

    pub stations_now : Front c.stations t'.plan.stations (plan_rows plan).stations
    stations_now =
        subst (λ (x : Tables). Front c.stations x.stations (plan_rows plan).stations) (sym now_nine)
        (stations_front plan found.ok t.plan _ (ap (λ (x : Counts). x.stations) counts_are))

    pub places_now : Front (3 * c.places) t'.plan.places (plan_rows plan).places
    places_now =
        subst (λ (x : Tables). Front (3 * c.places) x.places (plan_rows plan).places) (sym now_nine)
        (places_front plan found.ok t.plan _ (ap (λ (x : Counts). 3 * x.places) counts_are))

    pub cumulative_now : Front c.points t'.cumulative (lane_rows plan).cumulative
    cumulative_now =
        subst (λ (x : LaneTables). Front c.points x.cumulative (lane_rows plan).cumulative) (sym found_held)
        (cumulative_front plan t _ (ap (λ (x : Counts). x.points) counts_are))

    pub tangents_now : Front (3 * c.points) t'.tangents (lane_rows plan).tangents
    tangents_now =
        subst (λ (x : LaneTables). Front (3 * c.points) x.tangents (lane_rows plan).tangents) (sym found_held)
        (tangents_front plan t _ (ap (λ (x : Counts). 3 * x.points) counts_are))
