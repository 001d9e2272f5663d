-- What a pass over a path's samples gives that stops once more than `room` points are kept, and laws of its loops.
use Rattle.std.specs.Prelude.{Bool, cond, false, true, ◌||◌, ◌≡◌, eqb, ltb, get_or, length}
use Rattle.std.specs.List.{list_any, range_with_len}
use mathlib.Core.List.{List, [], append_assoc, ◌++◌, ◌∷◌}
use Rattle.std.proofs.Math.Path.{ap, ap₂, refl, subst, sym}
use Rattle.std.proofs.Common.{◌∙◌, not-suc-le-zero, add-one, lt-ltb, drop_of_length-le, length-append, length-drop, length-set}
use Prim.Native.Nat.{suc, zero, ℕ, ◌*◌, ◌+◌, ◌-◌, ◌/◌, ◌<◌, ◌≤◌}
use native.Mathlib.Omega.{arith}
use Rattle.std.specs.Float.Ieee.{Float, binary32, lt, sub}
use Rattle.std.proofs.Math.ListN.{drop}
use Rattle.std.proofs.Math.Seq.{drop-append-add, drop-cons}
use Rattle.coords.specs.Coords.{distance_squared_to}
use Rattle.coords.specs.declared.Point.{Point}
use Rattle.float.specs.Sign.{abs_of}
use Rattle.geometry.specs.Locate.{micro, point_along}
use Rattle.geometry.specs.Over.{over, over_three}
use Rattle.rows.specs.Rows.{first_neighbour, leads_to, neighbours}
use Rattle.sampling.specs.Kept.{first_of, flat, is_fresh, kept_of, laid, pushed, pushing, put_at, putting, with_point}
use Rattle.sampling.specs.Sampling.{RouteTables, entry_after, entry_first, exit_at, exit_for, leads, point_in}
use Rattle.sampling.specs.Sampling.{sample_at, sample_from, sample_lanes, sample_route, sample_segment, sample_span}
use Rattle.sampling.specs.Sampling.{steps_of, tiny}
use Rattle.sampling.specs.declared.Kept.{Kept}

-- ---- what the tables must hold

-- the links of lane i
pub record Linking (fans links : List ℕ) (i : ℕ) : Type 0 where
  pub fan : 5 * i + 4 < length fans
  pub rows : 2 * (first_neighbour fans i + neighbours fans i) ≤ length links

abbrev pub AllLinked : List ℕ → ℕ → List ℕ → Type 0
AllLinked fans n links = (i : ℕ) → i < n → Linking fans links i

-- a path of one or more of n lanes, as long as the search gives one at most
pub record PathRows (path : List ℕ) (n : ℕ) : Type 0 where
  pub some : 0 < length path
  pub few : length path ≤ 257
  pub each : (k : ℕ) → k < length path → get_or path k 0 < n

-- ---- what a pass gives: the points up to the first past the room

pub record Sampled (room : ℕ) (all : List Point) (old : List Float) (r : Kept) (out : List Float) : Type 0 where
  pub kept : r ≡ kept_of (first_of (room + 1) all)
  pub written : out ≡ laid (first_of (room + 1) all) old

-- after points that are kept and written
abbrev pub SegmentSampled : List Float → List Float → Float → Float → ℕ → Kept → List Float → Kept → List Float → Type 0
SegmentSampled ps cs entry exit room kept out r out' =
    (qs : List Point) (old : List Float) → kept ≡ kept_of qs → out ≡ laid qs old
    → Sampled room (sample_segment (point_along ps cs) entry exit qs) old r out'

pub sampled_as : (room : ℕ) (all all' : List Point) (old : List Float) (r : Kept) (out : List Float) → all ≡ all'
    → Sampled room all old r out → Sampled room all' old r out
sampled_as room all all' old r out e S = subst (λ (a : List Point). Sampled room a old r out) e S

-- ---- the first points

-- no more than n
pub first_all : (n : ℕ) (ps : List Point) → length ps ≤ n → first_of n ps ≡ ps
unfolding first_of
first_all n ps h = let z : length ps - n ≡ 0 = omega arith in ap (λ (k : ℕ). drop k ps) z

pub length_first : (n : ℕ) (ps : List Point) → length (first_of n ps) ≡ length ps - (length ps - n)
unfolding first_of
length_first n ps = length-drop (length ps - n) ps

-- the points are qs, and then more
record Front (qs all : List Point) : Type 0 where
  more : List Point
  split : all ≡ more ++ qs

-- the first n of qs are the first n of all
first_front : (n : ℕ) (qs all : List Point) → Front qs all → n ≤ length qs → first_of n all ≡ first_of n qs
unfolding first_of
first_front n qs all F h =
    let l = length-append F.more qs in
    let e : length (F.more ++ qs) - n ≡ length F.more + (length qs - n) = omega arith in
    ap (λ (ps : List Point). drop (length ps - n) ps) F.split
    ∙ ap (λ (k : ℕ). drop k (F.more ++ qs)) e
    ∙ drop-append-add F.more qs (length qs - n)

front_on : (ps qs all : List Point) → Front ps qs → Front qs all → Front ps all
front_on ps qs all F G =
    record {
      more = G.more ++ F.more;
      split = G.split ∙ ap (λ (rs : List Point). G.more ++ rs) F.split ∙ sym (append_assoc G.more F.more ps);
    }

-- the points qs, which a pass has kept and written: all of them, or one more than there is room for
module _ (room : ℕ) (qs all : List Point) (old : List Float) (r : Kept) (out : List Float) (k : r ≡ kept_of qs) (w : out ≡ laid qs old)
    (few : length qs ≤ room + 1) where
  sampled_by : first_of (room + 1) all ≡ qs → Sampled room all old r out
  sampled_by e = record { kept = k ∙ ap kept_of (sym e); written = w ∙ ap (λ (ps : List Point). laid ps old) (sym e) }

  sampled_all : qs ≡ all → Sampled room all old r out
  sampled_all e = sampled_by (ap (first_of (room + 1)) (sym e) ∙ first_all (room + 1) qs few)

  sampled_front : Front qs all → room < length qs → Sampled room all old r out
  sampled_front F h = sampled_by (first_front (room + 1) qs all F (omega arith) ∙ first_all (room + 1) qs few)

-- ---- `push_dedup`

length_put : (out : List Float) (i : ℕ) (p : Point) → length (put_at out i p) ≡ length out
length_put out i p = go (ltb i (length out / 3))
  where
    go : (b : Bool) → length (cond b (with_point out i p) out) ≡ length out
    go true = simp length-set
    go false = refl

pub length_laid : (ps : List Point) (out : List Float) → length (laid ps out) ≡ length out
unfolding laid
length_laid [] out = refl
length_laid (p ∷ ps) out = length_put (laid ps out) (length ps) p ∙ length_laid ps out

fresh_after : (q : Point) (qs : List Point) (p : Point) → is_fresh (kept_of (q ∷ qs)) p ≡ lt micro (distance_squared_to q p)
unfolding is_fresh
fresh_after q qs p = ap (λ (b : Bool). cond b (lt micro (distance_squared_to q p)) true) (lt-ltb 0 (length (q ∷ qs)) (omega arith))

fresh_first : (p : Point) → is_fresh (kept_of []) p ≡ true
unfolding is_fresh
fresh_first p = refl

pub length_putting : (k : Kept) (p : Point) (out : List Float) → length (putting k p out) ≡ length out
length_putting k p out = go (is_fresh k p)
  where
    go : (b : Bool) → length (cond b (put_at out k.count p) out) ≡ length out
    go true = length_put out k.count p
    go false = refl

pub length_flat : (ps : List Point) → length (flat ps) ≡ 3 * length ps
unfolding flat
length_flat [] = refl
length_flat (p ∷ ps) = simp length-append (omega (arith, length_flat ps))

-- points that fit stand at the front, and the list goes on as before
pub laid_flat : (ps : List Point) (out : List Float) → 3 * length ps ≤ length out → laid ps out ≡ over (flat ps) out
unfolding laid flat
laid_flat [] out h = refl
laid_flat (p ∷ ps) out h =
    let n = length_laid ps out in
    let fits : ltb (length ps) (length (laid ps out) / 3) ≡ true = lt-ltb (length ps) (length (laid ps out) / 3) (omega arith) in
    ap (λ (b : Bool). cond b (with_point (laid ps out) (length ps) p) (laid ps out)) fits
    ∙ ap (λ (o : List Float). with_point o (length ps) p) (laid_flat ps out (omega arith))
    ∙ over_three (flat ps) out (3 * length ps) p.x p.y p.z (length_flat ps) (omega arith)

pushed_kept : (qs : List Point) (p : Point) → pushing (kept_of qs) p ≡ kept_of (pushed qs p)
unfolding pushed
pushed_kept [] p = ap (λ (b : Bool). cond b (record { count = 1; last = p }) (kept_of [])) (fresh_first p)
pushed_kept (q ∷ qs) p =
    ap (λ (b : Bool). cond b (record { count = length (q ∷ qs) + 1; last = p }) (kept_of (q ∷ qs))) (fresh_after q qs p)
    ∙ go (lt micro (distance_squared_to q p))
  where
    go : (b : Bool) → cond b (record { count = length (q ∷ qs) + 1; last = p }) (kept_of (q ∷ qs)) ≡ kept_of (cond b (p ∷ q ∷ qs) (q ∷ qs))
    go true = ap (λ (n : ℕ). record { count = n; last = p }) (add-one (length (q ∷ qs)))
    go false = refl

pushed_laid : (qs : List Point) (p : Point) (old : List Float) → putting (kept_of qs) p (laid qs old) ≡ laid (pushed qs p) old
unfolding pushed laid
pushed_laid [] p old = ap (λ (b : Bool). cond b (put_at old 0 p) old) (fresh_first p)
pushed_laid (q ∷ qs) p old =
    ap (λ (b : Bool). cond b (put_at (laid (q ∷ qs) old) (length (q ∷ qs)) p) (laid (q ∷ qs) old)) (fresh_after q qs p)
    ∙ go (lt micro (distance_squared_to q p))
  where
    go : (b : Bool) → cond b (put_at (laid (q ∷ qs) old) (length (q ∷ qs)) p) (laid (q ∷ qs) old) ≡ laid (cond b (p ∷ q ∷ qs) (q ∷ qs)) old
    go true = refl
    go false = refl

-- ---- `sample_segment`

-- a point is added, or none
pushed_front : (qs : List Point) (p : Point) → Front qs (pushed qs p)
unfolding pushed
pushed_front [] p = record { more = p ∷ []; split = refl }
pushed_front (q ∷ qs) p = go (lt micro (distance_squared_to q p))
  where
    go : (b : Bool) → Front (q ∷ qs) (cond b (p ∷ q ∷ qs) (q ∷ qs))
    go true = record { more = p ∷ []; split = refl }
    go false = record { more = []; split = refl }

pushed_few : (qs : List Point) (p : Point) → length (pushed qs p) ≤ length qs + 1
unfolding pushed
pushed_few [] p = omega arith
pushed_few (q ∷ qs) p = go (lt micro (distance_squared_to q p))
  where
    go : (b : Bool) → length (cond b (p ∷ q ∷ qs) (q ∷ qs)) ≤ length (q ∷ qs) + 1
    go true = omega arith
    go false = omega arith

module _ (point : Float → Point) (entry span : Float) (steps : ℕ) where
  from_front : (n k : ℕ) (qs : List Point) → Front qs (sample_from point entry span steps n k qs)
  unfolding sample_from
  from_front zero k qs = record { more = []; split = refl }
  from_front (suc n) k qs =
      let p = point (sample_at entry span steps k) in
      front_on qs (pushed qs p) _ (pushed_front qs p) (from_front n (k + 1) (pushed qs p))

  from_next : (n k : ℕ) (qs : List Point)
      → sample_from point entry span steps (suc n) k qs
      ≡ sample_from point entry span steps n (k + 1) (pushed qs (point (sample_at entry span steps k)))
  unfolding sample_from
  from_next n k qs = refl

-- where the loop stands before sample k: the points so far, of which the samples left make all
pub record Sampling (point : Float → Point) (entry span : Float) (steps k : ℕ) (all : List Point) (old : List Float) (r : Kept)
    (out : List Float) : Type 0 where
  pub points : List Point
  pub kept : r ≡ kept_of points
  pub written : out ≡ laid points old
  pub rest : sample_from point entry span steps (steps + 1 - k) k points ≡ all

module _ (point : Float → Point) (entry span : Float) (steps k : ℕ) (all : List Point) (old : List Float) (r : Kept) (out : List Float)
    (r' : Kept) (out' : List Float) (S : Sampling point entry span steps k all old r out)
    (e : r' ≡ pushing r (point (sample_at entry span steps k))) (f : out' ≡ putting r (point (sample_at entry span steps k)) out) where
  p : Point
  p = point (sample_at entry span steps k)

  kept_next : r' ≡ kept_of (pushed S.points p)
  unfolding p
  kept_next = e ∙ ap (λ (q : Kept). pushing q p) S.kept ∙ pushed_kept S.points p

  written_next : out' ≡ laid (pushed S.points p) old
  unfolding p
  written_next =
      f ∙ ap₂ (λ (q : Kept) (o : List Float). putting q p o) S.kept S.written ∙ pushed_laid S.points p old

  rest_next : k ≤ steps → sample_from point entry span steps (steps + 1 - (k + 1)) (k + 1) (pushed S.points p) ≡ all
  unfolding p
  rest_next h =
      let n : steps + 1 - k ≡ suc (steps + 1 - (k + 1)) = omega arith in
      sym (from_next point entry span steps (steps + 1 - (k + 1)) k S.points) ∙ (rw n at S.rest)

  -- one more sample
  pub sampling_next : k ≤ steps → Sampling point entry span steps (k + 1) all old r' out'
  unfolding p
  sampling_next h =
      record { points = pushed S.points p; kept = kept_next; written = written_next; rest = rest_next h }

  -- one more than there is room for
  pub sampling_stops : (room : ℕ) → k ≤ steps → r.count ≤ room → room < r'.count → Sampled room all old r' out'
  unfolding p
  sampling_stops room m few h =
      let c = ap (λ (q : Kept). q.count) S.kept in
      let n = ap (λ (q : Kept). q.count) kept_next in
      let l = pushed_few S.points p in
      let front = from_front point entry span steps (steps + 1 - (k + 1)) (k + 1) _ in
      let F = subst (λ (ps : List Point). Front (pushed S.points p) ps) (rest_next m) front in
      sampled_front room (pushed S.points p) all old r' out' kept_next written_next (omega arith) F (omega arith)

-- no sample is left
pub sampling_ends : (point : Float → Point) (entry span : Float) (steps k : ℕ) (all : List Point) (old : List Float) (r : Kept)
    (out : List Float) → Sampling point entry span steps k all old r out → steps < k → (room : ℕ) → r.count ≤ room → Sampled room all old r out
unfolding sample_from
sampling_ends point entry span steps k all old r out S h room few =
    let n : steps + 1 - k ≡ 0 = omega arith in
    let c = ap (λ (q : Kept). q.count) S.kept in
    sampled_all room S.points all old r out S.kept S.written (omega arith) (rw n at S.rest)

-- what the test of the span decides; a is its size
module _ (point : Float → Point) (entry exit a : Float) (e : a ≡ abs_of (sub binary32 exit entry)) (qs : List Point) where
  pub segment_samples : (steps : ℕ) → lt a tiny ≡ false → steps ≡ steps_of (sub binary32 exit entry)
      → sample_from point entry (sub binary32 exit entry) steps (steps + 1) 0 qs ≡ sample_segment point entry exit qs
  unfolding sample_span
  segment_samples steps t f =
      ap (λ (n : ℕ). sample_from point entry (sub binary32 exit entry) n (n + 1) 0 qs) f
      ∙ ap (λ (b : Bool). sample_span b point entry (sub binary32 exit entry) qs) (sym t ∙ ap (λ (x : Float). lt x tiny) e)

  -- a point alone
  pub segment_point : (room : ℕ) (p : Point) (old : List Float) (kept r : Kept) (out out' : List Float) → lt a tiny ≡ true → p ≡ point entry
      → kept ≡ kept_of qs → out ≡ laid qs old → r ≡ pushing kept p → out' ≡ putting kept p out → kept.count ≤ room
      → Sampled room (sample_segment point entry exit qs) old r out'
  unfolding sample_span
  segment_point room p old kept r out out' t g k w f h few =
      let c = ap (λ (q : Kept). q.count) k in
      let l = pushed_few qs p in
      sampled_all room (pushed qs p) _ old r out' (f ∙ ap (λ (q : Kept). pushing q p) k ∙ pushed_kept qs p)
      (h ∙ ap₂ (λ (q : Kept) (o : List Float). putting q p o) k w ∙ pushed_laid qs p old) (omega arith)
      (ap (pushed qs) g ∙ ap (λ (b : Bool). sample_span b point entry (sub binary32 exit entry) qs) (sym t ∙ ap (λ (x : Float). lt x tiny) e))

-- ---- `leads`

-- whether any of n rows from `first` on leads to the lane
pub leads_any : (links : List ℕ) (lane n first : ℕ)
    → list_any (λ at. eqb (leads_to links at) lane) (range_with_len first n) ≡ leads links first n lane
unfolding leads
leads_any links lane zero first = refl
leads_any links lane (suc n) first = ap (λ (b : Bool). eqb (leads_to links first) lane || b) (leads_any links lane n (first + 1))

-- ---- `sample_route`

segment_front : (point : Float → Point) (entry exit : Float) (qs : List Point) → Front qs (sample_segment point entry exit qs)
unfolding sample_span
segment_front point entry exit qs = go (lt (abs_of span) tiny)
  where
    span : Float
    span = sub binary32 exit entry

    go : (b : Bool) → Front qs (sample_span b point entry span qs)
    go true = pushed_front qs (point entry)
    go false = from_front point entry span (steps_of span) (steps_of span + 1) 0 qs

module _ (T : RouteTables) (goalS : Float) where
  lanes_front : (rest : List ℕ) (i : ℕ) (entry : Float) (qs : List Point) → Front qs (sample_lanes T goalS i entry rest qs)
  unfolding sample_lanes
  lanes_front [] i entry qs = segment_front (point_in T i) entry (exit_at T.lanes T.cumulative i entry goalS) qs
  lanes_front (next ∷ rest) i entry qs =
      let exit = exit_for T i next entry in
      front_on qs (sample_segment (point_in T i) entry exit qs) _ (segment_front (point_in T i) entry exit qs)
      (lanes_front rest next (entry_after T i exit next) (sample_segment (point_in T i) entry exit qs))

  -- where the loop stands before lane k of the path, on lane i, which is entered at `entry`: the points so far, of which the lanes left make all
  pub record Routing (path : List ℕ) (n : ℕ) (all : List Point) (old : List Float) (room k i : ℕ) (entry : Float) (r : Kept)
      (out : List Float) : Type 0 where
    pub points : List Point
    pub kept : r ≡ kept_of points
    pub written : out ≡ laid points old
    pub few : r.count ≤ room
    pub lane : i < n
    pub rest : sample_lanes T goalS i entry (drop k path) points ≡ all

  pub routing_starts : (path : List ℕ) (n : ℕ) (startS entry : Float) (old : List Float) (room : ℕ) → PathRows path n
      → entry ≡ entry_first T (get_or path 0 0) startS
      → Routing path n (sample_route T path startS goalS) old room 1 (get_or path 0 0) entry (kept_of []) old
  unfolding sample_route laid
  routing_starts [] n startS entry old room P e = absurd (not-suc-le-zero P.some)
  routing_starts (i ∷ rest) n startS entry old room P e =
      record {
        points = [];
        kept = refl;
        written = refl;
        few = omega arith;
        lane = P.each 0 P.some;
        rest = ap (λ (s : Float). sample_lanes T goalS i s rest []) e;
      }

  module _ (path : List ℕ) (n : ℕ) (all : List Point) (old : List Float) (room k i : ℕ) (entry : Float) (r : Kept) (out : List Float)
      (R : Routing path n all old room k i entry r out) (exit : Float) (r' : Kept) (out' : List Float)
      (S : Sampled room (sample_segment (point_in T i) entry exit R.points) old r' out') where
    abbrev segment : List Point
    segment = sample_segment (point_in T i) entry exit R.points

    -- over to the lane `next`
    module _ (next : ℕ) (h : k < length path) (e : next ≡ get_or path k 0) (f : exit ≡ exit_for T i next entry) where
      onward : sample_lanes T goalS next (entry_after T i exit next) (drop (k + 1) path) segment ≡ all
      unfolding sample_lanes
      onward =
          let Q : Float → List ℕ → List Point = λ (x : Float) (rest : List ℕ).
          sample_lanes T goalS next (entry_after T i x next) rest (sample_segment (point_in T i) entry x R.points) in
          let split : drop k path ≡ next ∷ drop (k + 1) path = drop-cons path k 0 h ∙ ap₂ (λ (x m : ℕ). x ∷ drop m path) (sym e) (sym (add-one k)) in
          ap (λ (x : Float). Q x (drop (k + 1) path)) f
          ∙ ap (λ (l : List ℕ). sample_lanes T goalS i entry l R.points) (sym split)
          ∙ R.rest

      -- how many points of the lane are kept
      count : r'.count ≡ length segment - (length segment - (room + 1))
      count = ap (λ (q : Kept). q.count) S.kept ∙ length_first (room + 1) segment

      pub routing_next : PathRows path n → (entry' : Float) → r'.count ≤ room → entry' ≡ entry_after T i exit next
          → Routing path n all old room (k + 1) next entry' r' out'
      routing_next P entry' few g =
          let c = count in
          let whole = first_all (room + 1) segment (omega arith) in
          record {
            points = segment;
            kept = S.kept ∙ ap kept_of whole;
            written = S.written ∙ ap (λ (ps : List Point). laid ps old) whole;
            few = few;
            lane = subst (λ (x : ℕ). x < n) (sym e) (P.each k h);
            rest = ap (λ (s : Float). sample_lanes T goalS next s (drop (k + 1) path) segment) g ∙ onward;
          }

      pub routing_stops : room < r'.count → Sampled room all old r' out'
      routing_stops o =
          let c = count in
          let F = subst (λ (ps : List Point). Front segment ps) onward (lanes_front (drop (k + 1) path) next (entry_after T i exit next) segment) in
          let first = first_front (room + 1) segment all F (omega arith) in
          record { kept = S.kept ∙ ap kept_of (sym first); written = S.written ∙ ap (λ (ps : List Point). laid ps old) (sym first) }

    -- the last lane
    pub routing_ends : length path ≤ k → exit ≡ exit_at T.lanes T.cumulative i entry goalS → Sampled room all old r' out'
    unfolding sample_lanes
    routing_ends h f =
        sampled_as room (sample_segment (point_in T i) entry exit R.points) all old r' out'
        (ap (λ (x : Float). sample_segment (point_in T i) entry x R.points) f
        ∙ ap (λ (l : List ℕ). sample_lanes T goalS i entry l R.points) (sym (drop_of_length-le path h))
        ∙ R.rest) S
