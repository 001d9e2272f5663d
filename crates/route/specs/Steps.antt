-- Laws of the route query's steps: the lengths, the count, the lists.
use Rattle.std.specs.Prelude.{Bool, true, ◌&&◌, List, [], map, ◌++◌, ◌∷◌, refl, ◌≡◌, suc, zero, ℕ, ◌*◌, ◌+◌, ◌/◌, ◌<◌, ◌≤◌, Float, get_or, set, take}
use Rattle.std.specs.Prelude.{Option, None, Some, slice_index_or}
use Rattle.std.proofs.Math.Bool.{cond, false}
use Rattle.std.proofs.Common.{subst, sym, ◌∙◌, add-one, length-append, length-take-le, take-suc}
use Rattle.std.proofs.lemmas.List.{map-append}
use Rattle.std.proofs.Math.Path.{ap, ap₂}
use native.Mathlib.Omega.{arith}
use borrow.Author.Tests.{le-leb, lt-leb}
use Rattle.std.proofs.Math.Dec.{leb}
use Rattle.std.proofs.Math.ListN.{length, length-map}
use Rattle.coords.specs.Coords.{finite_point}
use Rattle.coords.specs.declared.Point.{Point}
use Rattle.geometry.specs.Over.{over, over_next}
use Rattle.nearest.specs.Answer.{row_below}
use Rattle.network.specs.Lanes.{Lane, drives_table}
use Rattle.network.specs.Nearest.{nearest_lane}
use Rattle.network.specs.Tables.{lanes_from, told}
use Rattle.network.specs.declared.Nearest.{Nearest}
use Rattle.rows.specs.Rows.{lane_number, length_of}
use Rattle.sampling.specs.Kept.{first_of, flat, laid}
use Rattle.sampling.specs.Passes.{Sampled, first_all, laid_flat, length_first, length_flat}
use Rattle.sampling.specs.Sampling.{RouteTables, sample_route}
use Rattle.sampling.specs.declared.Kept.{Kept}
use Rattle.search.specs.Search.{Result, found, refused}
use Rattle.route.specs.Route.{Routed, Routes, answer_of, between, fitted, followed, graph_of, lengths_to, path_of}
use Rattle.route.specs.Route.{refusal, routed}
use Rattle.route.specs.declared.RouteAnswer.{RouteAnswer}

-- ---- what the rows must be

-- the row that is nearest is one of n lanes
abbrev pub RowIn : ℕ → Option Nearest → Type 0
RowIn n None = Unit
RowIn n (Some b) = b.row < n

-- ---- the lengths

pub length_lengths : (lanes : List ℕ) (cumulative : List Float) (n : ℕ) → length (lengths_to lanes cumulative n) ≡ n
unfolding lengths_to
length_lengths lanes cumulative zero = refl
length_lengths lanes cumulative (suc k) =
    length-append (lengths_to lanes cumulative k) (length_of lanes cumulative k ∷ [])
    ∙ ap (λ (m : ℕ). m + 1) (length_lengths lanes cumulative k) ∙ add-one k

pub lengths_next : (lanes : List ℕ) (cumulative : List Float) (k : ℕ)
    → lengths_to lanes cumulative (k + 1) ≡ lengths_to lanes cumulative k ++ (length_of lanes cumulative k ∷ [])
unfolding lengths_to
lengths_next lanes cumulative k = rw add-one

-- ---- the count of the points

-- r is how many of all the points are counted: they fit, or there are more than there is room for
module _ (room : ℕ) (all : List Point) (r : ℕ) (c : r ≡ length (first_of (room + 1) all)) where
  pub count_fits : r ≤ room → r ≡ length all
  count_fits h = let l = length_first (room + 1) all in omega arith

  pub count_over : room < r → room < length all
  count_over h = let l = length_first (room + 1) all in omega arith

-- points that fit are all written
pub all_written : (all : List Point) (old : List Float) (r : Kept) (out : List Float) → Sampled (length old / 3) all old r out
    → 3 * length all ≤ length old → out ≡ over (flat all) old
all_written all old r out S h =
    S.written ∙ ap (λ (ps : List Point). laid ps old) (first_all (length old / 3 + 1) all (omega arith)) ∙ laid_flat all old h

-- ---- the chain of numbers

pub chain_next : (lanes path old out : List ℕ) (k : ℕ) → k < length path → k < length old
    → out ≡ over (map (lane_number lanes) (take k path)) old
    → set out k (lane_number lanes (get_or path k 0)) ≡ over (map (lane_number lanes) (take (k + 1) path)) old
chain_next lanes path old out k h l e =
    let number = lane_number lanes in
    let n : length (map number (take k path)) ≡ k = length-map (take k path) number ∙ length-take-le k path (omega arith) in
    let more : map number (take (k + 1) path) ≡ map number (take k path) ++ (number (get_or path k 0) ∷ [])
    = ap (λ (m : ℕ). map number (take m path)) (add-one k) ∙ ap (map number) (take-suc path k 0 h)
    ∙ map-append number (take k path) (get_or path k 0 ∷ []) in
    ap (λ (o : List ℕ). set o k (number (get_or path k 0))) e
    ∙ over_next (map number (take k path)) old k (number (get_or path k 0)) n l
    ∙ ap (λ (xs : List ℕ). over xs old) (sym more)

-- ---- the answer

-- a refusal: the lists are as before
pub refuses : (n : ℕ) (r : RouteAnswer) (chain : List ℕ) (waypoints : List Float) → r ≡ answer_of (refusal n)
    → Routes (refusal n) r chain chain waypoints waypoints
refuses n r chain waypoints e = record { answer_is = e; chain_is = refl; waypoints_is = refl }

pub routes_as : (R R' : Routed) (r : RouteAnswer) (chain chain' : List ℕ) (waypoints waypoints' : List Float) → R ≡ R'
    → Routes R r chain chain' waypoints waypoints' → Routes R' r chain chain' waypoints waypoints'
routes_as R R' r chain chain' waypoints waypoints' e P = subst (λ (Q : Routed). Routes Q r chain chain' waypoints waypoints') e P

-- a refusal fits everywhere
pub refusal_fits : (chainRoom waypointRoom n : ℕ) → refusal n ≡ fitted chainRoom waypointRoom (refusal n)
unfolding fitted
refusal_fits chainRoom waypointRoom n =
    ap₂ (λ (x y : Bool). cond (x && y) (refusal n) (refusal 14)) (sym (le-leb 0 chainRoom (omega arith))) (sym (le-leb 0 waypointRoom (omega arith)))

module _ (T : RouteTables) (path : List ℕ) (cost s t : Float) where
  all : List Point
  all = sample_route T path s t

  route : Routed
  route = followed T s t (found path cost)

  count_chain : length route.chain ≡ length path
  unfolding route followed
  count_chain = length-map path (lane_number T.lanes)

  count_points : length route.points ≡ 3 * length (sample_route T path s t)
  unfolding route followed
  count_points = length_flat (sample_route T path s t)

  -- the chain does not fit
  pub chain_over : (chainRoom waypointRoom : ℕ) → chainRoom < length path
      → refusal 14 ≡ fitted chainRoom waypointRoom (followed T s t (found path cost))
  unfolding fitted route
  chain_over chainRoom waypointRoom h =
      let e = count_chain in
      let f : leb (length route.chain) chainRoom ≡ false = lt-leb (length route.chain) chainRoom (omega arith) in
      ap (λ (x : Bool). cond (x && leb (length route.points) waypointRoom) route (refusal 14)) (sym f)

  -- the points do not
  pub points_over : (chainRoom waypointRoom : ℕ) → waypointRoom / 3 < length (sample_route T path s t) → refusal 14 ≡ fitted chainRoom waypointRoom
      (followed T s t (found path cost))
  unfolding fitted route
  points_over chainRoom waypointRoom h = go (leb (length route.chain) chainRoom)
    where
      f : leb (length route.points) waypointRoom ≡ false
      f = let e = count_points in lt-leb (length route.points) waypointRoom (omega arith)

      go : (b : Bool) → refusal 14 ≡ cond (b && leb (length route.points) waypointRoom) route (refusal 14)
      go true = ap (λ (y : Bool). cond y route (refusal 14)) (sym f)
      go false = refl

  -- both do
  pub route_fits : (chainRoom waypointRoom : ℕ) → length path ≤ chainRoom → 3 * length (sample_route T path s t) ≤ waypointRoom
      → followed T s t (found path cost) ≡ fitted chainRoom waypointRoom (followed T s t (found path cost))
  unfolding fitted route
  route_fits chainRoom waypointRoom h l =
      let e = count_chain in
      let g = count_points in
      ap₂ (λ (x y : Bool). cond (x && y) route (refusal 14)) (sym (le-leb (length route.chain) chainRoom (omega arith)))
      (sym (le-leb (length route.points) waypointRoom (omega arith)))

  -- the answer's fields
  pub route_answer : (count : ℕ) → count ≡ length (sample_route T path s t)
      → record { number = 0; lanes = length path; points = count; length = cost } ≡ answer_of (followed T s t (found path cost))
  unfolding answer_of followed
  route_answer count h =
      let a = length-map path (lane_number T.lanes) in
      let b = length_flat (sample_route T path s t) in
      let c : count ≡ length (flat (sample_route T path s t)) / 3 = omega arith in
      ap₂ (λ (k m : ℕ). record { number = 0; lanes = k; points = m; length = cost }) (sym a) c

-- ---- which case it is, into lists with so much room

module _ (T : RouteTables) (n chainRoom waypointRoom : ℕ) where
  -- no path
  pub path_refused : (s t : Float) (X : Result Float) → X ≡ refused → refusal 11 ≡ fitted chainRoom waypointRoom (followed T s t X)
  unfolding followed
  path_refused s t X e = refusal_fits chainRoom waypointRoom 11 ∙ ap (λ (Y : Result Float). fitted chainRoom waypointRoom (followed T s t Y)) (sym e)

  -- no lane drives, and two lanes
  module _ (from to : Option Nearest) where
    pub from_none : from ≡ None → refusal 10 ≡ fitted chainRoom waypointRoom (between T n from to)
    unfolding between
    from_none e = refusal_fits chainRoom waypointRoom 10 ∙ ap (λ (x : Option Nearest). fitted chainRoom waypointRoom (between T n x to)) (sym e)

    module _ (a : Nearest) (e : from ≡ Some a) where
      pub to_none : to ≡ None → refusal 10 ≡ fitted chainRoom waypointRoom (between T n from to)
      unfolding between
      to_none f =
          refusal_fits chainRoom waypointRoom 10
          ∙ ap₂ (λ (x y : Option Nearest). fitted chainRoom waypointRoom (between T n x y)) (sym e) (sym f)

      pub both_found : (b : Nearest) → to ≡ Some b
          → fitted chainRoom waypointRoom
          (followed T a.projection.s b.projection.s (path_of T.lanes (graph_of T n) a.row a.projection.s b.row b.projection.s))
          ≡ fitted chainRoom waypointRoom (between T n from to)
      unfolding between
      both_found b f = ap₂ (λ (x y : Option Nearest). fitted chainRoom waypointRoom (between T n x y)) (sym e) (sym f)

  -- the points are finite, or not
  module _ (ls : List Lane) (from to : Point) (b : Bool) (e : b ≡ finite_point from && finite_point to) where
    pub both_near : (x y : Option Nearest) → b ≡ true → x ≡ told (nearest_lane drives_table ls from) → y ≡ told (nearest_lane drives_table ls to)
        → fitted chainRoom waypointRoom (between T n x y) ≡ fitted chainRoom waypointRoom (routed T n ls from to)
    unfolding routed
    both_near x y t f g =
        ap₂ (λ (v w : Option Nearest). fitted chainRoom waypointRoom (between T n v w)) f g
        ∙ ap (λ (a : Bool). fitted chainRoom waypointRoom
        (cond a (between T n (told (nearest_lane drives_table ls from)) (told (nearest_lane drives_table ls to))) (refusal 9))) (sym t ∙ e)

    pub not_finite : b ≡ false → refusal 9 ≡ fitted chainRoom waypointRoom (routed T n ls from to)
    unfolding routed
    not_finite t =
        refusal_fits chainRoom waypointRoom 9
        ∙ ap (λ (a : Bool). fitted chainRoom waypointRoom
        (cond a (between T n (told (nearest_lane drives_table ls from)) (told (nearest_lane drives_table ls to))) (refusal 9))) (sym t ∙ e)

-- ---- the rows that are nearest

module _ (lanes : List ℕ) (points : List Float) (n : ℕ) where
  abbrev nearest : Point → Option Nearest
  nearest p = told (nearest_lane drives_table (lanes_from lanes points n 0) p)

  row_near : (p : Point) (x : Option Nearest) → x ≡ nearest p → RowIn n x
  row_near p None f = tt
  row_near p (Some b) f = row_below lanes points n p b f

  module _ (from to : Point) (r : List (Option Nearest)) (e : r ≡ nearest from ∷ nearest to ∷ []) where
    pub from_is : slice_index_or r 0 None ≡ nearest from
    from_is = ap (λ (xs : List (Option Nearest)). slice_index_or xs 0 None) e

    pub to_is : slice_index_or r 1 None ≡ nearest to
    to_is = ap (λ (xs : List (Option Nearest)). slice_index_or xs 1 None) e

    pub from_row : RowIn n (slice_index_or r 0 None)
    from_row = row_near from (slice_index_or r 0 None) from_is

    pub to_row : RowIn n (slice_index_or r 1 None)
    to_row = row_near to (slice_index_or r 1 None) to_is
