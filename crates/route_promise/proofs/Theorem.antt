-- THE THEOREM of demand 3 (specs/Promise.antt), from the taped distance (crate accuracy) and the least chain (crate optimality).
use mathlib.Core.Bool.{Bool, cond, false, true, true≢false, ◌&&◌}
use mathlib.Core.List.{List, [], map, ◌∷◌}
use mathlib.Core.Logic.{inl, inr, ◌⊎◌}
use mathlib.Core.Path.{ap, ap₂, refl, subst, sym, ◌∙◌, ◌≡◌}
use Prim.Native.Nat.{ℕ, ◌+◌, ◌<◌, ◌≤◌}
use native.Mathlib.Omega.{arith}
use lib.Dec.{T, eqb, leb}
use lib.Ieee.{Float, le}
use lib.ListN.{get_or, length, length-map}
use borrow.Author.Tests.{le-leb, leb-true}
use Rattle.accuracy.proofs.Theorem.{no_lane_drives}
use Rattle.accuracy.specs.Taped.{Found}
use Rattle.coords.specs.Coords.{finite_point, zero⁺}
use Rattle.coords.specs.declared.Point.{Point}
use Rattle.geometry_laws.specs.Range.{PointIn}
use Rattle.nearest.specs.Nearest.{lanes_of, nearest_in}
use Rattle.nearest.specs.declared.NearestAnswer.{NearestAnswer}
use Rattle.nearest_laws.proofs.Theorem.{nearest_numbers, nearest_taped}
use Rattle.nearest_laws.specs.Promise.{DrivingAnswer, NoneDrives, TapedAnswer, answer_with}
use Rattle.network.specs.Lanes.{Lane, drives_table}
use Rattle.network.specs.Nearest.{Best, found, nearest_lane}
use Rattle.network.specs.Tables.{told}
use Rattle.optimality.specs.Chains.{chain_cost_in, numbers_of}
use Rattle.optimality.proofs.Theorem.{search_optimal}
use Rattle.optimality.specs.Plans.{OptimalFrom, graph_in}
use Rattle.plan.specs.Accepted.{Accepted, accepted_plan}
use Rattle.plan_format.specs.Laws.{and_both, and_fst, and_snd, get_or_map_in}
use Rattle.plan_format.specs.Lookup.{index_own, index_same}
use Rattle.plan_format.specs.Plan.{Plan, lane_of, number_of}
use Rattle.plan_format.specs.Records as records
use Rattle.plan_format.specs.Tables.{plan_rows}
use Rattle.rows.specs.Rows.{direction_of, lane_number}
use Rattle.route.specs.InPlan.{lengths_are}
use Rattle.route.specs.Route.{Routed, between, fitted, followed, graph_of, path_by, refusal, route_in, routed, suffices, tables_of}
use Rattle.route.specs.Steps.{refusal_fits}
use Rattle.sampling.specs.Sampling.{is_ahead}
use Rattle.search.specs.LaneGraph.{lane_graph, searched_in}
use Rattle.search.specs.Search as search
use Rattle.tables.specs.LaneTables.{no_lane}
use Rattle.tables.specs.Lines.{direction_is, number_is}
use Rattle.route_promise.specs.Promise.{Fits, LeastChain, OneDrives, Promised, Reachable, RoutePromise, Unreachable, is_chain_between}
use Rattle.route_promise.specs.Promise.{direction_in, one_lane, whole_route}
use Rattle.route_promise.proofs.Lanes.{InRow, in_row, some_or_none}

-- ---- the lists: the whole route where it fits, 14 where it does not
abbrev fit : ℕ → ℕ → Routed → Bool
fit lanes floats w = leb (length w.chain) lanes && leb (length w.points) floats

fit_is : (lanes floats : ℕ) (w : Routed) → Fits lanes floats w → fit lanes floats w ≡ true
fit_is lanes floats w f = and_both _ _ (le-leb _ _ f.0) (le-leb _ _ f.1)

is_fit : (lanes floats : ℕ) (w : Routed) → fit lanes floats w ≡ true → Fits lanes floats w
is_fit lanes floats w e = (leb-true _ _ (and_fst _ _ e), leb-true _ _ (and_snd (leb (length w.chain) lanes) _ e))

fitted_whole : (lanes floats : ℕ) (w : Routed) → fit lanes floats w ≡ true → fitted lanes floats w ≡ w
unfolding fitted
fitted_whole lanes floats w e = rw e refl

fitted_not : (lanes floats : ℕ) (w : Routed) → fit lanes floats w ≡ false → fitted lanes floats w ≡ refusal 14
unfolding fitted
fitted_not lanes floats w e = rw e refl

module _ (p : Plan) (from to : Point) (lanes floats : ℕ) (a b : NearestAnswer) (w : Routed) where
  abbrev Promise : Routed → Type 0
  Promise r = Promised p from to lanes floats a b w r

  drives_not : OneDrives p → NoneDrives p → ⊥
  drives_not (l, m, t) none = subst T (none l m) t

  reach_not : Reachable p a b → Unreachable p a b → ⊥
  reach_not (inl e) u = true≢false (sym e ∙ u.0)
  reach_not (inr (chain, e)) u = true≢false (sym e ∙ u.1 chain)

  -- ---- no lane drives: 10
  promise_none : NoneDrives p → (r : Routed) → r ≡ refusal 10 → Promise r
  promise_none none r e =
      let ten : r.number ≡ 10 = ap (λ (x : Routed). x.number) e in
      record {
        ten = (λ h. none, λ h. ten);
        eleven = (λ h. absurd (omega arith), λ h. absurd (drives_not h.0 none));
        answered = λ d. absurd (drives_not d none);
        fourteen = λ d. absurd (drives_not d none);
        lists = λ h. absurd (omega arith);
        chosen = λ d. absurd (drives_not d none);
        near = λ d. absurd (drives_not d none);
        one_lane_law = λ h. absurd (omega arith);
        chain = λ h. absurd (omega arith);
      }

  module _ (d : OneDrives p) (c : DrivingAnswer p from × DrivingAnswer p to)
      (n : (PointIn from → TapedAnswer p from) × (PointIn to → TapedAnswer p to)) where
    -- ---- a lane drives, but no route leads there: 11
    promise_unreachable : Unreachable p a b → (r : Routed) → r ≡ refusal 11 → Promise r
    promise_unreachable u r e =
        let eleven : r.number ≡ 11 = ap (λ (x : Routed). x.number) e in
        record {
          ten = (λ h. absurd (omega arith), λ h. absurd (drives_not d h));
          eleven = (λ h. (d, u), λ h. eleven);
          answered = λ d r. absurd (reach_not r u);
          fourteen = λ d r. absurd (reach_not r u);
          lists = λ h. absurd (omega arith);
          chosen = λ d. c;
          near = λ d. n;
          one_lane_law = λ h. absurd (omega arith);
          chain = λ h. absurd (omega arith);
        }

    -- ---- a route: 0 where it fits, 14 where it does not
    module _ (reach : Reachable p a b) (zero_number : w.number ≡ 0)
        (one : one_lane p a b ≡ true → (w.chain ≡ a.lane.0 ∷ []) × (w.length ≡ zero⁺))
        (more : one_lane p a b ≡ false → LeastChain p a b w.chain × (w.length ≡ chain_cost_in p w.chain)) where
      promise_fits : Fits lanes floats w → (r : Routed) → r ≡ w → Promise r
      promise_fits f r e =
          let zero : r.number ≡ 0 = ap (λ (x : Routed). x.number) e ∙ zero_number in
          record {
            ten = (λ h. absurd (omega arith), λ h. absurd (drives_not d h));
            eleven = (λ h. absurd (omega arith), λ h. absurd (reach_not reach h.1));
            answered = λ d r f. zero;
            fourteen = λ d r g. absurd (g f);
            lists = λ h. e;
            chosen = λ d. c;
            near = λ d. n;
            one_lane_law = λ h k. rw e (one k);
            chain = λ h k. rw e (more k);
          }

      promise_long : (Fits lanes floats w → ⊥) → (r : Routed) → r ≡ refusal 14 → Promise r
      promise_long g r e =
          let fourteen : r.number ≡ 14 = ap (λ (x : Routed). x.number) e in
          record {
            ten = (λ h. absurd (omega arith), λ h. absurd (drives_not d h));
            eleven = (λ h. absurd (omega arith), λ h. absurd (reach_not reach h.1));
            answered = λ d r f. absurd (g f);
            fourteen = λ d r g. fourteen;
            lists = λ h. absurd (omega arith);
            chosen = λ d. c;
            near = λ d. n;
            one_lane_law = λ h. absurd (omega arith);
            chain = λ h. absurd (omega arith);
          }

      promise_route : Promise (fitted lanes floats w)
      promise_route = go (fit lanes floats w) refl
        where
          go : (x : Bool) → fit lanes floats w ≡ x → Promise (fitted lanes floats w)
          go true e = promise_fits (is_fit lanes floats w e) (fitted lanes floats w) (fitted_whole lanes floats w e)
          go false e =
              promise_long (λ f. true≢false (sym (fit_is lanes floats w f) ∙ e)) (fitted lanes floats w) (fitted_not lanes floats w e)

-- ---- an accepted plan
module _ (p : Plan) (A : Accepted p) where
  abbrev Nearest : Point → Type 0
  Nearest q = Found drives_table (lanes_of p) q

  -- ---- rows and numbers
  module _ (l : Lane) (R : InRow p l) where
    row_inside : l.row < length (numbers_of p)
    row_inside = omega (arith, R.inside, length-map p.lanes number_of)

    number_at : l.number ≡ get_or (numbers_of p) l.row 0
    number_at =
        ap (λ (x : Lane). x.number) R.is ∙ sym (get_or_map_in number_of p.lanes l.row no_lane 0 R.inside)

    number_row : l.number ≡ lane_number (plan_rows p).lanes l.row
    number_row = ap (λ (x : Lane). x.number) R.is ∙ sym (number_is p A l.row no_lane R.inside)

    row_of : lane_of p l.number ≡ l.row
    row_of =
        let z : 0 + l.row ≡ l.row = omega arith in
        ap (lane_of p) number_at ∙ index_own (numbers_of p) 0 l.row 256 A.numbers_once row_inside ∙ z

    direction_at : direction_in p l.number ≡ direction_of (plan_rows p).lanes l.row
    direction_at =
        ap (λ (i : ℕ). get_or (map (λ (x : records.Lane). x.direction) p.lanes) i 0) row_of
        ∙ get_or_map_in (λ (x : records.Lane). x.direction) p.lanes l.row no_lane 0 R.inside
        ∙ sym (direction_is p A l.row no_lane R.inside)

  same_lane : (l m : Lane) → InRow p l → InRow p m → eqb l.number m.number ≡ eqb l.row m.row
  same_lane l m R Q =
      let few : length (numbers_of p) ≤ 256 = omega (arith, A.limited.lanes, length-map p.lanes number_of) in
      ap (eqb l.number) (number_at m Q)
      ∙ index_same (numbers_of p) l.number m.row A.numbers_once (row_inside m Q) few
      ∙ ap (λ (i : ℕ). eqb i m.row) (row_of l R)

  -- ---- finite points: no 9
  abbrev answers_of : Best → Best → Routed
  answers_of x y = between (tables_of p) (length p.lanes) (told x) (told y)

  whole_between : (from to : Point) → finite_point from ≡ true → finite_point to ≡ true
      → whole_route p from to ≡ answers_of (nearest_lane drives_table (lanes_of p) from) (nearest_lane drives_table (lanes_of p) to)
  unfolding routed
  whole_between from to F G =
      ap (λ (x : Bool). cond x (answers_of (nearest_lane drives_table (lanes_of p) from) (nearest_lane drives_table (lanes_of p) to)) (refusal 9))
      (and_both (finite_point from) (finite_point to) F G)

  -- ---- a lane drives: the whole route is the path between the rows of the two answers
  module _ (from to : Point) (F : finite_point from ≡ true) (G : finite_point to ≡ true) (S : Nearest from) (Z : Nearest to) where
    abbrev start : ℕ
    start = S.lane.row

    abbrev goal : ℕ
    goal = Z.lane.row

    start_row : InRow p S.lane
    start_row = in_row p S.lane S.in_plan

    goal_row : InRow p Z.lane
    goal_row = in_row p Z.lane Z.in_plan

    abbrev a : NearestAnswer
    a = answer_with p from S

    abbrev b : NearestAnswer
    b = answer_with p to Z

    abbrev follow : search.Result Float → Routed
    follow r = followed (tables_of p) S.proj.s Z.proj.s r

    suffices_is : suffices (plan_rows p).lanes start S.proj.s goal Z.proj.s ≡ one_lane p a b
    unfolding suffices
    suffices_is =
        ap₂ (λ (x : Bool) (d : ℕ). x && is_ahead d S.proj.s Z.proj.s) (sym (same_lane S.lane Z.lane start_row goal_row))
        (sym (direction_at S.lane start_row))

    abbrev search_result : search.Result Float
    search_result = searched_in (plan_rows p).lanes (graph_in p) start goal

    abbrev path_result : Bool → search.Result Float
    path_result true = search.found (start ∷ []) zero⁺
    path_result false = search_result

    path_by_law : (x : Bool) → path_by x (plan_rows p).lanes (graph_of (tables_of p) (length p.lanes)) start goal ≡ path_result x
    unfolding path_by tables_of
    path_by_law true = refl
    path_by_law false =
        ap (λ (ls : List Float). searched_in (plan_rows p).lanes (lane_graph (length p.lanes) (plan_rows p).fans (plan_rows p).links ls) start
        goal) (lengths_are p A)

    path_is : answers_of (found S.dist S.number S.lane S.proj) (found Z.dist Z.number Z.lane Z.proj)
        ≡ follow (path_result (one_lane p a b))
    unfolding between tables_of
    path_is =
        ap follow (ap (λ (x : Bool). path_by x (plan_rows p).lanes (graph_of (tables_of p) (length p.lanes)) start goal) suffices_is
        ∙ path_by_law (one_lane p a b))

    whole_is : whole_route p from to ≡ follow (path_result (one_lane p a b))
    whole_is = whole_between from to F G ∙ ap₂ answers_of S.is Z.is ∙ path_is

    optimal : OptimalFrom p start goal search_result
    optimal = search_optimal p A start goal start_row.inside goal_row.inside

    module _ (lanes floats : ℕ) (d : OneDrives p) (chosen : DrivingAnswer p from × DrivingAnswer p to)
        (near : (PointIn from → TapedAnswer p from) × (PointIn to → TapedAnswer p to)) where
      abbrev At : Routed → Type 0
      At w = Promised p from to lanes floats a b w (fitted lanes floats w)

      by_one : one_lane p a b ≡ true → At (follow (search.found (start ∷ []) zero⁺))
      unfolding followed tables_of
      by_one e =
          promise_route p from to lanes floats a b (follow (search.found (start ∷ []) zero⁺)) d chosen near (inl e) refl
          (λ h. (ap (λ (n : ℕ). n ∷ []) (sym (number_row S.lane start_row)), refl))
          (λ h. absurd (true≢false (sym e ∙ h)))

      by_search : one_lane p a b ≡ false → (r : search.Result Float) → OptimalFrom p start goal r → At (follow r)
      unfolding followed tables_of
      by_search e search.refused o =
          promise_unreachable p from to lanes floats a b (refusal 11) d chosen near
          (e, λ chain. rw (number_row S.lane start_row, number_row Z.lane goal_row) (o.refused refl chain))
          (fitted lanes floats (refusal 11)) (sym (refusal_fits lanes floats 11))
      by_search e (search.found path cost) o =
          let chain = map (lane_number (plan_rows p).lanes) path in
          let is : is_chain_between p a b chain ≡ true = rw (number_row S.lane start_row, number_row Z.lane goal_row) (o.is_chain_law refl) in
          promise_route p from to lanes floats a b (follow (search.found path cost)) d chosen near (inr (chain, is)) refl
          (λ h. absurd (true≢false (sym h ∙ e)))
          (λ h. (record { is_chain_law = is; least = least }, o.cost_is refl))
        where
          least : (other : List ℕ) → is_chain_between p a b other ≡ true
              → le (chain_cost_in p (map (lane_number (plan_rows p).lanes) path)) (chain_cost_in p other) ≡ true
          least other h =
              rw (← o.cost_is refl)
              (o.least refl other (rw (number_row S.lane start_row, number_row Z.lane goal_row) at h))

      by_answers : At (whole_route p from to)
      by_answers = subst At (sym whole_is) (go (one_lane p a b) refl)
        where
          go : (x : Bool) → one_lane p a b ≡ x → At (follow (path_result x))
          go true e = by_one e
          go false e = by_search e search_result optimal

  module _ (from to : Point) (F : finite_point from ≡ true) (G : finite_point to ≡ true) (lanes floats : ℕ) where
    abbrev Goal : Type 0
    Goal = Promised p from to lanes floats (nearest_in p from) (nearest_in p to) (whole_route p from to) (route_in p from to lanes floats)

    no_lane_law : NoneDrives p → whole_route p from to ≡ refusal 10
    unfolding between
    no_lane_law none =
        whole_between from to F G
        ∙ ap (λ (x : Best). answers_of x (nearest_lane drives_table (lanes_of p) to)) (no_lane_drives drives_table (lanes_of p) from none)

    by_drives : OneDrives p ⊎ NoneDrives p → Goal
    unfolding route_in
    by_drives (inl d) =
        let f = (nearest_numbers p from A F).one_drives d in
        let t = (nearest_numbers p to A G).one_drives d in
        rw (f.is, t.is)
        (by_answers from to F G f.found t.found lanes floats d (f, t)
        (λ Q. (nearest_taped p from A Q).one_drives d, λ Q. (nearest_taped p to A Q).one_drives d))
    by_drives (inr none) =
        promise_none p from to lanes floats (nearest_in p from) (nearest_in p to) (whole_route p from to) none (route_in p from to lanes floats)
        (ap (fitted lanes floats) (no_lane_law none) ∙ sym (refusal_fits lanes floats 10))

    promised : Goal
    promised = by_drives (some_or_none drives_table (lanes_of p))

pub route_promise : RoutePromise
route_promise file B p e from to F G lanes floats = promised p (accepted_plan 0 file p B e) from to F G lanes floats
