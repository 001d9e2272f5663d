-- THE THEOREMS of specs/Plans.antt: the records and the rows of an accepted plan meet what Optimality.antt asks of tables.
use mathlib.Core.Bool.{Bool, false, true}
use mathlib.Core.List.{List, [], map, ◌∷◌}
use mathlib.Core.Path.{ap₂, refl, sym, ◌∙◌, ◌≡◌}
use Prim.Native.Nat.{ℕ, ◌*◌, ◌+◌, ◌<◌, ◌≤◌}
use native.Mathlib.Omega.{arith}
use lib.Dec.{ltb}
use lib.Ieee.{Float, nan}
use lib.ListN.{get_or-eq_default, get_or, length, length-map, take}
use borrow.Author.Tests.{ltb-false, ltb-true}
use Rattle.plan.specs.Accepted.{Accepted}
use Rattle.plan.specs.Rows.{fan_entry, fans_size, lanes_size, links_end, neighbour_entry, successor_entry}
use Rattle.plan_format.specs.Laws.{get_or_map_in}
use Rattle.plan_format.specs.Plan.{Plan, index_of, number_of}
use Rattle.plan_format.specs.Reading.{sum}
use Rattle.plan_format.specs.Tables.{link_count, linked, plan_rows}
use Rattle.rows.specs.Rows.{first_link, first_neighbour, lane_number, leads_to, neighbours, predecessors, successors}
use Rattle.search.specs.LaneGraph.{Readable, searched_in}
use Rattle.search.specs.Search.{Result, found, refused}
use Rattle.tables.specs.LaneTables.{no_lane}
use Rattle.tables.specs.Lines.{cost, number_is}
use Rattle.optimality.specs.Chains.{length_of, lengths_of, numbers_of}
use Rattle.optimality.specs.Heap.{numbered}
use Rattle.optimality.specs.Plans.{HeapForm, HeapGives, OptimalFrom, SearchOptimal, graph_in}
use Rattle.optimality.proofs.Optimality.{OptimalResult, heap_chain, optimal}
use Rattle.optimality.proofs.Rows.{ChainsOk, Tabled}

module _ (p : Plan) (A : Accepted p) where
  abbrev ns : List ℕ
  ns = numbers_of p

  row_below : (u : ℕ) → u < length ns → u < length p.lanes
  row_below u h = omega (arith, length-map p.lanes number_of)

  pub chains_ok : ChainsOk (numbers_of p) (lengths_of p) p.links
  chains_ok =
      let n = length-map p.lanes number_of in
      record {
        few = omega (arith, A.limited.lanes);
        distinct = A.numbers_once;
        from_there = λ i d h. omega (arith, (A.link i d h).from);
        long = λ u h. rw (get_or_map_in length_of p.lanes u no_lane nan (row_below u h)) (cost p A u no_lane (row_below u h));
      }

  -- ---- the rows
  module _ (u : ℕ) (h : u < length ns) where
    -- the links of the lanes before
    abbrev before : ℕ
    before = sum (map (link_count p.links) (take u ns))

    first_link_law : first_link (plan_rows p).fans u ≡ before
    first_link_law = let z : 5 * u ≡ 5 * u + 0 = omega arith in rw z (fan_entry p u 0 h (omega arith))

    abbrev count : ℕ → ℕ
    count role = length (linked p.links (get_or ns u 0) role)

    successor_count : successors (plan_rows p).fans u ≡ count 0
    successor_count = fan_entry p u 1 h (omega arith)

    predecessor_count : predecessors (plan_rows p).fans u ≡ count 1
    predecessor_count = fan_entry p u 2 h (omega arith)

    neighbour_count : neighbours (plan_rows p).fans u ≡ count 2
    neighbour_count = fan_entry p u 3 h (omega arith)

    links_within : 2 * (first_neighbour (plan_rows p).fans u + neighbours (plan_rows p).fans u) ≤ length (plan_rows p).links
    links_within = rw (first_link_law, successor_count, predecessor_count, neighbour_count) (let e = links_end p A u h in omega arith)

    successor_row : (j : ℕ) → j < count 0
        → leads_to (plan_rows p).links (first_link (plan_rows p).fans u + j) ≡ index_of (get_or (linked p.links (get_or ns u 0) 0) j 0) ns 0 256
    successor_row j l = rw first_link_law (successor_entry p u j 1 h (omega arith) l)

    neighbour_row : (j : ℕ) → j < count 2
        → leads_to (plan_rows p).links (first_neighbour (plan_rows p).fans u + j) ≡ index_of (get_or (linked p.links (get_or ns u 0) 2) j 0) ns 0 256
    neighbour_row j l = rw (first_link_law, successor_count, predecessor_count) (neighbour_entry p u j 1 h (omega arith) l)

    number_at : lane_number (plan_rows p).lanes u ≡ get_or ns u 0
    number_at = number_is p A u no_lane (row_below u h) ∙ sym (get_or_map_in number_of p.lanes u no_lane 0 (row_below u h))

  pub tabled : Tabled (numbers_of p) (lengths_of p) p.links (plan_rows p).lanes (graph_in p)
  tabled =
      record {
        count = sym (length-map p.lanes number_of);
        number = number_at;
        long = λ u h. refl;
        successors_count = successor_count;
        neighbours_count = neighbour_count;
        successor_row = λ u j h l. successor_row u h j l;
        neighbour_row = λ u j h l. neighbour_row u h j l;
      }

  pub readable : Readable (graph_in p)
  readable =
      let n = length-map p.lanes number_of in
      let m = length-map p.lanes length_of in
      let f = fans_size p A in
      record {
        few = A.limited.lanes;
        fans = omega arith;
        links = λ u h. links_within u (omega arith);
        lengths = omega arith;
      }

  -- ---- the numbers of rows, past the end too
  number_any : (u : ℕ) → lane_number (plan_rows p).lanes u ≡ get_or ns u 0
  number_any u = go (ltb u (length ns)) refl
    where
      go : (b : Bool) → ltb u (length ns) ≡ b → lane_number (plan_rows p).lanes u ≡ get_or ns u 0
      go true e = number_at u (ltb-true u (length ns) e)
      go false e =
          let l = ltb-false u (length ns) e in
          let n = length-map p.lanes number_of in
          let z = lanes_size p A in
          get_or-eq_default (plan_rows p).lanes 0 (omega arith) ∙ sym (get_or-eq_default ns 0 l)

  numbers_any : (xs : List ℕ) → map (λ (u : ℕ). get_or ns u 0) xs ≡ map (lane_number (plan_rows p).lanes) xs
  numbers_any [] = refl
  numbers_any (x ∷ xs) = ap₂ ◌∷◌ (sym (number_any x)) (numbers_any xs)

  -- ---- from one lane to another, or back to the same
  module _ (start goal : ℕ) (ls : start < length p.lanes) (lg : goal < length p.lanes) where
    in_numbers : (u : ℕ) → u < length p.lanes → u < length ns
    in_numbers u h = omega (arith, length-map p.lanes number_of)

    by_numbers : (r : Result Float) → OptimalResult ns (lengths_of p) p.links (plan_rows p).lanes (graph_in p) chains_ok tabled start goal
        (in_numbers start ls) (in_numbers goal lg) r
        → OptimalFrom p start goal r
    by_numbers refused o = rw (number_any start, number_any goal) o
    by_numbers (found l c) o = rw (number_any start, number_any goal, ← numbers_any l) o

    optimal_from : OptimalFrom p start goal (searched_in (plan_rows p).lanes (graph_in p) start goal)
    optimal_from =
        by_numbers (searched_in (plan_rows p).lanes (graph_in p) start goal)
        (optimal ns (lengths_of p) p.links (plan_rows p).lanes (graph_in p) chains_ok tabled start goal (in_numbers start ls) (in_numbers goal lg))

    heap_from : let number = lane_number (plan_rows p).lanes in
        HeapGives p (number start) (number goal) (numbered number (searched_in (plan_rows p).lanes (graph_in p) start goal))
    heap_from =
        heap_chain ns (lengths_of p) p.links (plan_rows p).lanes (graph_in p) chains_ok tabled start goal (in_numbers start ls)
        (in_numbers goal lg)

pub search_optimal : SearchOptimal
search_optimal p A start goal ls lg = optimal_from p A start goal ls lg

pub heap_form : HeapForm
heap_form p A start goal ls lg = heap_from p A start goal ls lg
