-- A path that the search finds is one of the lanes of the tables, one to 257 of them.
use Rattle.std.specs.Prelude.{Bool, cond, ◌≡◌, eqb, Float, length, replicate}
use Rattle.std.proofs.Math.Bool.{false, true}
use mathlib.Core.List.{List, [], ◌∷◌}
use Rattle.std.proofs.Math.Path.{refl}
use Prim.Native.Nat.{suc, zero, ℕ, ◌+◌, ◌<◌, ◌≤◌}
use Rattle.std.proofs.Common.{arith}
use Rattle.std.proofs.lemmas.Bool.{eqb-false}
use Rattle.std.specs.Float.Ieee.{lt}
use Rattle.std.proofs.Math.ListN.{get_or, set}
use Rattle.rows.specs.Rows.{lane_number}
use Rattle.sampling.specs.Passes.{PathRows}
use Rattle.search.specs.LaneGraph.{LaneGraph, f32_costs, out, searched_in}
use Rattle.search.specs.Loops.{least_below, set_below}
use Rattle.search.specs.Search.{Edge, Result, State, blank, dist_of, expanded, found, least_open, marked, rebuild, refused, relaxed, run, searched}
use Rattle.search.specs.Search.{settled}
use Rattle.route.specs.Route.{path_by}

-- every entry is one of n lanes, and so is what stands for one past the end
abbrev Below : ℕ → List ℕ → Type 0
Below n xs = (j : ℕ) → get_or xs j 0 < n

below_zeros : (n size : ℕ) → 0 < n → Below n (replicate size 0)
below_zeros n zero o j = o
below_zeros n (suc k) o zero = o
below_zeros n (suc k) o (suc j) = below_zeros n k o j

below_cons : (n x : ℕ) (xs : List ℕ) → x < n → Below n xs → Below n (x ∷ xs)
below_cons n x xs h b zero = h
below_cons n x xs h b (suc j) = b j

-- ---- the state's predecessors

module _ (n : ℕ) where
  below_relaxed : (u v : ℕ) (d : Float) (s : State Float) → u < n → Below n s.prev → Below n (relaxed f32_costs u v d s).prev
  unfolding relaxed
  below_relaxed u v d s h b = go (lt d (dist_of f32_costs s v))
    where
      go : (t : Bool) → Below n (cond t (record { dist = set s.dist v d; prev = set s.prev v u; closed = s.closed }) s).prev
      go true = set_below n s.prev v u b h
      go false = b

  below_expanded : (u : ℕ) (c : Float) (es : List (Edge Float)) (s : State Float) → u < n → Below n s.prev
      → Below n (expanded f32_costs u c es s).prev
  unfolding expanded
  below_expanded u c [] s h b = b
  below_expanded u c (e ∷ es) s h b =
      let d = f32_costs.add c e.cost in
      below_expanded u c es (relaxed f32_costs u e.to d s) h (below_relaxed u e.to d s h b)

  below_settled : (G : LaneGraph) (u : ℕ) (s : State Float) → u < n → Below n s.prev → Below n (settled f32_costs (out G) u s).prev
  unfolding settled marked
  below_settled G u s h b = below_expanded u (dist_of f32_costs s u) (out G u) (marked f32_costs u s) h b

  below_rebuilt : (k : ℕ) (prev : List ℕ) (start cur : ℕ) (chain : List ℕ) → Below n prev → Below n chain
      → Below n (rebuild k prev start cur chain)
  unfolding rebuild
  below_rebuilt zero prev start cur chain b c = c
  below_rebuilt (suc k) prev start cur chain b c =
      let p = get_or prev cur 0 in
      let here = below_cons n p chain (b cur) c in
      picked (eqb p start) (p ∷ chain) (rebuild k prev start p (p ∷ chain)) here (below_rebuilt k prev start p (p ∷ chain) b here)
    where
      picked : (t : Bool) (xs ys : List ℕ) → Below n xs → Below n ys → Below n (cond t xs ys)
      picked true xs ys h l = h
      picked false xs ys h l = l

-- how long a rebuilt chain is
rebuilt_long : (k : ℕ) (prev : List ℕ) (start cur : ℕ) (chain : List ℕ)
    → (length chain ≤ length (rebuild k prev start cur chain)) × (length (rebuild k prev start cur chain) ≤ k + length chain)
unfolding rebuild
rebuilt_long zero prev start cur chain = (omega arith, omega arith)
rebuilt_long (suc k) prev start cur chain =
    let p = get_or prev cur 0 in
    picked (eqb p start) (p ∷ chain) (rebuild k prev start p (p ∷ chain)) (omega arith) (omega arith)
    (let r = rebuilt_long k prev start p (p ∷ chain) in omega (arith, r.0)) (let r = rebuilt_long k prev start p (p ∷ chain) in omega (arith, r.1))
  where
    picked : (t : Bool) (xs ys : List ℕ) → length chain ≤ length xs → length xs ≤ suc k + length chain → length chain ≤ length ys
        → length ys ≤ suc k + length chain → (length chain ≤ length (cond t xs ys)) × (length (cond t xs ys) ≤ suc k + length chain)
    picked true xs ys a b c d = (a, b)
    picked false xs ys a b c d = (c, d)

-- ---- the search

-- what a result says of its path
abbrev pub OfPath : ℕ → Result Float → Type 0
OfPath n refused = Unit
OfPath n (found path cost) = PathRows path n

module _ (lanes : List ℕ) (G : LaneGraph) (start goal : ℕ) (o : goal < G.count) where
  abbrev rest : ℕ → State Float → Result Float
  rest k s = run f32_costs (lane_number lanes) (out G) 256 G.count start goal k s

  some : 0 < G.count
  some = omega arith

  of_run : (k : ℕ) (s : State Float) → Below G.count s.prev → OfPath G.count (rest k s)
  unfolding run
  of_run zero s b = tt
  of_run (suc k) s b = go (eqb u 256) (eqb u goal) refl (of_run k (settled f32_costs (out G) u s))
    where
      u : ℕ
      u = least_open f32_costs (lane_number lanes) 256 s G.count

      chain : List ℕ
      chain = rebuild 256 s.prev start goal (goal ∷ [])

      rebuilt : PathRows chain G.count
      rebuilt =
          let long = rebuilt_long 256 s.prev start goal (goal ∷ []) in
          let below = below_rebuilt G.count 256 s.prev start goal (goal ∷ []) b (below_cons G.count goal [] o (λ j. some)) in
          record { some = omega (arith, long.0); few = omega (arith, long.1); each = λ j h. below j }

      go : (t w : Bool) → eqb u 256 ≡ t
          → (Below G.count (settled f32_costs (out G) u s).prev → OfPath G.count (rest k (settled f32_costs (out G) u s)))
          → OfPath G.count (cond t refused (cond w (found chain (dist_of f32_costs s goal)) (rest k (settled f32_costs (out G) u s))))
      go true w e more = tt
      go false true e more = rebuilt
      go false false e more = more (below_settled G.count G u s (least_below lanes s G.count (eqb-false u 256 e)) b)

  searched_rows : start < G.count → OfPath G.count (searched_in lanes G start goal)
  unfolding searched blank
  searched_rows h =
      of_run 257 (expanded f32_costs start f32_costs.none (out G start) (blank f32_costs 256))
      (below_expanded G.count start f32_costs.none (out G start) (blank f32_costs 256) h (below_zeros G.count 256 some))

-- `lane_path`
pub path_rows : (one : Bool) (lanes : List ℕ) (G : LaneGraph) (start goal : ℕ) → start < G.count → goal < G.count
    → OfPath G.count (path_by one lanes G start goal)
unfolding path_by
path_rows true lanes G start goal h o =
    record { some = omega arith; few = omega arith; each = λ j l. below_cons G.count start [] h (λ m. omega arith) j }
path_rows false lanes G start goal h o = searched_rows lanes G start goal o h
