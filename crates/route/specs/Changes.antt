-- Where a route's points change lanes, over the plan's records. Document 01, module 6: "A change goes at most 10 m on, only if the next is a
-- neighbour and no successor." `changes_off` of crate sampling asks it of rows; for lanes of an accepted plan it asks it of the link records.
use Rattle.std.specs.Prelude.{Bool, cond, false, true, ◌&&◌, ◌||◌, ◌≡◌, eqb, get_or}
use Rattle.std.proofs.Math.Bool.{not}
use mathlib.Core.List.{List, [], ◌∷◌}
use Rattle.std.proofs.Common.{ap₂, ◌∙◌}
use Rattle.std.proofs.Math.Path.{refl}
use Prim.Native.Nat.{suc, ℕ, ◌+◌, ◌<◌}
use native.Mathlib.Omega.{arith}
use Rattle.std.proofs.Math.ListN.{length}
use Rattle.std.proofs.lemmas.List.{length-map}
use Rattle.optimality.specs.Chains.{has_link, numbers_of}
use Rattle.optimality.proofs.Theorem.{chains_ok, tabled}
use Rattle.plan.specs.Accepted.{Accepted}
use Rattle.plan_format.specs.Lookup.{index_same}
use Rattle.plan_format.specs.Plan.{Plan, any, holds, index_of, number_of}
use Rattle.plan_format.specs.Records.{Link}
use Rattle.plan_format.specs.Tables.{linked, plan_rows}
use Rattle.rows.specs.Rows.{first_link, first_neighbour, lane_number, leads_to, neighbours, successors}
use Rattle.sampling.specs.Sampling.{changes_off, leads}

-- the links of one role from lane n lead to lane m where such a record stands
holds_link : (xs : List Link) (role n m : ℕ) → holds m (linked xs n role) ≡ has_link xs role n m
unfolding linked has_link any
holds_link [] role n m = refl
holds_link (x ∷ xs) role n m = go (eqb x.from n) (eqb x.role role) (holds_link xs role n m)
  where
    go : (a b : Bool) → holds m (linked xs n role) ≡ has_link xs role n m
        → holds m (cond (a && b) (x.to ∷ linked xs n role) (linked xs n role)) ≡ ((a && (b && eqb x.to m)) || has_link xs role n m)
    go true true more = rw more
    go true false more = more
    go false b more = more

module _ (p : Plan) (A : Accepted p) where
  -- rows of links that lead to these lanes, by their numbers, lead to the lane v where its number is among them
  leads_holds : (links ts : List ℕ) (first v : ℕ) → v < length (numbers_of p)
      → ((j : ℕ) → j < length ts → leads_to links (first + j) ≡ index_of (get_or ts j 0) (numbers_of p) 0 256)
      → leads links first (length ts) v ≡ holds (get_or (numbers_of p) v 0) ts
  unfolding leads any
  leads_holds links [] first v h rows = refl
  leads_holds links (t ∷ ts) first v h rows =
      let C = chains_ok p A in
      let z : first + 0 ≡ first = omega arith in
      let here : leads_to links first ≡ index_of t (numbers_of p) 0 256 = rw z at (rows 0 (omega arith)) in
      rw (here, index_same (numbers_of p) t v C.distinct h C.few, leads_holds links ts (first + 1) v h later)
    where
      later : (j : ℕ) → j < length ts → leads_to links (first + 1 + j) ≡ index_of (get_or ts j 0) (numbers_of p) 0 256
      later j l = let z : first + 1 + j ≡ first + suc j = omega arith in rw z (rows (suc j) (omega arith))

  module _ (u v : ℕ) (hu : u < length p.lanes) (hv : v < length p.lanes) where
    abbrev n : ℕ
    n = get_or (numbers_of p) u 0

    abbrev m : ℕ
    m = get_or (numbers_of p) v 0

    in_numbers : (w : ℕ) → w < length p.lanes → w < length (numbers_of p)
    in_numbers w h = omega (arith, length-map p.lanes number_of)

    -- k rows of links are those of one role from lane u
    leads_role : (role first k : ℕ) → k ≡ length (linked p.links n role)
        → ((j : ℕ) → j < length (linked p.links n role)
        → leads_to (plan_rows p).links (first + j) ≡ index_of (get_or (linked p.links n role) j 0) (numbers_of p) 0 256)
        → leads (plan_rows p).links first k v ≡ has_link p.links role n m
    leads_role role first k e rows =
        rw e (leads_holds (plan_rows p).links (linked p.links n role) first v (in_numbers v hv) rows ∙ holds_link p.links role n m)

    -- lane u is left for lane v by a change where a record says neighbour and none says successor
    pub changes_off_law : (let number = lane_number (plan_rows p).lanes in
        changes_off (plan_rows p).fans (plan_rows p).links u v
        ≡ (has_link p.links 2 (number u) (number v) && not (has_link p.links 0 (number u) (number v))))
    unfolding changes_off
    changes_off_law =
        let R = tabled p A in
        let lu = in_numbers u hu in
        let fans = (plan_rows p).fans in
        rw (R.number u lu, R.number v (in_numbers v hv))
        (ap₂ (λ (neighbour successor : Bool). neighbour && not successor)
        (leads_role 2 (first_neighbour fans u) (neighbours fans u) (R.neighbours_count u lu) (λ j l. R.neighbour_row u j lu l))
        (leads_role 0 (first_link fans u) (successors fans u) (R.successors_count u lu) (λ j l. R.successor_row u j lu l)))
