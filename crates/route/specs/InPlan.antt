-- An accepted plan's rows are what the route query asks of them, and its answer over the rows is the plan's.
use mathlib.Core.List.{List, [], map, map-append, ◌++◌, ◌∷◌}
use Rattle.std.proofs.Math.Path.{ap, ap₂, refl, sym}
use Rattle.std.proofs.Common.{◌∙◌, take-suc}
use Rattle.std.specs.Prelude.{◌≡◌, Float, get_or, length, take}
use Prim.Native.Nat.{suc, zero, ℕ, ◌≤◌}
use native.Mathlib.Omega.{arith}
use Rattle.std.proofs.Math.Seq.{take-length}
use Rattle.advance.specs.InPlanLaws.{laid}
use Rattle.coords.specs.declared.Point.{Point}
use Rattle.nearest.specs.PlanLanes.{lanes_are, searchable}
use Rattle.network.specs.Lanes.{Lane}
use Rattle.network.specs.Tables.{lanes_from}
use Rattle.optimality.specs.Chains.{length_of, lengths_of}
use Rattle.optimality.proofs.Theorem.{readable}
use Rattle.plan.specs.Accepted.{Accepted}
use Rattle.plan_format.specs.Plan.{Plan}
use Rattle.plan_format.specs.Tables.{plan_rows}
use Rattle.tables.specs.LaneTables.{lane_rows, no_lane}
use Rattle.tables.specs.Lines.{length_is}
use Rattle.route.specs.Route.{Routable, fitted, lengths_to, route_in, routed, tables_of}
use Rattle.route.specs.Steps.{length_lengths}

module _ (p : Plan) (A : Accepted p) where
  abbrev lanes : List ℕ
  lanes = (plan_rows p).lanes

  abbrev cumulative : List Float
  cumulative = (lane_rows p).cumulative

  lengths_first : (k : ℕ) → k ≤ length p.lanes → lengths_to lanes cumulative k ≡ map length_of (take k p.lanes)
  unfolding lengths_to
  lengths_first zero h = refl
  lengths_first (suc k) h =
      let more : map length_of (take (suc k) p.lanes) ≡ map length_of (take k p.lanes) ++ (length_of (get_or p.lanes k no_lane) ∷ [])
      = ap (map length_of) (take-suc p.lanes k no_lane h) ∙ map-append length_of (take k p.lanes) (get_or p.lanes k no_lane ∷ []) in
      ap₂ (λ (xs : List Float) (x : Float). xs ++ (x ∷ [])) (lengths_first k (omega arith)) (length_is p A k no_lane h) ∙ sym more

  -- the lengths of the lanes are those of the plan's records
  pub lengths_are : lengths_to lanes cumulative (length p.lanes) ≡ lengths_of p
  lengths_are = lengths_first (length p.lanes) (omega arith) ∙ ap (map length_of) (take-length p.lanes)

  pub routable : Routable (tables_of p) (length p.lanes)
  unfolding tables_of
  routable =
      let r = readable p A in
      let n = length_lengths lanes cumulative (length p.lanes) in
      record {
        searchable = searchable p A;
        laid = laid p A;
        readable = record { few = r.few; fans = r.fans; links = r.links; lengths = omega arith };
      }

  -- what `route` answers over the plan's rows
  pub route_is : (from to : Point) (chainRoom waypointRoom : ℕ)
      → fitted chainRoom waypointRoom
      (routed (tables_of p) (length p.lanes) (lanes_from (plan_rows p).lanes (plan_rows p).points (length p.lanes) 0) from to)
      ≡ route_in p from to chainRoom waypointRoom
  unfolding route_in
  route_is from to chainRoom waypointRoom =
      ap (λ (ls : List Lane). fitted chainRoom waypointRoom (routed (tables_of p) (length p.lanes) ls from to)) (lanes_are p A)
