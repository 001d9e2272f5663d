-- The lane beside from the tables after opening is the plan's.
use Rattle.std.specs.Prelude.{List, refl, ◌≡◌, ℕ, ◌*◌, ◌≤◌, Float, length, take}
use Rattle.std.proofs.Common.{ap, ◌∙◌}
use Rattle.plan.specs.Accepted.{Accepted}
use Rattle.plan_format.specs.Laws.{Bytes}
use Rattle.plan_format.specs.Plan.{Decoded, Plan}
use Rattle.plan_format.specs.Reading.{opened}
use Rattle.plan_format.specs.Tables.{plan_rows}
use Rattle.plan_format.specs.declared.Counts.{Counts}
use Rattle.plan_format.specs.declared.LaneId.{LaneId}
use Rattle.plan_format.specs.declared.Read.{Read}
use Rattle.beside.specs.declared.BesideAnswer.{BesideAnswer}
use Rattle.beside.specs.declared.LanePosition.{LanePosition}
use Rattle.beside.specs.Beside.{beside_rows, zero64}
use Rattle.beside.specs.InPlan.{beside_in, beside_of}
use Rattle.beside.specs.InPlanLaws.{beside_is, seated}
use Rattle.beside.specs.Seated.{Seated}
use Rattle.tables.specs.LaneTables.{Calls, LaneTables, Opens, too_short}
use Rattle.tables.specs.Opening.{bounds_now, fans_now, found, lanes_now, places_now}
use Rattle.calling.specs.Calling.{calls_accepted}

-- the center of a lane
abbrev pub centerline : LaneId → Float → LanePosition
centerline lane s = record { lane = lane; s = s; offset = zero64 }

-- what `beside_from` needs: the front of each table is there, and is the rows of a plan with these counts
pub record BesideFronts (c : Counts) (lanes fans places : List ℕ) (bounds : List Float) : Type 0 where
  pub lanes_there : 6 * c.lanes ≤ length lanes
  pub fans_there : 5 * c.lanes ≤ length fans
  pub places_there : 3 * c.places ≤ length places
  pub bounds_there : 2 * c.sections ≤ length bounds
  pub rows : Seated (take (6 * c.lanes) lanes) c.lanes (take (5 * c.lanes) fans) (take (3 * c.places) places) c.places
      (take (2 * c.sections) bounds)

-- tables that start with a plan's rows
module _ (p : Plan) (A : Accepted p) (n m : ℕ) (ls fs ps : List ℕ) (bs : List Float) (few : n ≡ length p.lanes)
    (many : m ≡ length p.places) (l : ls ≡ (plan_rows p).lanes) (f : fs ≡ (plan_rows p).fans) (q : ps ≡ (plan_rows p).places)
    (b : bs ≡ (plan_rows p).bounds) where
  seated_of : Seated ls n fs ps m bs
  seated_of = rw (l, f, q, b, few, many) (seated p A)

  beside_of_law : (at : LanePosition) (side : ℕ) → beside_rows ls n fs ps m bs at side ≡ beside_in p at side
  beside_of_law at side = rw (l, f, q, b, few, many) (beside_is p A at side)

-- the tables of an accepted file
module _ (side : ℕ) (f : List ℕ) (B : Bytes f) (r : Read) (t t' : LaneTables) (O : Opens (opened (too_short t) side f) r t t')
    (z : r.number ≡ 0) where
  abbrev c : Counts
  c = r.counts

  few : c.lanes ≡ length (found side f B r t t' O z).plan.lanes
  few = ap (λ (x : Counts). x.lanes) (found side f B r t t' O z).counts

  many : c.places ≡ length (found side f B r t t' O z).plan.places
  many = ap (λ (x : Counts). x.places) (found side f B r t t' O z).counts

  pub beside_fronts : BesideFronts c t'.plan.lanes t'.plan.fans t'.plan.places t'.plan.bounds
  beside_fronts =
      let L = lanes_now side f B r t t' O z c refl in
      let F = fans_now side f B r t t' O z c refl in
      let P = places_now side f B r t t' O z c refl in
      let S = bounds_now side f B r t t' O z c refl in
      record {
        lanes_there = L.long;
        fans_there = F.long;
        places_there = P.long;
        bounds_there = S.long;
        rows = seated_of (found side f B r t t' O z).plan (found side f B r t t' O z).ok _ _ _ _ _ _ few many L.is F.is
            P.is S.is;
      }

  pub beside_calls : (at : LanePosition) (a : BesideAnswer)
      → a
      ≡ beside_rows (take (6 * c.lanes) t'.plan.lanes) c.lanes (take (5 * c.lanes) t'.plan.fans)
      (take (3 * c.places) t'.plan.places) c.places (take (2 * c.sections) t'.plan.bounds) at side
      → Calls (λ (d : Decoded). beside_of d at side) side f a t t'
  beside_calls at a e =
      let L = lanes_now side f B r t t' O z c refl in
      let F = fans_now side f B r t t' O z c refl in
      let P = places_now side f B r t t' O z c refl in
      let S = bounds_now side f B r t t' O z c refl in
      calls_accepted (λ (d : Decoded). beside_of d at side) side f B r t t' O a z
      (e
      ∙ beside_of_law (found side f B r t t' O z).plan (found side f B r t t' O z).ok _ _ _ _ _ _ few many L.is F.is P.is
      S.is at side)
