-- The positions moved on from the tables after opening are the plan's.
use Rattle.std.specs.Prelude.{List, refl, ◌≡◌, ℕ, ◌*◌, ◌≤◌, Float, length, take}
use Rattle.std.proofs.Common.{ap, ◌∙◌}
use Rattle.plan.specs.Accepted.{Accepted}
use Rattle.plan_format.specs.Laws.{Bytes}
use Rattle.plan_format.specs.Plan.{Decoded, Plan}
use Rattle.plan_format.specs.Reading.{opened}
use Rattle.plan_format.specs.Tables.{plan_rows}
use Rattle.plan_format.specs.declared.Counts.{Counts}
use Rattle.plan_format.specs.declared.LaneId.{LaneId}
use Rattle.plan_format.specs.declared.Read.{Read}
use Rattle.beside.specs.declared.LanePosition.{LanePosition}
use Rattle.branches.specs.Tables.{Bounded, Tabled, Tables, tables}
use Rattle.advance.specs.declared.Advanced.{Advanced}
use Rattle.advance.specs.Advance.{Answer, advance_rows}
use Rattle.advance.specs.InPlan.{advance_in, advance_of}
use Rattle.advance.specs.InPlanLaws.{bounded, tabled}
use Rattle.tables.specs.LaneTables.{Calls, LaneTables, Opens, lane_rows, too_short}
use Rattle.tables.specs.Opening.{bounds_now, cumulative_now, fans_now, found, lanes_now, links_now, places_now, points_now}
use Rattle.tables.specs.Opening.{sections_now, stations_now}
use Rattle.calling.specs.Calling.{calls_accepted}

abbrev pub position : LaneId → Float → Float → LanePosition
position lane s offset = record { lane = lane; s = s; offset = offset }

-- an answer with the lists as a call leaves them
abbrev pub with_lists : Advanced → List ℕ → List Float → Answer
with_lists a rows metres = record { advanced = a; rows = rows; metres = metres }

-- the front of each table, for a plan with these counts
abbrev pub cut : Counts → List ℕ → List Float → List Float → List ℕ → List ℕ → List ℕ → List Float → List ℕ → Tables
cut c lanes points cumulative fans links sections stations places =
    tables (take (6 * c.lanes) lanes) c.lanes (take (3 * c.points) points) (take c.points cumulative) (take (5 * c.lanes) fans)
    (take (2 * c.links) links) (take (4 * c.sections) sections) (take c.stations stations) (take (3 * c.places) places) c.places

-- what `advance_from` needs: the front of each table is there, and is the rows of a plan
pub record AdvanceFronts (c : Counts) (lanes : List ℕ) (points cumulative : List Float) (fans links sections : List ℕ)
    (bounds stations : List Float) (places : List ℕ) : Type 0 where
  pub lanes_there : 6 * c.lanes ≤ length lanes
  pub points_there : 3 * c.points ≤ length points
  pub arcs_there : c.points ≤ length cumulative
  pub fans_there : 5 * c.lanes ≤ length fans
  pub links_there : 2 * c.links ≤ length links
  pub sections_there : 4 * c.sections ≤ length sections
  pub bounds_there : 2 * c.sections ≤ length bounds
  pub stations_there : c.stations ≤ length stations
  pub places_there : 3 * c.places ≤ length places
  pub rows : Tabled (cut c lanes points cumulative fans links sections stations places)
  pub sections_bounded : Bounded (take (5 * c.lanes) fans) (take (3 * c.places) places) c.places (take (2 * c.sections) bounds)
      c.lanes

-- tables that are a plan's rows
module _ (p : Plan) (A : Accepted p) (n m : ℕ) (ls : List ℕ) (xs cs : List Float) (fs ks ss : List ℕ) (bs us : List Float) (ps : List ℕ)
    (few : n ≡ length p.lanes) (many : m ≡ length p.places) (l : ls ≡ (plan_rows p).lanes) (x : xs ≡ (plan_rows p).points)
    (c : cs ≡ (lane_rows p).cumulative) (f : fs ≡ (plan_rows p).fans) (k : ks ≡ (plan_rows p).links) (s : ss ≡ (plan_rows p).sections)
    (b : bs ≡ (plan_rows p).bounds) (u : us ≡ (plan_rows p).stations) (q : ps ≡ (plan_rows p).places) where
  tabled_of : Tabled (tables ls n xs cs fs ks ss us ps m)
  tabled_of = rw (l, x, c, f, k, s, u, q, few, many) (tabled p A)

  bounded_of : Bounded fs ps m bs n
  bounded_of = rw (f, q, b, few, many) (bounded p A)

  advance_of_law : (from : LanePosition) (distance : Float) (rows : List ℕ) (metres : List Float)
      → advance_rows (tables ls n xs cs fs ks ss us ps m) bs from distance rows metres ≡ advance_in p from distance rows metres
  unfolding advance_in
  advance_of_law from distance rows metres = rw (l, x, c, f, k, s, b, u, q, few, many)

-- the tables of an accepted file
module _ (side : ℕ) (f : List ℕ) (B : Bytes f) (r : Read) (t t' : LaneTables) (O : Opens (opened (too_short t) side f) r t t')
    (z : r.number ≡ 0) where
  abbrev c : Counts
  c = r.counts

  few : c.lanes ≡ length (found side f B r t t' O z).plan.lanes
  few = ap (λ (x : Counts). x.lanes) (found side f B r t t' O z).counts

  many : c.places ≡ length (found side f B r t t' O z).plan.places
  many = ap (λ (x : Counts). x.places) (found side f B r t t' O z).counts

  pub advance_fronts : AdvanceFronts c t'.plan.lanes t'.plan.points t'.cumulative t'.plan.fans t'.plan.links
      t'.plan.sections t'.plan.bounds t'.plan.stations t'.plan.places
  advance_fronts =
      let p = (found side f B r t t' O z).plan in
      let ok = (found side f B r t t' O z).ok in
      let L = lanes_now side f B r t t' O z c refl in
      let X = points_now side f B r t t' O z c refl in
      let C = cumulative_now side f B r t t' O z c refl in
      let F = fans_now side f B r t t' O z c refl in
      let K = links_now side f B r t t' O z c refl in
      let S = sections_now side f B r t t' O z c refl in
      let E = bounds_now side f B r t t' O z c refl in
      let U = stations_now side f B r t t' O z c refl in
      let P = places_now side f B r t t' O z c refl in
      record {
        lanes_there = L.long;
        points_there = X.long;
        arcs_there = C.long;
        fans_there = F.long;
        links_there = K.long;
        sections_there = S.long;
        bounds_there = E.long;
        stations_there = U.long;
        places_there = P.long;
        rows = tabled_of p ok _ _ _ _ _ _ _ _ _ _ _ few many L.is X.is C.is F.is K.is S.is E.is U.is P.is;
        sections_bounded = bounded_of p ok _ _ _ _ _ _ _ _ _ _ _ few many L.is X.is C.is F.is K.is S.is E.is
            U.is P.is;
      }

  pub advance_calls : (from : LanePosition) (distance : Float) (rows : List ℕ) (metres : List Float) (a : Answer)
      → a
      ≡ advance_rows (cut c t'.plan.lanes t'.plan.points t'.cumulative t'.plan.fans t'.plan.links t'.plan.sections
      t'.plan.stations t'.plan.places) (take (2 * c.sections) t'.plan.bounds) from distance rows metres
      → Calls (λ (d : Decoded). advance_of d from distance rows metres) side f a t t'
  advance_calls from distance rows metres a e =
      let p = (found side f B r t t' O z).plan in
      let ok = (found side f B r t t' O z).ok in
      let L = lanes_now side f B r t t' O z c refl in
      let X = points_now side f B r t t' O z c refl in
      let C = cumulative_now side f B r t t' O z c refl in
      let F = fans_now side f B r t t' O z c refl in
      let K = links_now side f B r t t' O z c refl in
      let S = sections_now side f B r t t' O z c refl in
      let E = bounds_now side f B r t t' O z c refl in
      let U = stations_now side f B r t t' O z c refl in
      let P = places_now side f B r t t' O z c refl in
      calls_accepted (λ (d : Decoded). advance_of d from distance rows metres) side f B r t t' O a z
      (e
      ∙ advance_of_law p ok _ _ _ _ _ _ _ _ _ _ _ few many L.is X.is C.is F.is K.is S.is E.is U.is P.is from
      distance rows metres)
