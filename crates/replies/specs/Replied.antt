-- What a call answers over the program's lists has room in `room` bytes, and written out it is the reply.
use Rattle.std.specs.Prelude.{List, ◌≡◌, ℕ, ◌*◌, ◌+◌, ◌/◌, ◌≤◌, Float, length, take}
use Rattle.std.proofs.Common.{ap, ◌∙◌, arith, length-take-le}
use Rattle.std.specs.Float.{binary32, binary64}
use Rattle.std.specs.Float.Ieee.{of_bits}
use Rattle.std.proofs.lemmas.List.{length-replicate}
use Rattle.advance.specs.InPlan.{advance_of}
use Rattle.advance.specs.declared.Advanced.{Advanced}
use Rattle.beside.specs.InPlan.{beside_of}
use Rattle.beside.specs.declared.BesideAnswer.{BesideAnswer}
use Rattle.calling.specs.Calling.{point}
use Rattle.lanes_advance.specs.Advance.{position, with_lists}
use Rattle.lanes_beside.specs.Beside.{centerline}
use Rattle.lanes_route.specs.Route.{lists_of, route_of}
use Rattle.plan_format.specs.Plan.{decode}
use Rattle.plan_format.specs.declared.LaneId.{LaneId}
use Rattle.plan_format.specs.declared.Query.TheVariants.{Advance, Beside, Route}
use Rattle.route.specs.declared.RouteAnswer.{RouteAnswer}
use Rattle.text.specs.Lines.{advance_text, beside_text, route_text}
use Rattle.text.specs.Fronts.{advance_front, route_front}
use Rattle.text.specs.Page.{Adds, adds_within}
use Rattle.arrayvec.specs.ArrayVec.{ArrayVec}
use Rattle.replies.specs.Fits.{AdvanceFits, RouteFits, advance_fits, route_fits}
use Rattle.replies.specs.Printed.{advance_text_of, beside_text_of, chain_list, metre_list, reply_to, room, route_text_of, row_list, waypoint_list}

module _ (f : List ℕ) (x y z u v w : Float) (r : RouteAnswer) (chain : List ℕ) (waypoints : List Float)
    (e : lists_of r chain waypoints ≡ route_of (decode 0 f) (point x y z) (point u v w) chain_list waypoint_list) where
  fits : RouteFits (lists_of r chain waypoints) chain_list waypoint_list
  fits = rw e (route_fits chain_list waypoint_list (decode 0 f) (point x y z) (point u v w))

  pub route_room : (r.lanes ≤ length chain) × (3 * r.points ≤ length waypoints) × (78 + 26 * r.lanes + 33 * r.points ≤ room)
  route_room =
      let F = fits in
      let a = length-replicate {A = ℕ} 257 0 in
      let b = length-replicate 12288 (of_bits binary32 0) in
      omega arith

  abbrev pub front : List ℕ
  front = take r.lanes chain

  abbrev pub points_front : List Float
  points_front = take (3 * r.points) waypoints

  pub front_room : 78 + 26 * length front + 33 * (length points_front / 3) ≤ room
  front_room =
      let R = route_room in
      let l = length-take-le r.lanes chain R.0 in
      let m = length-take-le (3 * r.points) waypoints R.1 in
      omega arith

  pub route_replied : {old new : ArrayVec ℕ}
      → Adds (route_text r.number (length front) (length points_front / 3) r.length front points_front)
      (78 + 26 * length front + 33 * (length points_front / 3)) old new
      → Adds (reply_to f (Route x y z u v w)) room old new
  unfolding reply_to
  route_replied P =
      let R = route_room in
      adds_within (route_front r.number r.lanes r.points r.length chain waypoints R.0 R.1 ∙ ap route_text_of e) front_room P

module _ (f : List ℕ) (lane : LaneId) (s offset distance : Float) (a : Advanced) (rows : List ℕ) (metres : List Float)
    (e : with_lists a rows metres ≡ advance_of (decode 0 f) (position lane s offset) distance row_list metre_list) where
  advance_within : AdvanceFits (with_lists a rows metres) row_list metre_list
  advance_within = rw e (advance_fits row_list metre_list (decode 0 f) (position lane s offset) distance)

  pub advance_room : (2 * a.positions ≤ length rows) × (3 * a.positions ≤ length metres) × (71 + 76 * a.positions ≤ room)
  advance_room =
      let F = advance_within in
      let m = length-replicate {A = ℕ} 512 0 in
      let k = length-replicate 768 (of_bits binary64 0) in
      omega arith

  abbrev pub rows_front : List ℕ
  rows_front = take (2 * a.positions) rows

  abbrev pub metres_front : List Float
  metres_front = take (3 * a.positions) metres

  pub rows_room : (length rows_front / 2 ≡ length metres_front / 3) × (71 + 76 * (length rows_front / 2) ≤ room)
  rows_room =
      let R = advance_room in
      let l = length-take-le (2 * a.positions) rows R.0 in
      let m = length-take-le (3 * a.positions) metres R.1 in
      omega arith

  pub advance_replied : {old new : ArrayVec ℕ}
      → Adds (advance_text a.number a.keys (length rows_front / 2) rows_front metres_front) (71 + 76 * (length rows_front / 2)) old new
      → Adds (reply_to f (Advance lane s offset distance)) room old new
  unfolding reply_to
  advance_replied P =
      let R = advance_room in
      let h = rows_room in
      adds_within (advance_front a.number a.keys a.positions rows metres R.0 R.1 ∙ ap advance_text_of e) (omega arith) P

pub beside_replied : (f : List ℕ) (lane : LaneId) (s : Float) (side : ℕ) (b : BesideAnswer) → b ≡ beside_of (decode side f) (centerline lane s) side
    → {old new : ArrayVec ℕ} → Adds (beside_text b.number b.at.lane.0 b.at.s b.at.offset) 86 old new
    → Adds (reply_to f (Beside lane s side)) room old new
unfolding reply_to
beside_replied f lane s side b e P = adds_within (ap beside_text_of e) (omega arith) P
