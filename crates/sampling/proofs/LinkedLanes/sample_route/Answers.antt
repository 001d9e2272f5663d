-- `LinkedLanes::sample_route` keeps `Routing`: the lanes left make of the points now all the points of the path. It stops once there is no room.
use Rattle.std.specs.Prelude.{Float, List, [], ℕ, ◌+◌, ◌-◌, ◌<◌, ◌≡◌, drop, get_or, length, take}
use Rattle.std.proofs.Common.{◌∙◌, ap, arith, refl, rules}
use Rattle.std.proofs.lemmas.Grind.{get_or_after_one}
use Rattle.std.proofs.lemmas.List.{get_or-take}
use Rattle.coords.specs.Coords.{zero⁺}
use Rattle.float.specs.Choose.{clamp_of}
use Rattle.sampling.specs.Kept.{kept_of}
use Rattle.sampling.specs.Passes.{PathRows, length_laid, routing_ends, routing_next, routing_starts, routing_stops}
use Rattle.sampling.specs.Sampling.{entry_on}
use Rattle.sampling.specs.Structs.{tables_in}
use Rattle.sampling.proofs.LinkedLanes.sample_route.Goals as goal

-- the lanes of the loop are those of the path from its second on
next_row : (path : List ℕ) (k : ℕ) → k + 1 < length path → get_or (take (length path - 1) (drop 1 path)) k 0 ≡ get_or path (k + 1) 0
next_row path k h =
    let from_one : 1 + k ≡ k + 1 = omega arith in
    get_or-take (length path - 1) (drop 1 path) k 0 (omega arith) ∙ get_or_after_one path k 0 ∙ ap (λ (i : ℕ). get_or path i 0) from_one

next_in : (path : List ℕ) (n k : ℕ) → PathRows path n → k + 1 < length path → get_or (take (length path - 1) (drop 1 path)) k 0 < n
next_in path n k P h = rw (next_row path k h) (P.each (k + 1) h)

pub loop-next-init : goal.loop-next-init
loop-next-init c =
    let a = c.args in
    let blank : c.default-kept.result ≡ kept_of [] = search (rules, c.default-kept.ensures) in
    record {
      routed = rw blank
          (routing_starts (tables_in a.self.now) a.goal_s a.path.now a.self.now.lanes.count a.start_s c.clamp-entry.result a.out.now a.room.points
          c.requires (c.clamp-entry.ensures ∙ ap (λ (x : Float). clamp_of a.start_s zero⁺ x) c.length.ensures));
      same = refl;
    }

pub exit_for-exit-requires : goal.exit_for-exit-requires
exit_for-exit-requires c =
    let l = c.loop-next in
    (l.invariant.routed.lane, next_in c.args.path.now c.args.self.now.lanes.count l.next-index c.requires (omega arith))

pub returns-then-room-kept : goal.returns-then-room-kept
returns-then-room-kept c =
    let a = c.args in
    let l = c.loop-next in
    let R = l.invariant.routed in
    let later : l.next-index + 1 < length a.path.now = omega arith in
    routing_stops (tables_in a.self.now) a.goal_s a.path.now a.self.now.lanes.count _ a.out.now a.room.points (l.next-index + 1) l.i l.entry
    l.kept l.out R
    c.exit_for-exit.result _ _ (c.sample_lane.ensures R.points a.out.now R.kept R.written) _ later (next_row a.path.now l.next-index later)
    c.exit_for-exit.ensures c.if-room-kept.true

pub entry_on-entry-requires : goal.entry_on-entry-requires
entry_on-entry-requires c =
    next_in c.args.path.now c.args.self.now.lanes.count c.loop-next.next-index c.requires (omega arith)

pub loop-next-preserved : goal.loop-next-preserved
loop-next-preserved c =
    let a = c.args in
    let l = c.loop-next in
    let s = a.self.now.lanes in
    let R = l.invariant.routed in
    let later : l.next-index + 1 < length a.path.now = omega arith in
    let R' = routing_next (tables_in a.self.now) a.goal_s a.path.now s.count _ a.out.now a.room.points (l.next-index + 1) l.i l.entry
    l.kept l.out R
    c.exit_for-exit.result _ _ (c.sample_lane.ensures R.points a.out.now R.kept R.written) _ later (next_row a.path.now l.next-index later)
    c.exit_for-exit.ensures c.requires c.entry_on-entry.result c.if-room-kept.false
    (c.entry_on-entry.ensures ∙ ap (entry_on s.rows.now s.points.now s.cumulative.now _) c.point_on.ensures) in
    record { routed = R'; same = ap length R'.written ∙ length_laid R'.points a.out.now }

pub returns : goal.returns
returns c =
    let a = c.args in
    let l = c.loop-next in
    let R = l.invariant.routed in
    routing_ends (tables_in a.self.now) a.goal_s a.path.now a.self.now.lanes.count _ a.out.now a.room.points (l.next-index + 1) l.i l.entry
    l.kept l.out R
    c.exit_at-exit.result _ _ (c.sample_lane-2.ensures R.points a.out.now R.kept R.written) (omega arith) c.exit_at-exit.ensures
