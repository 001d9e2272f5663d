-- Worked cases of a route, by computation over small plans: a lane change, lanes driven against their centre lines, lists that are too short.
-- The Rust gives the same points: the oracle over the same plans. Document 01's own cases stand in crate cases, and as printed in crate replies.
use Rattle.std.specs.Prelude.{List, [], ◌∷◌, ◌≡◌, refl, ℕ, Float, pos}
use Rattle.std.specs.Float.Ieee.{add, div, eq, is_nan, le, lt, mul, neg, of_bits, of_int, sub, to_unsigned}
use Rattle.std.specs.Float.{binary32}
use Rattle.coords.specs.Coords.{cross_of, length_of, normalize_or}
use Rattle.coords.specs.declared.Point.{Point}
use Rattle.float.specs.Root.{sqrt_of}
use Rattle.float.specs.Sign.{abs_of, signum_of}
use Rattle.float.specs.Whole.{ceil_of}
use Rattle.geometry.specs.Locate.{local_t, locate_of, point_along, segment_of}
use Rattle.geometry.specs.Partition.{leading}
use Rattle.geometry.specs.Polyline.{arc_at, cumulative_of, point_at}
use Rattle.geometry.specs.Project.{fraction_along, hit_along, left_normal, nearer_at, project_segments, project_to}
use Rattle.nearest.specs.Nearest.{lanes_after}
use Rattle.network.specs.Nearest.{nearest_lane}
use Rattle.plan_format.specs.Plan.{Plan, index_of}
use Rattle.plan_format.specs.Records.{Lane, Link}
use Rattle.plan_format.specs.Tables.{linked, plan_rows, rows, rows_from}
use Rattle.sampling.specs.Kept.{first_of, flat, pushed}
use Rattle.sampling.specs.Sampling.{changes_off, exit_at, exit_for, is_ahead, is_forward, leads, nearer_end, sample_from, sample_lanes, sample_route}
use Rattle.sampling.specs.Sampling.{sample_span, steps_of, toward, travel_end}
use Rattle.search.specs.LaneGraph.{edges, out}
use Rattle.search.specs.Search.{blank, expanded, least_open, marked, rebuild, relaxed, run, searched, settled}
use Rattle.tables.specs.LaneTables.{lane_rows}
use Rattle.route.specs.Route.{Routed, between, fitted, followed, lengths_to, path_by, refusal, route_in, routed, suffices, tables_of}
use Rattle.std.specs.Float.{nan}

-- ---- the plans

abbrev m : ℕ → Float
m n = of_int binary32 (pos n)

-- (x,y,0), and on the x axis
abbrev point : Float → Float → Point
point x y = record { x = x; y = y; z = m 0 }

abbrev at : ℕ → Point
at x = point (m x) (m 0)

-- (-x,0,0), and (x,4,0)
abbrev west : ℕ → Point
west x = point (neg (m x)) (m 0)

abbrev beside : ℕ → Point
beside x = point (m x) (m 4)

abbrev xyz : List Point → List Float
xyz [] = []
xyz (p ∷ ps) = p.x ∷ p.y ∷ p.z ∷ xyz ps

-- a Driving lane; directions are 0 Forward, 1 Backward, 2 Both
abbrev lane : ℕ → ℕ → Point → Point → Lane
lane direction n a b =
    record { number = n; type = 1; direction = direction; ends = 0; count = 2; points = xyz (a ∷ b ∷ []); tangents = [] }

-- roles are 0 successor, 2 neighbour
abbrev link : ℕ → ℕ → ℕ → Link
link from role to = record { from = from; role = role; to = to }

abbrev plan : List Lane → List Link → Plan
plan ls ks = record { lanes = ls; links = ks; sections = []; places = []; queries = [] }

-- two parallel lanes of 16 m; two lanes end to end, on which one drives west; lane 1 of both directions, with a lane on at each end
abbrev parallel : List Link → Plan
parallel = plan (lane 0 1 (at 0) (at 16) ∷ lane 0 2 (beside 0) (beside 16) ∷ [])

abbrev backward : Plan
backward = plan (lane 1 1 (at 0) (at 8) ∷ lane 1 2 (west 8) (at 0) ∷ []) (link 1 0 2 ∷ [])

abbrev two_way : Plan
two_way = plan (lane 2 1 (at 0) (at 8) ∷ lane 2 2 (west 8) (at 0) ∷ lane 2 3 (at 8) (at 16) ∷ []) (link 1 0 2 ∷ link 1 0 3 ∷ [])

-- document 01's printed plan
abbrev straight : Plan
straight = plan (lane 0 1 (at 0) (at 8) ∷ lane 0 2 (at 8) (at 16) ∷ []) (link 1 0 2 ∷ [])

-- ---- the answers

unfoldable sampled : Plan → List ℕ → Float → Float → List Point
unfolding tables_of plan_rows lane_rows rows rows_from linked index_of is_ahead sample_route sample_lanes sample_span sample_from steps_of exit_for
    exit_at travel_end is_forward nearer_end changes_off leads toward pushed cumulative_of arc_at point_at point_along locate_of segment_of local_t leading
    project_segments project_to nearer_at fraction_along hit_along left_normal length_of normalize_or cross_of abs_of signum_of ceil_of sqrt_of
    add sub mul div lt le eq of_bits to_unsigned of_int is_nan
sampled p path s t = sample_route (tables_of p) path s t

unfoldable route : Plan → Point → Point → ℕ → ℕ → Routed
unfolding sampled route_in fitted routed between followed path_by suffices lengths_to searched run rebuild least_open relaxed expanded settled marked
    blank edges out flat nearest_lane lanes_after
route p from to chainRoom waypointRoom = route_in p from to chainRoom waypointRoom

-- a route over two lanes, and what it costs
abbrev over : ℕ → List Point → Float → Routed
over n ps cost = record { number = 0; chain = 1 ∷ n ∷ []; points = xyz ps; length = cost }

-- ---- a lane change

-- 10 m on, then beside; where the lane ends sooner, at its end
change : route (parallel (link 1 2 2 ∷ [])) (at 2) (beside 16) 257 12288
    ≡ over 2 (at 2 ∷ at 4 ∷ at 6 ∷ at 8 ∷ at 10 ∷ at 12 ∷ beside 12 ∷ beside 14 ∷ beside 16 ∷ []) (m 30)
unfolding route
change = refl

change_at_end : route (parallel (link 1 2 2 ∷ [])) (at 10) (beside 16) 257 12288
    ≡ over 2 (at 10 ∷ at 12 ∷ at 14 ∷ at 16 ∷ beside 16 ∷ []) (m 30)
unfolding route
change_at_end = refl

-- a neighbour that is a successor too: the lane is driven to its end
no_change : route (parallel (link 1 2 2 ∷ link 1 0 2 ∷ [])) (at 2) (beside 16) 257 12288
    ≡ over 2 (at 2 ∷ at 4 ∷ at 6 ∷ at 8 ∷ at 10 ∷ at 12 ∷ at 14 ∷ at 16 ∷ beside 16 ∷ []) (m 16)
unfolding route
no_change = refl

-- ---- against the centre line

-- a Backward lane
against : route backward (at 6) (west 4) 257 12288 ≡ over 2 (at 6 ∷ at 4 ∷ at 2 ∷ at 0 ∷ west 2 ∷ west 4 ∷ []) (m 8)
unfolding route neg
against = refl

-- a Both lane is driven toward the next one
both_down : route two_way (at 6) (west 4) 257 12288 ≡ over 2 (at 6 ∷ at 4 ∷ at 2 ∷ at 0 ∷ west 2 ∷ west 4 ∷ []) (m 8)
unfolding route neg
both_down = refl

both_up : route two_way (at 6) (at 12) 257 12288 ≡ over 3 (at 6 ∷ at 8 ∷ at 10 ∷ at 12 ∷ []) (m 8)
unfolding route neg
both_up = refl

-- ---- lists that are too short

-- the printed route has six points: in a list one entry short of them, 14
one_short : route straight (at 2) (at 12) 2 17 ≡ refusal 14
unfolding route
one_short = refl

-- a pass with room for two points keeps three
one_past : first_of 3 (sampled straight (0 ∷ 1 ∷ []) (m 2) (m 4)) ≡ at 6 ∷ at 4 ∷ at 2 ∷ []
unfolding sampled first_of
one_past = refl

-- ---- lanes with heights, each of which the Rust was asked for too: points by the bits of their coordinates

abbrev bits : ℕ → ℕ → ℕ → Point
bits x y z = record { x = of_bits binary32 x; y = of_bits binary32 y; z = of_bits binary32 z }

-- in whole metres
abbrev high : ℕ → ℕ → ℕ → Point
high x y z = record { x = m x; y = m y; z = m z }

-- up one slope, 6 m on and 8 m up, and up another, 12 m on and 5 m up: s goes along the slope. From beside (0.6, 0, 0.8) to beside (6, 6, 10.5)
abbrev climb : Plan
climb = plan (lane 0 1 (high 0 0 0) (high 6 0 8) ∷ lane 0 2 (high 6 0 8) (high 6 12 13) ∷ []) (link 1 0 2 ∷ [])

climbed : route climb (bits 0x3f19999a 0x3f000000 0x3f4ccccd) (bits 0x40a00000 0x40c00000 0x41280000) 257 12288
    ≡ over 2
    (bits 0x3f19999a 0 0x3f4ccccd ∷ bits 0x3fd70a3f 0 0x400f5c2a ∷ bits 0x4030a3d8 0 0x406b8520 ∷ bits 0x4075c28f 0 0x40a3d70a
    ∷ bits 0x409d70a4 0 0x40d1eb86 ∷ bits 0x40c00000 0 0x41000000 ∷ bits 0x40c00000 0x3fc00000 0x410a0000
    ∷ bits 0x40c00000 0x40400000 0x41140000 ∷ bits 0x40c00000 0x40900000 0x411e0000 ∷ bits 0x40c00000 0x40c00000 0x41280000 ∷ [])
    (m 10)
unfolding route
climbed = refl

-- 10 m on up a slope of 20 m, then to the lane beside, 4 m to the left and 1 m higher: at the place nearest in space, which lies back
abbrev slopes : Plan
slopes = plan (lane 0 1 (high 0 0 0) (high 12 0 16) ∷ lane 0 2 (high 0 4 1) (high 12 4 17) ∷ []) (link 1 2 2 ∷ [])

changed : route slopes (high 0 0 0) (high 12 4 17) 257 12288
    ≡ over 2
    (bits 0 0 0 ∷ bits 0x3f99999a 0 0x3fcccccd ∷ bits 0x4019999a 0 0x404ccccd ∷ bits 0x40666667 0 0x4099999a
    ∷ bits 0x4099999a 0 0x40cccccd ∷ bits 0x40c00000 0 0x41000000 ∷ bits 0x40b0a3d6 0x40800000 0x4105c28f
    ∷ bits 0x40d33334 0x40800000 0x411ccccd ∷ bits 0x40f5c28f 0x40800000 0x4133d70a ∷ bits 0x410c28f6 0x40800000 0x414ae148
    ∷ bits 0x411d70a4 0x40800000 0x4161eb85 ∷ bits 0x412eb852 0x40800000 0x4178f5c3 ∷ bits 0x41400000 0x40800000 0x41880000 ∷ [])
    (m 30)
unfolding route
changed = refl

-- a Both lane straight up, driven toward a lane from its upper end, and toward one from its lower end
abbrev shaft : Plan
shaft =
    plan (lane 2 1 (high 0 0 0) (high 0 0 8) ∷ lane 0 2 (high 0 0 8) (high 6 0 8) ∷ lane 0 3 (high 0 0 0) (high 6 0 0) ∷ [])
    (link 1 0 2 ∷ link 1 0 3 ∷ [])

shaft_up : route shaft (high 0 0 3) (high 3 0 8) 257 12288
    ≡ over 2
    (bits 0 0 0x40400000 ∷ bits 0 0 0x40955556 ∷ bits 0 0 0x40caaaab ∷ bits 0 0 0x41000000 ∷ bits 0x3fc00000 0 0x41000000
    ∷ bits 0x40400000 0 0x41000000 ∷ [])
    (m 8)
unfolding route
shaft_up = refl

shaft_down : route shaft (high 0 0 3) (high 3 0 0) 257 12288
    ≡ over 3
    (bits 0 0 0x40400000 ∷ bits 0 0 0x3fc00000 ∷ bits 0 0 0 ∷ bits 0x3fc00000 0 0 ∷ bits 0x40400000 0 0 ∷ [])
    (m 8)
unfolding route
shaft_down = refl

-- a bridge 6 m over a road: the lane is the one nearer in space, midway the first. On one lane the length is 0
abbrev bridge : Plan
bridge = plan (lane 0 1 (high 0 0 0) (high 8 0 0) ∷ lane 0 2 (high 0 0 6) (high 8 0 6) ∷ []) []

abbrev alone : ℕ → List Point → Routed
alone n ps = record { number = 0; chain = n ∷ []; points = xyz ps; length = m 0 }

on_the_bridge : route bridge (high 1 0 4) (bits 0x40c00000 0 0x40600000) 257 12288
    ≡ alone 2
    (bits 0x3f800000 0 0x40c00000 ∷ bits 0x402aaaab 0 0x40c00000 ∷ bits 0x408aaaab 0 0x40c00000 ∷ bits 0x40c00000 0 0x40c00000 ∷ [])
unfolding route
on_the_bridge = refl

under_the_bridge : route bridge (high 1 0 3) (high 6 0 3) 257 12288
    ≡ alone 1
    (bits 0x3f800000 0 0 ∷ bits 0x402aaaab 0 0 ∷ bits 0x408aaaab 0 0 ∷ bits 0x40c00000 0 0 ∷ [])
unfolding route
under_the_bridge = refl

-- ---- refusals

-- all other fields of a refused answer are zero
zeros : (n : ℕ) → refusal n ≡ record { number = n; chain = []; points = []; length = of_bits binary32 0 }
zeros n = refl

-- 9: a coordinate of the first point, or of the second, is not finite, whatever the plan. 10: no lane drives. 11: nothing leads to the other
-- lane, nor back on the same
refused :
    (route (plan [] []) (point nan (m 0)) (at 0) 257 12288 ≡ refusal 9)
    × (route bridge (at 0) (point (m 0) (of_bits binary32 0x7f800000)) 257 12288 ≡ refusal 9)
    × (route (plan [] []) (at 0) (at 0) 257 12288 ≡ refusal 10)
    × (route bridge (high 0 0 0) (high 0 0 6) 257 12288 ≡ refusal 11)
    × (route bridge (at 6) (at 2) 257 12288 ≡ refusal 11)
unfolding route
refused = (refl, refl, refl, refl, refl)

-- ---- lists that are too short or just hold the answer

-- in a list for one lane, 14; in lists that just hold it, the route
one_lane_short : route straight (at 2) (at 12) 1 18 ≡ refusal 14
unfolding route
one_lane_short = refl

just_held : route straight (at 2) (at 12) 2 18 ≡ over 2 (at 2 ∷ at 4 ∷ at 6 ∷ at 8 ∷ at 10 ∷ at 12 ∷ []) (m 8)
unfolding route
just_held = refl
