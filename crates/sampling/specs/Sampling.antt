-- route.rs, `sample_route` and what it calls: the points of a path of lanes, over the plan's rows. A lane is its row. Definitions only.
use Rattle.std.specs.Prelude.{Bool, cond, false, not, true, ◌&&◌, ◌||◌, List, [], ◌∷◌, suc, zero, ℕ, ◌+◌, eqb, Float, pos}
use Rattle.std.specs.Float.Ieee.{add, div, le, lt, mul, of_bits, of_int, sub, to_unsigned}
use Rattle.std.specs.Float.{binary32}
use Rattle.branches.specs.Branches.{away_from, head_of, tail_of}
use Rattle.coords.specs.Coords.{one⁺, zero⁺}
use Rattle.coords.specs.declared.Point.{Point}
use Rattle.float.specs.Choose.{clamp_of, max_of, min_of}
use Rattle.float.specs.Sign.{abs_of, signum_of}
use Rattle.float.specs.Whole.{ceil_of}
use Rattle.geometry.specs.Locate.{point_along}
use Rattle.geometry.specs.Project.{project_of}
use Rattle.rows.specs.Rows.{arcs_of, direction_of, first_link, first_neighbour, leads_to, length_of, neighbours, points_of, successors}
use Rattle.sampling.specs.Kept.{pushed}

-- the tables that a route reads
pub record RouteTables : Type 0 where
  pub lanes : List ℕ
  pub points : List Float
  pub cumulative : List Float
  pub fans : List ℕ
  pub links : List ℕ

abbrev pub route_tables : List ℕ → List Float → List Float → List ℕ → List ℕ → RouteTables
route_tables lanes points cumulative fans links =
    record { lanes = lanes; points = points; cumulative = cumulative; fans = fans; links = links }

-- ---- 1e-4, the 2 m between samples, and the 10 m before a lane change, as f32
abbrev pub tiny : Float
tiny = of_bits binary32 0x38d1b717

abbrev pub route_step : Float
route_step = of_bits binary32 0x40000000

abbrev pub change_distance : Float
change_distance = of_bits binary32 0x41200000

-- `ahead`: whether `to` is reachable from `from` along a lane of this direction (0 Forward, 1 Backward, 2 Both)
unfoldable pub is_ahead : ℕ → Float → Float → Bool
is_ahead direction from to = cond (eqb direction 0) (le from to) (cond (eqb direction 1) (le to from) true)

-- `advance`: the arc length `dist` on from the arc length `from`, up or down toward the arc length `to`, and never past that
unfoldable pub toward : Float → Float → Float → Float
toward from to dist =
    clamp_of (add binary32 from (mul binary32 (signum_of (sub binary32 to from)) dist)) (min_of from to) (max_of from to)

-- ---- samples of one lane

-- how many steps a span takes: at most 2 m each (`spaced` in Spacing.antt), and at least one
unfoldable pub steps_of : Float → ℕ
steps_of span = to_unsigned 64 (max_of (ceil_of (div binary32 (abs_of span) route_step)) one⁺)

-- the arc length of sample k of a span
abbrev pub sample_at : Float → Float → ℕ → ℕ → Float
sample_at entry span steps k =
    add binary32 entry (mul binary32 span (div binary32 (of_int binary32 (pos k)) (of_int binary32 (pos steps))))

-- n samples from sample k on, after the points ps; `point` is the point at an arc length
unfoldable pub sample_from : (Float → Point) → Float → Float → ℕ → ℕ → ℕ → List Point → List Point
sample_from point entry span steps zero k ps = ps
sample_from point entry span steps (suc n) k ps =
    sample_from point entry span steps n (k + 1) (pushed ps (point (sample_at entry span steps k)))

-- `sample_segment`; the Bool says whether the span is under 1e-4
unfoldable pub sample_span : Bool → (Float → Point) → Float → Float → List Point → List Point
sample_span true point entry span ps = pushed ps (point entry)
sample_span false point entry span ps = let steps = steps_of span in sample_from point entry span steps (steps + 1) 0 ps

abbrev pub sample_segment : (Float → Point) → Float → Float → List Point → List Point
sample_segment point entry exit ps = let span = sub binary32 exit entry in sample_span (lt (abs_of span) tiny) point entry span ps

-- ---- lanes

-- whether one of n links from row `first` on leads to the lane
unfoldable pub leads : List ℕ → ℕ → ℕ → ℕ → Bool
leads links first zero lane = false
leads links first (suc n) lane = eqb (leads_to links first) lane || leads links (first + 1) n lane

-- whether lane i is left for the lane `next` by a lane change: `next` is a neighbour and no successor
unfoldable pub changes_off : List ℕ → List ℕ → ℕ → ℕ → Bool
changes_off fans links i next =
    leads links (first_neighbour fans i) (neighbours fans i) next && not (leads links (first_link fans i) (successors fans i) next)

module _ (lanes : List ℕ) (points cumulative : List Float) where
  -- the point at an arc length of lane i, and the arc length of the point on lane i that is nearest to p
  abbrev pub point_on : ℕ → Float → Point
  point_on i s = point_along (points_of lanes points i) (arcs_of lanes cumulative i) s

  abbrev pub entry_on : ℕ → Point → Float
  entry_on i p = (project_of (points_of lanes points i) (arcs_of lanes cumulative i) p).s

  -- `nearer_end`: whether the lane `next` lies nearer the end of lane i than its start
  unfoldable pub nearer_end : ℕ → ℕ → Bool
  nearer_end i next =
      le (away_from lanes points cumulative next (tail_of lanes points cumulative i))
      (away_from lanes points cumulative next (head_of lanes points i))

  -- whether lane i is driven along its centre line: a lane of both directions toward the next lane
  unfoldable pub is_forward : ℕ → ℕ → Bool
  is_forward i next = cond (eqb (direction_of lanes i) 0) true (cond (eqb (direction_of lanes i) 1) false (nearer_end i next))

  -- the end by which it is left
  unfoldable pub travel_end : ℕ → ℕ → Float
  travel_end i next = cond (is_forward i next) (length_of lanes cumulative i) zero⁺

-- where lane i, entered at `entry`, ends the route: at the goal, if that lies ahead
unfoldable pub exit_at : List ℕ → List Float → ℕ → Float → Float → Float
exit_at lanes cumulative i entry goalS =
    let goal = clamp_of goalS zero⁺ (length_of lanes cumulative i) in
    cond (is_ahead (direction_of lanes i) entry goal) goal entry

module _ (T : RouteTables) where
  -- and where it is left for `next`: a change goes at most 10 m on
  unfoldable pub exit_for : ℕ → ℕ → Float → Float
  exit_for i next entry =
      let end = travel_end T.lanes T.points T.cumulative i next in
      cond (changes_off T.fans T.links i next) (toward entry end change_distance) end

  abbrev pub point_in : ℕ → Float → Point
  point_in i s = point_on T.lanes T.points T.cumulative i s

  -- the next lane is entered beside the point where lane i is left
  abbrev pub entry_after : ℕ → Float → ℕ → Float
  entry_after i exit next = entry_on T.lanes T.points T.cumulative next (point_in i exit)

  -- the lanes from i on, which is entered at `entry`, after the points ps
  unfoldable pub sample_lanes : Float → ℕ → Float → List ℕ → List Point → List Point
  sample_lanes goalS i entry [] ps = sample_segment (point_in i) entry (exit_at T.lanes T.cumulative i entry goalS) ps
  sample_lanes goalS i entry (next ∷ rest) ps =
      let exit = exit_for i next entry in
      sample_lanes goalS next (entry_after i exit next) rest (sample_segment (point_in i) entry exit ps)

  -- where the first lane is entered
  abbrev pub entry_first : ℕ → Float → Float
  entry_first i startS = clamp_of startS zero⁺ (length_of T.lanes T.cumulative i)

  -- `sample_route` of a path: its points, from the last back to the first
  unfoldable pub sample_route : List ℕ → Float → Float → List Point
  sample_route [] startS goalS = []
  sample_route (i ∷ rest) startS goalS = sample_lanes goalS i (entry_first i startS) rest []
