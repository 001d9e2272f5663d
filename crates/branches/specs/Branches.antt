-- advance.rs: a branch in flight, the keys by which branches are told apart, and where a branch goes on. Definitions only.
use Rattle.std.specs.Prelude.{Bool, false, cond, not, ◌&&◌, ◌||◌, List, [], ◌∷◌, ℕ, ◌+◌, ◌-◌, eqb, ltb, length, Float}
use Rattle.std.specs.Float.{binary32, binary64}
use Rattle.std.specs.Float.Ieee.{sub, mul, le, of_bits, to_bits, to_signed}
use Rattle.std.specs.Int.{w64}
use Rattle.std.proofs.Common.{of_z}
use Rattle.float.specs.Whole.{round_of}
use Rattle.coords.specs.declared.Point.{Point}
use Rattle.coords.specs.Coords.{zero⁺, sub_of, length_squared, distance_to}
use Rattle.geometry.specs.Polyline.{point_at}
use Rattle.geometry.specs.Locate.{point_along}
use Rattle.geometry.specs.Project.{project_of}
use Rattle.road.specs.Along.{one64}
use Rattle.rows.specs.Rows.{lane_number, direction_of, points_of, arcs_of, length_of, first_link, successors, predecessors}
use Rattle.branches.specs.declared.Branch.{Branch}
use Rattle.branches.specs.declared.Key.{Key}
use Rattle.branches.specs.declared.Leaving.{Leaving}
use Rattle.branches.specs.Tables.{Tables, led_to}

-- ---- numbers

-- -1 and 1000 as f64
abbrev pub minus_one64 : Float
minus_one64 = of_bits binary64 0xbff0000000000000

abbrev pub thousand : Float
thousand = of_bits binary64 0x408f400000000000

-- whole millimetres: `(m * 1000.0).round() as i64`, as the 64 bits of that number
unfoldable pub millimetres : Float → ℕ
millimetres m = of_z w64 (to_signed 63 (round_of (mul binary64 m thousand)))

-- which way the traffic runs along the centerline, for a branch that moves `up` it: 1 along it
abbrev pub side_of : Bool → Bool → Float
side_of ahead up = cond up (cond ahead one64 minus_one64) (cond ahead minus_one64 one64)

-- ---- where a branch leaves its lane

-- metres of the lane left to it
abbrev pub room_of : Bool → Float → Float → Float
room_of up len arc = cond up (sub binary32 len arc) arc

-- the place at the end that it leaves by
abbrev pub exit_of : List ℕ → List Float → List Float → ℕ → Bool → Point
exit_of lanes points cumulative i up =
    point_along (points_of lanes points i) (arcs_of lanes cumulative i) (cond up (length_of lanes cumulative i) zero⁺)

-- the first and the last point of a lane
abbrev pub head_of : List ℕ → List Float → ℕ → Point
head_of lanes points i = point_at (points_of lanes points i) 0

abbrev pub tail_of : List ℕ → List Float → List Float → ℕ → Point
tail_of lanes points cumulative i = point_at (points_of lanes points i) (length (arcs_of lanes cumulative i) - 1)

-- the squared distance from p to the nearest place on a lane
abbrev pub away_from : List ℕ → List Float → List Float → ℕ → Point → Float
away_from lanes points cumulative i p =
    length_squared (sub_of (project_of (points_of lanes points i) (arcs_of lanes cumulative i) p).point p)

-- `at_end`: the lane `next` joins lane i at the end that a branch moving `up` it leaves by, rather than at the other
unfoldable pub at_end : List ℕ → List Float → List Float → ℕ → ℕ → Bool → Bool
at_end lanes points cumulative i next up =
    let head = away_from lanes points cumulative next (head_of lanes points i) in
    let tail = away_from lanes points cumulative next (tail_of lanes points cumulative i) in
    cond up (le tail head) (le head tail)

-- of n lanes, a branch on lane i goes on to the lane in this row: it is in the plan and, where lane i runs both ways, joins it at the right end
unfoldable pub is_next : List ℕ → ℕ → List Float → List Float → ℕ → Bool → ℕ → Bool
is_next lanes n points cumulative i up next = ltb next n && (not (eqb (direction_of lanes i) 2) || at_end lanes points cumulative i next up)

-- the branch as it leaves its lane, which has so much room for it
abbrev pub leaving_of : List ℕ → List Float → List Float → Branch → Float → Leaving
leaving_of lanes points cumulative b room =
    record {
      lane = b.lane;
      up = b.up;
      exit = exit_of lanes points cumulative b.lane b.up;
      left = b.left;
      remaining = sub binary64 b.remaining room;
    }

-- ---- where it goes on

-- the links followed: successors ahead, predecessors back
abbrev pub link_end : List ℕ → Bool → ℕ → ℕ
link_end fans ahead i = cond ahead (first_link fans i + successors fans i) (first_link fans i + successors fans i + predecessors fans i)

abbrev pub link_count : List ℕ → Bool → ℕ → ℕ
link_count fans ahead i = cond ahead (successors fans i) (predecessors fans i)

abbrev pub linked_of : Tables → Bool → ℕ → List ℕ
linked_of t ahead i = led_to t.links (link_end t.fans ahead i) (link_count t.fans ahead i)

-- the elements that pass, in their order
unfoldable pub kept : (ℕ → Bool) → List ℕ → List ℕ
kept passes [] = []
kept passes (x ∷ xs) = let rest = kept passes xs in cond (passes x) (x ∷ rest) rest

unfoldable pub next_lanes : Tables → Bool → Branch → List ℕ
next_lanes t ahead b = kept (is_next t.lanes t.lane_count t.points t.cumulative b.lane b.up) (linked_of t ahead b.lane)

-- which way a branch that comes from `exit` moves along a lane: with its traffic, and away from where it came in where that runs both ways
unfoldable pub up_on : List ℕ → List Float → List Float → Bool → Point → ℕ → Bool
up_on lanes points cumulative ahead exit i =
    cond (eqb (direction_of lanes i) 0) ahead
    (cond (eqb (direction_of lanes i) 1) (not ahead)
    (le (distance_to exit (head_of lanes points i)) (distance_to exit (tail_of lanes points cumulative i))))

-- the branch that enters the lane `next`
unfoldable pub branch_onto : List ℕ → List Float → List Float → Bool → Leaving → ℕ → Branch
branch_onto lanes points cumulative ahead l next =
    let up = up_on lanes points cumulative ahead l.exit next in
    record { lane = next; arc = cond up zero⁺ (length_of lanes cumulative next); up = up; left = l.left; remaining = l.remaining }

-- by what branches that enter a lane are told apart: the lane, the end by the bits of its arc length, and the metres left and the offset in
-- millimetres
unfoldable pub key_of : List ℕ → Branch → Key
key_of lanes b =
    record {
      lane = lane_number lanes b.lane;
      arc = to_bits binary32 b.arc;
      remaining = millimetres b.remaining;
      left = millimetres b.left;
    }

abbrev pub same_key : Key → Key → Bool
same_key a b = eqb a.lane b.lane && (eqb a.arc b.arc && (eqb a.remaining b.remaining && eqb a.left b.left))

-- x is the same as an element
unfoldable pub holds : {A : Type 0} → (A → A → Bool) → A → List A → Bool
holds same x [] = false
holds same x (y ∷ ys) = same y x || holds same x ys
