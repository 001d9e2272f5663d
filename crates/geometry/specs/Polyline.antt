-- geometry.rs, `Polyline::build`: a lane's polyline over the flat list of its points, as its record in the plan file has them
-- (x y z of each): the arc length at each point and the tangents. Definitions only.
use Rattle.std.specs.Prelude.{◌≡◌, cond, Option, None, Some, List, [], ◌∷◌, ◌++◌, length, get_or, set, Float}
use Rattle.std.specs.Prelude.{ℕ, zero, suc, ◌+◌, ◌-◌, ◌*◌, ◌≤◌, ltb, eqb}
use Rattle.std.specs.Float.{nan, binary32}
use Rattle.std.specs.Float.Ieee.{add}
use Rattle.coords.specs.declared.Point.{Point}
use Rattle.coords.specs.declared.Vector.{Vector}
use Rattle.geometry.specs.declared.Ends.{Ends}
use Rattle.coords.specs.Coords.{zero⁺, sub_of, plus_of, zero_vector, distance_to, normalize_or}

-- point i, and the vector that stands at i in a list of tangents
unfoldable pub point_at : List Float → ℕ → Point
point_at ps i = record { x = get_or ps (3 * i) nan; y = get_or ps (3 * i + 1) nan; z = get_or ps (3 * i + 2) nan }

unfoldable pub vector_at : List Float → ℕ → Vector
vector_at ts i = record { x = get_or ts (3 * i) nan; y = get_or ts (3 * i + 1) nan; z = get_or ts (3 * i + 2) nan }

-- ts with the vector v at i
abbrev pub with_vector : List Float → ℕ → Vector → List Float
with_vector ts i v = set (set (set ts (3 * i) v.x) (3 * i + 1) v.y) (3 * i + 2) v.z

-- points and an entry for each, of at least two points: under two no polyline
pub record Line (ps cs : List Float) : Type 0 where
  pub two : 2 ≤ length cs
  pub points : length ps ≡ 3 * length cs

-- ---- arc lengths

-- the length of segment i, from point i to point i + 1
abbrev pub segment_length : List Float → ℕ → Float
segment_length ps i = distance_to (point_at ps i) (point_at ps (i + 1))

-- the arc length at point k: the lengths of the segments before it, added to 0 in order
unfoldable pub arc_at : List Float → ℕ → Float
arc_at ps zero = zero⁺
arc_at ps (suc k) = add binary32 (arc_at ps k) (segment_length ps k)

-- the arc lengths at the points 0 .. n - 1
unfoldable pub cumulative_of : List Float → ℕ → List Float
cumulative_of ps zero = []
cumulative_of ps (suc k) = cumulative_of ps k ++ (arc_at ps k ∷ [])

-- `length`: the arc length at the last point
abbrev pub arc_length : List Float → Float
arc_length cs = get_or cs (length cs - 1) nan

-- ---- tangents

-- v in the ground plane
abbrev pub horizontal : Vector → Vector
horizontal v = record { x = v.x; y = v.y; z = zero⁺ }

-- the unit direction from p to q in the ground plane, zero where it has none
abbrev pub direction_of : Point → Point → Vector
direction_of p q = normalize_or (horizontal (sub_of q p)) zero_vector

-- the direction of the segment that ends at point i, and of the one that starts there, of n points
abbrev pub incoming_at : List Float → ℕ → Vector
incoming_at ps i = cond (ltb 0 i) (direction_of (point_at ps (i - 1)) (point_at ps i)) zero_vector

abbrev pub outgoing_at : List Float → ℕ → ℕ → Vector
outgoing_at ps n i = cond (ltb (i + 1) n) (direction_of (point_at ps i) (point_at ps (i + 1))) zero_vector

-- the bisector of the two; at an end the one that is there
unfoldable pub chord_at : List Float → ℕ → ℕ → Vector
chord_at ps n i = normalize_or (plus_of (incoming_at ps i) (outgoing_at ps n i)) zero_vector

-- a given end tangent at the two ends where it has a direction, and the chord elsewhere
unfoldable pub end_or : Vector → Option Ends → ℕ → ℕ → Vector
end_or chord None n i = chord
end_or chord (Some e) n i =
    cond (eqb i 0) (normalize_or (horizontal e.start) chord) (cond (eqb i (n - 1)) (normalize_or (horizontal e.end) chord) chord)

-- `vertex_tangents` at point i of n
abbrev pub tangent_at : List Float → ℕ → Option Ends → ℕ → Vector
tangent_at ps n e i = end_or (chord_at ps n i) e n i

-- the tangents at the points 0 .. k - 1 of n, x y z of each
unfoldable pub tangents_to : List Float → ℕ → Option Ends → ℕ → List Float
tangents_to ps n e zero = []
tangents_to ps n e (suc k) = let t = tangent_at ps n e k in tangents_to ps n e k ++ (t.x ∷ t.y ∷ t.z ∷ [])

abbrev pub tangents_of : List Float → ℕ → Option Ends → List Float
tangents_of ps n e = tangents_to ps n e n
