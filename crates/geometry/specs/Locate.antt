-- geometry.rs, `Polyline::segment` to `Polyline::pose_at`: where an arc length s lies on a polyline of points `ps`, arc lengths
-- `cs` and tangents `ts`. Any s is accepted, NaN too. Definitions only.
use Rattle.std.specs.Prelude.{cond, List, ℕ, ◌+◌, ◌-◌, min, length, get_or, Float}
use Rattle.std.specs.Float.{nan, binary32}
use Rattle.std.specs.Float.Ieee.{sub, div, lt, of_bits}
use Rattle.float.specs.Choose.{clamp_of}
use Rattle.coords.specs.declared.Point.{Point}
use Rattle.coords.specs.declared.Vector.{Vector}
use Rattle.coords.specs.Coords.{zero⁺, zero_vector, normalize_or, lerp_point, lerp_vector}
use Rattle.geometry.specs.declared.Pose.{Pose}
use Rattle.geometry.specs.declared.Located.{Located}
use Rattle.geometry.specs.Polyline.{point_at, vector_at, arc_length}
use Rattle.geometry.specs.Partition.{leading, at_most}

-- 1e-6 as an f32
abbrev pub micro : Float
micro = of_bits binary32 0x358637bd

-- the last vertex at or before s, never the last point: the segment that holds s
unfoldable pub segment_of : List Float → Float → ℕ
segment_of cs s = min (leading (at_most s) cs - 1) (length cs - 2)

-- the fraction of segment i at s; 0 on a segment of at most 1e-6
unfoldable pub local_t : List Float → ℕ → Float → Float
local_t cs i s =
    let before = get_or cs i nan in
    let segLen = sub binary32 (get_or cs (i + 1) nan) before in
    cond (lt micro segLen) (div binary32 (sub binary32 s before) segLen) zero⁺

unfoldable pub locate_of : List Float → Float → Located
locate_of cs s =
    let within = clamp_of s zero⁺ (arc_length cs) in
    let i = segment_of cs within in
    record { segment = i; t = local_t cs i within }

-- the place at the fraction t of segment i, and the heading there
abbrev pub place_on : List Float → Located → Point
place_on ps at = lerp_point (point_at ps at.segment) (point_at ps (at.segment + 1)) at.t

abbrev pub heading_on : List Float → Located → Vector
heading_on ts at = normalize_or (lerp_vector (vector_at ts at.segment) (vector_at ts (at.segment + 1)) at.t) zero_vector

-- `point_at` and `pose_at`
unfoldable pub point_along : List Float → List Float → Float → Point
point_along ps cs s = place_on ps (locate_of cs s)

unfoldable pub pose_along : List Float → List Float → List Float → Float → Pose
pose_along ps cs ts s = let at = locate_of cs s in record { position = place_on ps at; heading = heading_on ts at }
