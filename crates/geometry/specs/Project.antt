-- geometry.rs, `Polyline::project_segments` and `Polyline::project`: the nearest place on a run of segments. Definitions only.
use Rattle.std.specs.Prelude.{false, cond, List, ℕ, zero, suc, ◌+◌, ◌-◌, length, get_or, Float}
use Rattle.std.specs.Float.{nan, inf, binary32}
use Rattle.std.specs.Float.Ieee.{add, mul, div, lt, of_bits}
use Rattle.float.specs.Choose.{clamp_of}
use Rattle.coords.specs.declared.Point.{Point}
use Rattle.coords.specs.declared.Vector.{Vector}
use Rattle.coords.specs.Coords.{zero⁺, one⁺, sub_of, add_of, mul_of, dot_of, cross_of, length_squared, length_of, normalize_or, zero_vector}
use Rattle.geometry.specs.declared.Projection.{Projection}
use Rattle.geometry.specs.declared.Nearer.{Nearer}
use Rattle.geometry.specs.Polyline.{point_at, horizontal}

-- 1e-9 as an f32
abbrev pub nano : Float
nano = of_bits binary32 0x3089705f

abbrev pub up_vector : Vector
up_vector = record { x = zero⁺; y = zero⁺; z = one⁺ }

-- `left_normal`: the unit normal to the left of a heading
unfoldable pub left_normal : Vector → Vector
left_normal heading = normalize_or (cross_of up_vector (horizontal heading)) zero_vector

-- the fraction of the segment from a along ab that is nearest to p; 0 where its squared length is at most 1e-9
unfoldable pub fraction_along : Point → Vector → Point → Float
fraction_along a ab p =
    let len2 = length_squared ab in
    cond (lt nano len2) (clamp_of (div binary32 (dot_of (sub_of p a) ab) len2) zero⁺ one⁺) zero⁺

abbrev pub fraction_of : Point → Point → Point → Float
fraction_of a b p = fraction_along a (sub_of b a) p

-- a + (b - a) * t
abbrev pub place_at : Point → Point → Float → Point
place_at a b t = add_of a (mul_of (sub_of b a) t)

abbrev pub closest_of : Point → Point → Point → Point
closest_of a b p = place_at a b (fraction_of a b p)

-- the projection of p that lies at `closest`, at the fraction t of a segment along ab that begins at the arc length `start`
unfoldable pub hit_along : Float → Vector → Float → Point → Point → Projection
hit_along start ab t closest p =
    let heading = normalize_or (horizontal ab) zero_vector in
    record {
      s = add binary32 start (mul binary32 (length_of ab) t);
      point = closest;
      offset = dot_of (horizontal (sub_of p closest)) (left_normal heading);
    }

abbrev pub hit_at : Float → Point → Point → Point → Projection
hit_at start a b p = hit_along start (sub_of b a) (fraction_of a b p) (closest_of a b p) p

-- one turn of the loop: segment i takes the place of the best so far only where it is nearer
unfoldable pub nearer_at : List Float → List Float → Point → ℕ → Nearer → Nearer
nearer_at ps cs p i r =
    let a = point_at ps i in
    let b = point_at ps (i + 1) in
    let dist = length_squared (sub_of p (closest_of a b p)) in
    cond (lt dist r.dist) (record { dist = dist; best = hit_at (get_or cs i nan) a b p }) r

-- after the segments first .. first + k - 1
unfoldable pub project_to : List Float → List Float → Point → ℕ → ℕ → Nearer
project_to ps cs p first zero = record
    { dist = inf false; best = record { s = get_or cs first nan; point = point_at ps first; offset = zero⁺ } }
project_to ps cs p first (suc k) = nearer_at ps cs p (first + k) (project_to ps cs p first k)

-- `project_segments` for the segments first .. end - 1
unfoldable pub project_segments : List Float → List Float → Point → ℕ → ℕ → Projection
project_segments ps cs p first end = (project_to ps cs p first (end - first)).best

-- `project`: over all segments
abbrev pub project_of : List Float → List Float → Point → Projection
project_of ps cs p = project_segments ps cs p 0 (length cs - 1)
