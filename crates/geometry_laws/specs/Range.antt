-- Where an accepted plan's points lie, every coordinate from -4,096 to 4,096, and sizes in units of 2 ^ -149, the smallest f32 above 0.
-- The theorems stand in proofs/, for polylines of at most 4,096 points in range: Cumulative.antt, arc lengths never fall (`cumulative_rises`)
-- and the last is a cost of a link (`length_cost`); Projected.antt, a point projects to finite numbers (`projected`); Lengths.antt, lengths.
use Rattle.std.specs.Prelude.{List, ℕ, ◌*◌, ◌^◌, ◌<◌, T, pos, length, get_or, Float, true, false}
use Rattle.std.specs.Float.{nan, fin, binary32}
use Rattle.std.specs.Float.Ieee.{le, fits}
use Rattle.coords.specs.declared.Point.{Point}
use Rattle.exact.specs.Integers.{◌⊑◌, ι}
use Rattle.exact.specs.Inequalities.{Within}
use Rattle.exact.specs.Values.{U, val, F32}
use Rattle.geometry.specs.declared.Projection.{Projection}

-- an f32 from -4,096 to 4,096
pub record InRange (x : Float) : Type 0 where
  pub held : T (fits binary32 x)
  pub low : T (le (fin true 1 (pos 12)) x)
  pub high : T (le x (fin false 1 (pos 12)))

pub record PointIn (p : Point) : Type 0 where
  pub x : InRange p.x
  pub y : InRange p.y
  pub z : InRange p.z

-- each entry of a flat list of points
pub record Coordinates (ps : List Float) : Type 0 where
  pub each : (i : ℕ) → i < length ps → InRange (get_or ps i nan)

-- an f32 of at most n units of 2 ^ -149 either way
pub record Sized (n : ℕ) (x : Float) : Type 0 where
  pub good : F32 x
  pub size : Within (val x) (ι n)

pub record PointSized (n : ℕ) (p : Point) : Type 0 where
  pub x : Sized n p.x
  pub y : Sized n p.y
  pub z : Sized n p.z

-- an f32 from 0 up to n units; its zero may be -0
pub record FromZero (n : ℕ) (x : Float) : Type 0 where
  pub good : F32 x
  pub low : ι 0 ⊑ val x
  pub high : val x ⊑ ι n

-- a projection at finite coordinates, at most 2 ^ 14 either way, and at a finite arc length, from 0 to 2 ^ 27
pub record Landed (q : Projection) : Type 0 where
  pub point : PointSized (2 ^ 14 * U) q.point
  pub arc : FromZero (2 ^ 27 * U) q.s
