-- The segment that `locate` finds is one of the polyline.
use Rattle.std.specs.Prelude.{List, ◌+◌, ◌-◌, ◌≤◌, ◌<◌, length, Float}
use Rattle.std.proofs.Common.{arith}
use Rattle.std.proofs.Math.Nat.{min-le_right}
use Rattle.float.specs.Choose.{clamp_of}
use Rattle.coords.specs.Coords.{zero⁺}
use Rattle.geometry.specs.Polyline.{arc_length}
use Rattle.geometry.specs.Partition.{leading, at_most}
use Rattle.geometry.specs.Locate.{segment_of, locate_of}

pub segment_inside : (cs : List Float) (s : Float) → 2 ≤ length cs → segment_of cs s + 1 < length cs
unfolding segment_of
segment_inside cs s h = let l = min-le_right (leading (at_most s) cs - 1) (length cs - 2) in omega arith

pub located_inside : (cs : List Float) (s : Float) → 2 ≤ length cs → (locate_of cs s).segment + 1 < length cs
unfolding locate_of
located_inside cs s h = segment_inside cs (clamp_of s zero⁺ (arc_length cs)) h
