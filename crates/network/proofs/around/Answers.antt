-- `around` takes in one point a turn: after the point i the box is that of the points first to i.
use mathlib.Core.Path.{◌≡◌}
use mathlib.Core.List.{List}
use Prim.Native.Nat.{ℕ, suc, ◌+◌, ◌-◌, ◌≤◌}
use native.Mathlib.Omega.{arith}
use lib.Ieee.{Float}
use Rattle.coords.specs.declared.Point.{Point}
use Rattle.geometry.specs.Polyline.{point_at}
use Rattle.grid.specs.declared.Aabb.{Aabb}
use Rattle.grid.specs.Grid.{box_at, grown}
use Rattle.network.specs.Lanes.{around}
use Rattle.network.proofs.around.Goals as goal

module _ (line : List Float) (first : ℕ) where
  first_point_law : {a : Point} {b : Aabb} → a ≡ point_at line first → b ≡ box_at a.x a.y → b ≡ around line first (first - first)
  unfolding around
  first_point_law is-a is_b =
      let none : first - first ≡ 0 = omega arith in
      rw none (cc)

  next_point : (i : ℕ) {a : Point} {b c : Aabb} → first ≤ i → b ≡ around line first (i - first) → a ≡ point_at line (i + 1)
      → c ≡ grown b a.x a.y
      → c ≡ around line first (i + 1 - first)
  unfolding around
  next_point i l is_b is-a is_c =
      let more : i + 1 - first ≡ suc (i - first) = omega arith in
      let same : first + suc (i - first) ≡ i + 1 = omega arith in
      rw (more, same) (cc)

pub loop-i-init : goal.loop-i-init
loop-i-init c = (first_point_law _ _ c.vertex-a.ensures c.at-b.ensures)

pub loop-i-preserved : goal.loop-i-preserved
loop-i-preserved c =
    let l = c.loop-i in
    next_point _ _ l.i (omega arith) l.invariant c.vertex-p.ensures c.grown-b.ensures
