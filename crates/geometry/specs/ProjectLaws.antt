-- What the turns of `project_segments` give is what its definition says.
use Rattle.std.specs.Prelude.{◌≡◌, refl, false, List, get_or, Float}
use Rattle.std.proofs.Common.{sym, ◌∙◌}
use Rattle.std.proofs.Math.Path.{ap, ap₂}
use Prim.Native.Nat.{ℕ, suc, ◌+◌, ◌-◌, ◌≤◌}
use native.Mathlib.Omega.{arith}
use Rattle.std.specs.Float.{nan, inf, binary32}
use Rattle.std.specs.Float.Ieee.{div, of_bits}
use Rattle.coords.specs.declared.Point.{Point}
use Rattle.coords.specs.Coords.{zero⁺, one⁺}
use Rattle.geometry.specs.declared.Nearer.{Nearer}
use Rattle.geometry.specs.Polyline.{point_at}
use Rattle.geometry.specs.Project.{nearer_at, project_to}

pub one_over_zero : div binary32 one⁺ zero⁺ ≡ inf false
unfolding div of_bits
one_over_zero = refl

module _ (ps cs : List Float) (p : Point) (first : ℕ) where
  pub project_next : (i : ℕ) (r s : Nearer) → first ≤ i → r ≡ project_to ps cs p first (i - first) → s ≡ nearer_at ps cs p i r
      → s ≡ project_to ps cs p first (i + 1 - first)
  unfolding project_to
  project_next i r s h e f =
      let more : i + 1 - first ≡ suc (i - first) = omega arith in
      let here : i ≡ first + (i - first) = omega arith in
      f ∙ ap₂ (nearer_at ps cs p) here e ∙ ap (project_to ps cs p first) (sym more)

  -- before the first turn
  pub project_none : (dist : Float) (point : Point) → dist ≡ inf false → point ≡ point_at ps first
      → ◌≡◌ {A = Nearer} (record { dist = dist; best = record { s = get_or cs first nan; point = point; offset = zero⁺ } })
      (project_to ps cs p first (first - first))
  unfolding project_to
  project_none dist point e f =
      let none : first - first ≡ 0 = omega arith in
      rw (none, e, f)
