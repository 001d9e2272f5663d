-- THE THEOREMS (specs/Promise.antt): what accuracy proves of lanes in the range, of the lanes of an accepted plan.
use mathlib.Core.Bool.{Bool, false, true}
use mathlib.Core.Path.{◌≡◌, ap, refl, subst, sym, ◌∙◌}
use native.Mathlib.Omega.{arith}
use Prim.Native.Nat.{ℕ}
use lib.Dec.{T}
use Rattle.accuracy.proofs.Coordinates.{coords_of}
use Rattle.accuracy.proofs.Everywhere.{found_everywhere}
use Rattle.accuracy.proofs.Theorem.{finite_point_law, no_lane_drives, taped_distance}
use Rattle.accuracy.specs.Taped.{SomeDrives}
use Rattle.coords.specs.Coords.{finite_point}
use Rattle.coords.specs.declared.Point.{Point}
use Rattle.geometry_laws.specs.Range.{PointIn}
use Rattle.nearest.specs.Answer.{among}
use Rattle.nearest.specs.Nearest.{answer_of, lanes_of, nearest_in, refusal}
use Rattle.nearest.specs.declared.NearestAnswer.{NearestAnswer}
use Rattle.network.specs.Lanes.{Lane, drives, drives_table}
use Rattle.network.specs.Nearest.{nearest_lane}
use Rattle.plan.specs.Accepted.{Accepted, accepted_plan}
use Rattle.plan_format.specs.Plan.{Plan}
use Rattle.nearest_laws.specs.Promise.{DrivingAnswer, NearestNumbers, NearestOfFile, NearestTaped, NoneDrives, TapedAnswer}
use Rattle.nearest_laws.proofs.Ranges.{lanes_in_law}

-- ---- every finite point
module _ (p : Plan) (q : Point) (A : Accepted p) (F : finite_point q ≡ true) where
  answer_is : nearest_in p q ≡ answer_of (nearest_lane drives_table (lanes_of p) q)
  answer_is = among (lanes_of p) q F

  one_drives : SomeDrives drives_table (lanes_of p) → DrivingAnswer p q
  one_drives s =
      let f = found_everywhere drives_table (lanes_of p) q (lanes_in_law p A) s (subst T (sym F) tt) in
      record { found = f; is = answer_is ∙ ap answer_of f.is }

  ten_only : (nearest_in p q).number ≡ 10 → NoneDrives p
  ten_only e l h = go (drives drives_table l) refl
    where
      go : (x : Bool) → drives drives_table l ≡ x → x ≡ false
      go false f = refl
      go true f =
          let zero = ap (λ (r : NearestAnswer). r.number) (one_drives (l, h, subst T (sym f) tt)).is in
          let z : ◌≡◌ {A = ℕ} 0 10 = sym zero ∙ e in
          absurd (omega arith)

  none_drives : NoneDrives p → nearest_in p q ≡ refusal 10
  none_drives h = answer_is ∙ ap answer_of (no_lane_drives drives_table (lanes_of p) q h)

pub nearest_numbers : NearestNumbers
nearest_numbers p q A F = record { ten_only = ten_only p q A F; none_drives = none_drives p q A F; one_drives = one_drives p q A F }

-- ---- a point in the range
module _ (p : Plan) (q : Point) (A : Accepted p) (Q : PointIn q) where
  is_finite : finite_point q ≡ true
  is_finite = go (finite_point q) (finite_point_law q (coords_of q Q))
    where
      go : (x : Bool) → T x → x ≡ true
      go true t = refl
      go false t = absurd t

  some_drives : SomeDrives drives_table (lanes_of p) → TapedAnswer p q
  some_drives s =
      let a = taped_distance drives_table (lanes_of p) q (lanes_in_law p A) s Q in
      record { answered = a; is = answer_is p q A is_finite ∙ ap answer_of a.chosen.is }

pub nearest_taped : NearestTaped
nearest_taped p q A Q = record { finite = is_finite p q A Q; one_drives = some_drives p q A Q }

pub nearest_of_file : NearestOfFile
nearest_of_file file B p e q =
    let A = accepted_plan 0 file p B e in
    ((λ F. nearest_numbers p q A F), (λ Q. nearest_taped p q A Q))
