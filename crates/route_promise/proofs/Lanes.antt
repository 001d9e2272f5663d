-- The lanes of an accepted plan: each in its row, and whether one drives.
use mathlib.Core.Bool.{Bool, false, true}
use mathlib.Core.List.{List, [], ◌∷◌}
use mathlib.Core.Logic.{inl, inr, ◌⊎◌}
use mathlib.Core.Path.{ap, refl, subst, sym, ◌∙◌, ◌≡◌}
use Prim.Native.Nat.{ℕ, ◌+◌, ◌<◌}
use native.Mathlib.Omega.{arith}
use lib.Dec.{T}
use lib.ListN.{get_or, length}
use Rattle.accuracy.specs.Taped.{In, SomeDrives}
use Rattle.nearest.specs.Nearest.{lanes_of, row_lane}
use Rattle.nearest_laws.proofs.Ranges.{after_only}
use Rattle.network.specs.Lanes.{Lane, drives}
use Rattle.plan_format.specs.Plan.{Plan}
use Rattle.tables.specs.LaneTables.{no_lane}

-- ---- some lane drives, or none does
pub some_or_none : (table : List Bool) (ls : List Lane) → SomeDrives table ls ⊎ ((l : Lane) → In l ls → drives table l ≡ false)
some_or_none table [] = inr (λ l m. absurd m)
some_or_none table (x ∷ xs) = go (drives table x) refl (some_or_none table xs)
  where
    go : (b : Bool) → drives table x ≡ b → SomeDrives table xs ⊎ ((l : Lane) → In l xs → drives table l ≡ false)
        → SomeDrives table (x ∷ xs) ⊎ ((l : Lane) → In l (x ∷ xs) → drives table l ≡ false)
    go true e r = inl (x, inl refl, subst T (sym e) tt)
    go false e (inl (l, m, t)) = inl (l, inr m, t)
    go false e (inr none) = inr all
      where
        all : (l : Lane) → In l (x ∷ xs) → drives table l ≡ false
        all l (inl p) = ap (drives table) p ∙ e
        all l (inr m) = none l m

-- ---- a lane of the plan stands in its row
pub record InRow (p : Plan) (l : Lane) : Type 0 where
  pub inside : l.row < length p.lanes
  pub is : l ≡ row_lane l.row (get_or p.lanes l.row no_lane)

pub in_row : (p : Plan) (l : Lane) → In l (lanes_of p) → InRow p l
in_row p l m =
    let r = after_only 0 p.lanes l m in
    let z : 0 + r.at ≡ r.at = omega arith in
    let e : l ≡ row_lane r.at (get_or p.lanes r.at no_lane) = rw z at (r.is no_lane) in
    let row : l.row ≡ r.at = ap (λ (x : Lane). x.row) e in
    record {
      inside = subst (λ (k : ℕ). k < length p.lanes) (sym row) r.below;
      is = subst (λ (k : ℕ). l ≡ row_lane k (get_or p.lanes k no_lane)) (sym row) e;
    }
