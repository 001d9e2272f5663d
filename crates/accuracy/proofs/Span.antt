-- A run of segments: `project_segments` keeps the first least, so its squared distance is a segment's, and no segment's is below it (`run`).
use mathlib.Core.Path.{◌≡◌, refl, sym, subst}
use mathlib.Core.Logic.{◌⊎◌, inl, inr}
use mathlib.Core.Bool.{Bool, true, false, not, cond}
use mathlib.Core.List.{List}
use Prim.Native.Nat.{ℕ, zero, suc, ◌+◌, ◌<◌}
use native.Mathlib.Nat.{eq-or-lt_of_le, le_of_suc-le-suc}
use native.Mathlib.Omega.{arith}
use lib.ListN.{get_or}
use lib.Dec.{T}
use lib.Ieee.{Float, nan, inf, fin, lt}
use Rattle.exact.specs.Integers.{◌⊑◌, ◌⊞◌, ι}
use Rattle.exact.specs.Inequalities.{⊑_refl, ⊑_trans, lt→⊑}
use Rattle.exact.specs.Values.{val, F32}
use Rattle.exact.proofs.Order.{lt_yes, lt_no}
use Rattle.coords.specs.declared.Point.{Point}
use Rattle.coords.specs.Coords.{zero⁺, sub_of, length_squared}
use Rattle.geometry.specs.declared.Nearer.{Nearer}
use Rattle.geometry.specs.Polyline.{point_at}
use Rattle.geometry.specs.Project.{closest_of, hit_along, hit_at, nearer_at, project_to}
use Rattle.accuracy.proofs.Coordinates.{Coords}
use Rattle.accuracy.proofs.Segment.{Hit, hit}

lt_inf : (x : Float) → F32 x → T (lt x (inf false))
unfolding lt
lt_inf nan p = absurd p.real
lt_inf (inf s) p = absurd p.real
lt_inf (fin s m e) p = tt

last_or_before : (i n : ℕ) → i < suc n → (i ≡ n) ⊎ (i < n)
last_or_before i n h = eq-or-lt_of_le (le_of_suc-le-suc h)

-- the n points of ps have coordinates in range
abbrev pub AllCoords : List Float → ℕ → Type 0
AllCoords ps n = (i : ℕ) → i < n → Coords (point_at ps i)

-- the closest place of segment i to p, and its squared distance
abbrev pub foot_of : List Float → Point → ℕ → Point
foot_of ps p i = closest_of (point_at ps i) (point_at ps (i + 1)) p

abbrev pub foot_dist : List Float → Point → ℕ → Float
foot_dist ps p i = length_squared (sub_of p (foot_of ps p i))

-- r is what the k segments from `first` on give
pub record Run (ps : List Float) (p : Point) (first k : ℕ) (r : Nearer) : Type 0 where
  pub at : ℕ
  pub below : at < k
  pub point : r.best.point ≡ foot_of ps p (first + at)
  pub dist : r.dist ≡ foot_dist ps p (first + at)
  pub least : (i : ℕ) → i < k → val r.dist ⊑ val (foot_dist ps p (first + i))

module _ (ps : List Float) (n : ℕ) (p : Point) (P : Coords p) (all : AllCoords ps n) where
  pub foot_hit : (i : ℕ) → i + 1 < n → Hit (point_at ps i) (point_at ps (i + 1)) p (foot_of ps p i)
  foot_hit i h = hit (point_at ps i) (point_at ps (i + 1)) p (all i (omega arith)) (all (i + 1) h) P

  module _ (cs : List Float) (first : ℕ) where
    abbrev dist : ℕ → Float
    dist i = foot_dist ps p (first + i)

    dist_good : (i : ℕ) → first + i + 1 < n → F32 (foot_dist ps p (first + i))
    dist_good i h = (foot_hit (first + i) h).dist.good

    newest : ℕ → Nearer
    newest k = record { dist = dist k; best = hit_at (get_or cs (first + k) nan) (point_at ps (first + k)) (point_at ps (first + k + 1)) p }

    newest_point : (k : ℕ) → (newest k).best.point ≡ foot_of ps p (first + k)
    unfolding hit_along newest
    newest_point k = refl

    run_first : first + 1 < n → Run ps p first 1 (project_to ps cs p first 1)
    unfolding project_to nearer_at newest
    run_first h = go (lt (dist 0) (inf false)) (lt_inf (dist 0) (dist_good 0 (omega arith)))
      where
        start : Nearer
        start = record { dist = inf false; best = record { s = get_or cs first nan; point = point_at ps first; offset = zero⁺ } }

        only : (i : ℕ) → i < 1 → 0 ≡ i
        only i l = omega arith

        go : (x : Bool) → T x → Run ps p first 1 (cond x (newest 0) start)
        go true t = record {
          at = 0;
          below = omega arith;
          point = newest_point 0;
          dist = refl;
          least = λ i l. subst (λ (j : ℕ). val (dist 0) ⊑ val (dist j)) (only i l) (⊑_refl (val (dist 0)));
        }
        go false t = absurd t

    run_next : (k : ℕ) (r : Nearer) → first + k + 1 < n → F32 r.dist → Run ps p first k r
        → Run ps p first (suc k) (nearer_at ps cs p (first + k) r)
    unfolding nearer_at newest
    run_next k r h g u =
        go (lt (dist k) r.dist) (lt_yes (dist k) r.dist (dist_good k h) g) (lt_no (dist k) r.dist (dist_good k h) g)
      where
        more : (a k : ℕ) → a < k → a < suc k
        more a k h = omega arith

        go : (x : Bool) → (T x → val (dist k) ⊞ ι 1 ⊑ val r.dist) → (T (not x) → val r.dist ⊑ val (dist k))
            → Run ps p first (suc k) (cond x (newest k) r)
        go true less not_less = record {
          at = k;
          below = omega arith;
          point = newest_point k;
          dist = refl;
          least = λ i l. elim (last_or_before i k l) [
            | inl e ↦ subst (λ (j : ℕ). val (dist k) ⊑ val (dist j)) (sym e) (⊑_refl (val (dist k)))
            | inr m ↦ ⊑_trans (lt→⊑ (val (dist k)) (val r.dist) (less tt)) (u.least i m)
          ];
        }
        go false less not_less = record {
          at = u.at;
          below = more u.at k u.below;
          point = u.point;
          dist = u.dist;
          least = λ i l. elim (last_or_before i k l) [
            | inl e ↦ subst (λ (j : ℕ). val r.dist ⊑ val (dist j)) (sym e) (not_less tt)
            | inr m ↦ u.least i m
          ];
        }

    pub run : (k : ℕ) → first + k + 1 < n → Run ps p first (suc k) (project_to ps cs p first (suc k))
    run zero h = run_first (omega arith)
    run (suc k) h = step (run k (omega arith))
      where
        inside : (a : ℕ) → a < suc k → first + a + 1 < n
        inside a l = omega arith

        step : Run ps p first (suc k) (project_to ps cs p first (suc k))
            → Run ps p first (suc (suc k)) (project_to ps cs p first (suc (suc k)))
        step u =
            unfold project_to in run_next (suc k) (project_to ps cs p first (suc k)) h
            (subst F32 (sym u.dist) (dist_good u.at (inside u.at u.below))) u
