-- Each lane of an accepted plan has two points or more, and their coordinates lie from -4,096 to 4,096.
use mathlib.Core.List.{List, [], ◌∷◌}
use mathlib.Core.Logic.{inl, inr}
use mathlib.Core.Path.{◌≡◌, subst, sym}
use Prim.Native.Nat.{suc, ℕ, ◌*◌, ◌+◌, ◌<◌}
use native.Mathlib.Omega.{arith}
use lib.ListN.{get_or, length}
use Rattle.accuracy.specs.Taped.{In, LaneIn, LanesIn}
use Rattle.geometry.specs.Polyline.{point_at}
use Rattle.geometry_laws.specs.Range.{PointIn}
use Rattle.nearest.specs.Nearest.{lanes_after, lanes_of, row_lane}
use Rattle.network.specs.Lanes.{Lane}
use Rattle.plan.specs.Accepted.{Accepted}
use Rattle.plan_format.specs.Plan.{Plan}
use Rattle.plan_format.specs.Records as records
use Rattle.tables.specs.LaneTables.{no_lane}
use Rattle.tables.specs.Lines.{coordinates}

-- a lane of the list is that of a record
pub record Of (ls : List records.Lane) (row : ℕ) (l : Lane) : Type 0 where
  pub at : ℕ
  pub below : at < length ls
  pub is : (d : records.Lane) → l ≡ row_lane (row + at) (get_or ls at d)

pub after_only : (row : ℕ) (ls : List records.Lane) (l : Lane) → In l (lanes_after row ls) → Of ls row l
unfolding lanes_after
after_only row [] l h = absurd h
after_only row (x ∷ ls) l (inl e) =
    let z : row ≡ row + 0 = omega arith in
    record { at = 0; below = omega arith; is = λ d. subst (λ (n : ℕ). l ≡ row_lane n x) z e }
after_only row (x ∷ ls) l (inr h) = further (after_only (suc row) ls l h)
  where
    further : Of ls (suc row) l → Of (x ∷ ls) row l
    further o =
        let z : suc row + o.at ≡ row + suc o.at = omega arith in
        record {
          at = suc o.at;
          below = let b = o.below in omega arith;
          is = λ d. subst (λ (n : ℕ). l ≡ row_lane n (get_or ls o.at d)) z (o.is d);
        }

module _ (p : Plan) (A : Accepted p) where
  record_in : (i : ℕ) (d : records.Lane) (row : ℕ) → i < length p.lanes → LaneIn (row_lane row (get_or p.lanes i d))
  unfolding point_at
  record_in i d row h = record { two = (A.lane i d h).two; each = λ j b. point j b }
    where
      point : (j : ℕ) → j < (get_or p.lanes i d).count → PointIn (point_at (get_or p.lanes i d).points j)
      point j b =
          let all = coordinates p A i d h in
          let size = (A.lane i d h).size in
          record { x = all.each (3 * j) (omega arith); y = all.each (3 * j + 1) (omega arith); z = all.each (3 * j + 2) (omega arith) }

  pub lanes_in_law : LanesIn (lanes_of p)
  lanes_in_law l h = go (after_only 0 p.lanes l h)
    where
      go : Of p.lanes 0 l → LaneIn l
      go o = subst LaneIn (sym (o.is no_lane)) (record_in o.at no_lane (0 + o.at) o.below)
