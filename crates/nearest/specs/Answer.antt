-- The whole answer, from the row and the projection that are found: the row is one of the n, and has the lane's number.
use Rattle.std.specs.Prelude.{Bool, false, true, List, Option, None, Some, refl, ◌≡◌, ℕ, ◌*◌, ◌<◌, Float, get_or}
use Rattle.std.proofs.Common.{true≢false, ap, ◌∙◌}
use Rattle.std.proofs.Math.Path.{sym}
use Rattle.coords.specs.Coords.{finite_point}
use Rattle.coords.specs.declared.Point.{Point}
use Rattle.geometry.specs.declared.Projection.{Projection}
use Rattle.network.specs.Found.{Of, Standing, found_stands}
use Rattle.network.specs.Lanes.{Lane, drives_table}
use Rattle.network.specs.Nearest.{Best, found, nearest_lane, none}
use Rattle.network.specs.Tables.{lane_at, lanes_from, told}
use Rattle.network.specs.declared.Nearest.{Nearest}
use Rattle.plan_format.specs.Records.{lane_id}
use Rattle.nearest.specs.Nearest.{answer_of, nearest_among, refusal}
use Rattle.nearest.specs.declared.NearestAnswer.{NearestAnswer}

-- the parts of what is found
abbrev is_found : Option Nearest → Bool
is_found None = false
is_found (Some b) = true

abbrev row_in : Option Nearest → ℕ
row_in None = 0
row_in (Some b) = b.row

abbrev projection_in : Projection → Option Nearest → Projection
projection_in q None = q
projection_in q (Some b) = b.projection

-- the answer for a finite point
pub among : (ls : List Lane) (p : Point) → finite_point p ≡ true → nearest_among ls p ≡ answer_of (nearest_lane drives_table ls p)
unfolding nearest_among
among ls p e = simp e

module _ (lanes : List ℕ) (points : List Float) (n : ℕ) (p : Point) where
  abbrev ls : List Lane
  ls = lanes_from lanes points n 0

  abbrev best : Best
  best = nearest_lane drives_table ls p

  abbrev Stands : Best → Type 0
  Stands b = Of (λ l q. Standing lanes points n l) b

  stands : Stands best
  stands = found_stands lanes points n drives_table p

  pub row_below : (b : Nearest) → Some b ≡ told best → b.row < n
  row_below r is = go best stands is
    where
      go : (b : Best) → Stands b → Some r ≡ told b → r.row < n
      go none o h = absurd (true≢false (ap is_found h))
      go (found d' i' l q') o h = rw (ap row_in h) o.below

  module _ (e : finite_point p ≡ true) where
    pub none_found : None ≡ told best → refusal 10 ≡ nearest_among ls p
    none_found is = go best is ∙ sym (among ls p e)
      where
        go : (b : Best) → None ≡ told b → refusal 10 ≡ answer_of b
        go none h = refl
        go (found d i l q) h = absurd (true≢false (sym (ap is_found h)))

    number_in : (l : Lane) → Standing lanes points n l → get_or lanes (6 * l.row) 0 ≡ l.number
    unfolding lane_at
    number_in l o = sym (ap (λ (m : Lane). m.number) o.is)

    pub one_found : (r : Nearest) → Some r ≡ told best
        → ◌≡◌ {A = NearestAnswer} (record { number = 0; lane = lane_id (get_or lanes (6 * r.row) 0); projection = r.projection }) (nearest_among ls p)
    one_found r is = go best stands is ∙ sym (among ls p e)
      where
        go : (b : Best) → Stands b → Some r ≡ told b
            → ◌≡◌ {A = NearestAnswer} (record { number = 0; lane = lane_id (get_or lanes (6 * r.row) 0); projection = r.projection }) (answer_of b)
        go none o h = absurd (true≢false (ap is_found h))
        go (found d' i' l q') o h = rw (ap row_in h, ap (projection_in r.projection) h, number_in l o)

  pub not_finite : finite_point p ≡ false → refusal 9 ≡ nearest_among ls p
  unfolding nearest_among
  not_finite e = simp e
