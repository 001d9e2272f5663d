-- The rows that are written fill the tables from the first entry on.
use Rattle.std.specs.Prelude.{◌≡◌, refl, List, ℕ, zero, suc, ◌+◌, ◌*◌, ◌≤◌, ◌<◌, length, Float}
use Rattle.std.proofs.Math.Path.{sym, ap}
use Rattle.std.proofs.Common.{◌∙◌, ⊎_elim, le_trans, le-add_right, eq-or-lt_of_le, arith, add-one, length-append}
use Rattle.geometry.specs.Polyline.{cumulative_of, tangents_of}
use Rattle.geometry.specs.PolylineLaws.{length_cumulative, length_tangents}
use Rattle.geometry.specs.Over.{over, placed, over_placed}
use Rattle.rows.specs.Rows.{first_point, point_count, points_of}
use Rattle.geometry_rows.specs.Rows.{lane_ends, cumulative_rows, tangent_rows, points_before, Rows}

-- ---- all lanes
pub length_cumulative_rows : (lanes : List ℕ) (points : List Float) (k : ℕ) → length (cumulative_rows lanes points k) ≡ points_before lanes k
unfolding cumulative_rows points_before
length_cumulative_rows lanes points zero = refl
length_cumulative_rows lanes points (suc k) =
    simp length-append (omega (
      arith,
      length_cumulative_rows lanes points k,
      length_cumulative (points_of lanes points k)
          (point_count lanes k),
    ))

pub length_tangent_rows : (lanes : List ℕ) (points ends : List Float) (k : ℕ) → length
    (tangent_rows lanes points ends k) ≡ 3 * points_before lanes k
unfolding tangent_rows points_before
length_tangent_rows lanes points ends zero = refl
length_tangent_rows lanes points ends (suc k) =
    simp length-append
    (omega (
      arith,
      length_tangent_rows lanes points ends k,
      length_tangents (points_of lanes points k) (point_count lanes k)
          (lane_ends lanes ends k) (point_count lanes k),
    ))

-- the lanes before one have no more points than all
before_mono : (lanes : List ℕ) (k n : ℕ) → k ≤ n → points_before lanes k ≤ points_before lanes n
unfolding points_before
before_mono lanes k zero h = let none : k ≡ 0 = omega arith in rw none (omega arith)
before_mono lanes k (suc n) h =
    ⊎_elim (λ e. rw e (omega arith))
    (λ l. le_trans (before_mono lanes k n (omega arith)) (le-add_right (points_before lanes n) (point_count lanes n))) (eq-or-lt_of_le h)

module _ (lanes : List ℕ) (n : ℕ) (points : List Float) (rows : Rows lanes n points) (k : ℕ) (h : k < n) where
  -- lane k's points are among those of all
  pub lane_room : first_point lanes k + point_count lanes k ≤ points_before lanes n
  unfolding points_before
  lane_room = omega (arith, rows.firsts k h, before_mono lanes (suc k) n h)

  module _ (old out : List Float) where
    pub cumulative_rows_next : out ≡ over (cumulative_rows lanes points k) old
        → placed (first_point lanes k) (cumulative_of (points_of lanes points k) (point_count lanes k)) out ≡ over
        (cumulative_rows lanes points (k + 1)) old
    unfolding cumulative_rows
    cumulative_rows_next e =
        let lane = cumulative_of (points_of lanes points k) (point_count lanes k) in
        ap (placed (first_point lanes k) lane) e
        ∙ over_placed (cumulative_rows lanes points k) lane old (first_point lanes k)
        (length_cumulative_rows lanes points k ∙ sym (rows.firsts k h))
        ∙ ap (λ (j : ℕ). over (cumulative_rows lanes points j) old) (sym (add-one k))

    pub tangent_rows_next : (ends : List Float) → out ≡ over (tangent_rows lanes points ends k) old
        → placed (3 * first_point lanes k) (tangents_of (points_of lanes points k) (point_count lanes k) (lane_ends lanes ends k)) out
        ≡ over (tangent_rows lanes points ends (k + 1)) old
    unfolding tangent_rows
    tangent_rows_next ends e =
        let lane = tangents_of (points_of lanes points k) (point_count lanes k) (lane_ends lanes ends k) in
        ap (placed (3 * first_point lanes k) lane) e
        ∙ over_placed (tangent_rows lanes points ends k) lane old (3 * first_point lanes k)
        (length_tangent_rows lanes points ends k ∙ ap (λ (j : ℕ). 3 * j) (sym (rows.firsts k h)))
        ∙ ap (λ (j : ℕ). over (tangent_rows lanes points ends j) old) (sym (add-one k))
