-- `write_ranges` writes one row a turn: `Filling` says what is written and what is left.
use mathlib.Core.Path.{◌≡◌, refl, ◌∙◌, ap}
use lib.Ieee.{Float}
use lib.Seq.{sets}
use Rattle.grid.specs.declared.Aabb.{Aabb}
use Rattle.grid.specs.declared.Grid.{Grid}
use Rattle.lists.specs.Filling.{Filling, fill_end, fill_many}
use Rattle.lists.specs.Rows.{rows}
use mathlib.Core.List.{List, []}
use Prim.Native.Nat.{ℕ, zero, suc, ◌+◌, ◌-◌, ◌*◌, ◌<◌, ◌≤◌}
use native.Mathlib.Omega.{arith}
use lib.ListN.{length}
use Rattle.network.specs.Tables.{box_in, box_list, range_row}
use Rattle.network.proofs.write_ranges.Goals as goal

module _ (boxes : List Float) (g : Grid) (old whole : List ℕ) where
  abbrev left_from : ℕ → ℕ → List ℕ
  left_from left i = rows (range_row g) (box_list boxes left i)

  next_row : (left i : ℕ) (ranges next : List ℕ) (b : Aabb) → 0 < left → b ≡ box_in boxes i → next ≡ sets ranges (4 * i) (range_row g b)
      → 4 * i + 4 ≤ length old → Filling ℕ old ranges (4 * i) (left_from left i) whole
      → Filling ℕ old next (4 * (i + 1)) (left_from (left - 1) (i + 1)) whole
  unfolding box_list rows
  next_row zero i ranges next b h is_b is-next room F = absurd (omega arith)
  next_row (suc n) i ranges next b h is_b is-next room F =
      let l : suc n - 1 ≡ n = omega arith in
      let s : i + 1 ≡ suc i = omega arith in
      let k : 4 * suc i ≡ 4 * i + 4 = omega arith in
      rw (l, s, k, is-next ∙ ap (λ (v : Aabb). sets ranges (4 * i) (range_row g v)) is_b)
      (fill_many ℕ old (range_row g (box_in boxes i)) ranges (4 * i) (left_from n (suc i)) whole F room)

  no_rows : (left i : ℕ) → left ≡ 0 → left_from left i ≡ []
  unfolding box_list rows
  no_rows zero i z = refl
  no_rows (suc n) i z = absurd (omega arith)

pub loop-i-preserved : goal.loop-i-preserved
loop-i-preserved c =
    let l = c.loop-i in
    let a = c.args in
    let less : a.n - (l.i + 1) ≡ a.n - l.i - 1 = omega arith in
    rw less
    (next_row a.boxes.now a.g a.ranges.now _ (a.n - l.i) l.i l.ranges _ _ (omega arith) c.box_at-b.ensures (cc)
    (omega arith) l.invariant)

pub returns : goal.returns
returns c =
    let l = c.loop-i in
    let a = c.args in
    fill_end ℕ a.ranges.now l.ranges (4 * l.i) _ _ l.invariant
    (no_rows a.boxes.now a.g a.ranges.now [] (a.n - l.i) l.i (omega arith))
