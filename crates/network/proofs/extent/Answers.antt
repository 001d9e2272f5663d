-- `extent` merges one box a turn: what is left to merge makes of the box now what all make of the first.
use mathlib.Core.Path.{◌≡◌, ◌∙◌, ap}
use mathlib.Core.List.{List}
use Prim.Native.Nat.{ℕ, zero, suc, ◌+◌, ◌-◌, ◌<◌}
use native.Mathlib.Numerals.{add-one}
use native.Mathlib.Omega.{arith}
use lib.Ieee.{Float}
use Rattle.grid.specs.declared.Aabb.{Aabb}
use Rattle.grid.specs.Grid.{merge, extent_of}
use Rattle.network.specs.Tables.{box_in, box_list}
use Rattle.network.proofs.extent.Goals as goal

module _ (boxes : List Float) (whole : Aabb) where
  next_box : (left i : ℕ) (b a c : Aabb) → 0 < left → a ≡ box_in boxes i → c ≡ merge b a → extent_of b (box_list boxes left i) ≡ whole
      → extent_of c (box_list boxes (left - 1) (i + 1)) ≡ whole
  unfolding extent_of box_list
  next_box zero i b a c h is-a is_c e = absurd (omega arith)
  next_box (suc n) i b a c h is-a is_c e =
      let l : suc n - 1 ≡ n = omega arith in
      rw (l, add-one) (ap (λ (v : Aabb). extent_of v (box_list boxes n (suc i))) (is_c ∙ ap (merge b) is-a) ∙ e)

  last_box : (left i : ℕ) (b : Aabb) → left ≡ 0 → extent_of b (box_list boxes left i) ≡ whole → b ≡ whole
  unfolding extent_of box_list
  last_box zero i b z e = e
  last_box (suc n) i b z e = absurd (omega arith)

pub loop-i-preserved : goal.loop-i-preserved
loop-i-preserved c =
    let l = c.loop-i in
    let a = c.args in
    let less : a.n - (l.i + 1) ≡ a.n - l.i - 1 = omega arith in
    let next =
    next_box a.boxes.now _ (a.n - l.i) l.i l.b _ _ (omega arith) c.box_at.ensures c.merge-b.ensures l.invariant in
    rw less next

pub returns : goal.returns
returns c =
    let l = c.loop-i in
    let a = c.args in
    last_box a.boxes.now _ (a.n - l.i) l.i l.b (omega arith)
    (l.invariant ∙ ap (λ (v : Aabb). extent_of v (box_list a.boxes.now (a.n - 1) 1)) c.box_at-b.ensures)
