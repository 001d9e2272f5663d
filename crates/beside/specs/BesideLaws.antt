-- The steps of the code: the search for the next number, the answer from a lane's row, and the sides by their numbers.
use Rattle.std.specs.Prelude.{◌≡◌, Bool, true, false, cond, List, ℕ, zero, suc, refl, ◌+◌, ◌<◌, ◌≤◌, Float}
use Rattle.std.proofs.Common.{sym, ◌∙◌, add-one, arith}
use Rattle.std.proofs.Math.Path.{ap}
use borrow.Author.Tests.{lt-ltb, le-ltb, ne_eqb}
use Rattle.beside.specs.declared.LanePosition.{LanePosition}
use Rattle.beside.specs.declared.BesideAnswer.{BesideAnswer}
use Rattle.plan_find.specs.FirstRow.{first_row, is_lane}
use Rattle.rows.specs.Rows.{direction_of, place_of, placed_lane, placed_section, raised_number}
use Rattle.beside.specs.declared.Direction.{Direction}
use Rattle.beside.specs.declared.Side.{Side}
use Rattle.beside.specs.Sides.{direction_at, direction_number, side_at, side_number}
use Rattle.beside.specs.Beside.{toward_larger, nearer_at, next_row, in_section, refusal, center_at, beside_row, beside_rows}

-- ---- the search for the next number
module _ (places : List ℕ) (m j here : ℕ) (larger : Bool) where
  module _ (best k : ℕ) (e : best ≡ next_row places m j here larger k) where
    next_is : next_row places m j here larger (k + 1) ≡ cond (nearer_at places m j here larger best k) k best
    unfolding next_row
    next_is = rw (add-one k, ← e)

    pub next_nearer : nearer_at places m j here larger best k ≡ true → k ≡ next_row places m j here larger (k + 1)
    next_nearer h = sym (next_is ∙ ap (λ (b : Bool). cond b k best) h)

    pub next_same : nearer_at places m j here larger best k ≡ false → best ≡ next_row places m j here larger (k + 1)
    next_same h = sym (next_is ∙ ap (λ (b : Bool). cond b k best) h)

-- ---- the way of a lane, by its number
way_at : (direction side : ℕ) → toward_larger (direction_number (direction_at direction)) side ≡ toward_larger direction side
way_at zero side = refl
way_at (suc zero) side = refl
way_at (suc (suc zero)) side = refl
way_at (suc (suc (suc n))) side = sym (rw (ne_eqb (suc (suc (suc n))) 1 (λ e. absurd (omega arith))))

pub toward_at : (direction : ℕ) (way : Direction) (side : Side) → way ≡ direction_at direction
    → toward_larger (direction_number way) (side_number side) ≡ toward_larger direction (side_number side)
toward_at direction way side e =
    ap (λ (w : Direction). toward_larger (direction_number w) (side_number side)) e ∙ way_at direction (side_number side)

-- ---- the answer, from the row of the position's lane
module _ (lanes : List ℕ) (n : ℕ) (fans places : List ℕ) (m : ℕ) (bounds : List Float) (at : LanePosition) (side i : ℕ)
    (is : i ≡ first_row (is_lane lanes at.lane.0) n 0 256) where
  from_row : (r : BesideAnswer) → r ≡ beside_row lanes n fans places m bounds at.s side i
      → r ≡ beside_rows lanes n fans places m bounds at side
  unfolding beside_rows
  from_row r e = e ∙ ap (beside_row lanes n fans places m bounds at.s side) is

  pub unknown : n ≤ i → refusal 12 ≡ beside_rows lanes n fans places m bounds at side
  unfolding beside_row
  unknown h = from_row (refusal 12) (sym (rw (le-ltb i n h)))

  module _ (known : i < n) where
    pub unplaced : m ≤ place_of fans i → refusal 12 ≡ beside_rows lanes n fans places m bounds at side
    unfolding beside_row
    unplaced h = from_row (refusal 12) (sym (rw (lt-ltb i n known, le-ltb (place_of fans i) m h)))

    module _ (placed : place_of fans i < m) (b : Bool) (within : b ≡ in_section bounds (placed_section places (place_of fans i)) at.s) where
      pub off : b ≡ false → refusal 12 ≡ beside_rows lanes n fans places m bounds at side
      unfolding beside_row
      off f = from_row (refusal 12) (sym (rw (lt-ltb i n known, lt-ltb (place_of fans i) m placed, ← within, f)))

      module _ (on : b ≡ true) (larger : Bool) (toward : larger ≡ toward_larger (direction_of lanes i) side) (r : ℕ)
          (next : r ≡ next_row places m (placed_section places (place_of fans i)) (raised_number places (place_of fans i)) larger m) where
        pub alone : m ≤ r → refusal 15 ≡ beside_rows lanes n fans places m bounds at side
        unfolding beside_row
        alone h = from_row (refusal 15)
            (sym (rw (lt-ltb i n known, lt-ltb (place_of fans i) m placed, ← within, on, ← toward, ← next, le-ltb r m h)))

        pub beside_it : r < m → center_at lanes (placed_lane places r) at.s ≡ beside_rows lanes n fans places m bounds at side
        unfolding beside_row
        beside_it h =
            from_row (center_at lanes (placed_lane places r) at.s)
            (sym (rw (lt-ltb i n known, lt-ltb (place_of fans i) m placed, ← within, on, ← toward, ← next, lt-ltb r m h)))

-- ---- the sides: 0 is the left, any other the right
pub on_right : (lanes : List ℕ) (n : ℕ) (fans places : List ℕ) (m : ℕ) (bounds : List Float) (at : LanePosition) (side : ℕ) → (side ≡ 0 → ⊥)
    → beside_rows lanes n fans places m bounds at 1 ≡ beside_rows lanes n fans places m bounds at side
unfolding beside_rows beside_row
on_right lanes n fans places m bounds at side h = rw (ne_eqb side 0 h)

module _ (lanes : List ℕ) (n : ℕ) (fans places : List ℕ) (m : ℕ) (bounds : List Float) (at : LanePosition) where
  number_at : (side : ℕ) → beside_rows lanes n fans places m bounds at (side_number (side_at side))
      ≡ beside_rows lanes n fans places m bounds at side
  number_at zero = refl
  number_at (suc k) = on_right lanes n fans places m bounds at (suc k) (λ e. absurd (omega arith))

  pub beside_at : (side : ℕ) (x : Side) → x ≡ side_at side
      → beside_rows lanes n fans places m bounds at (side_number x) ≡ beside_rows lanes n fans places m bounds at side
  beside_at side x e = ap (λ (y : Side). beside_rows lanes n fans places m bounds at (side_number y)) e ∙ number_at side
