-- The runs of numbers that the code counts through are the rows and columns of a ring, in the same order.
use mathlib.Core.Path.{◌≡◌, refl, ap, ◌∙◌}
use mathlib.Core.Bool.{Bool, true, false, cond, ◌||◌}
use mathlib.Core.List.{List, [], ◌∷◌}
use Prim.Native.Nat.{ℕ, zero, suc, ◌+◌, ◌-◌, ◌*◌, ◌<◌, ◌≤◌, min}
use native.Mathlib.Nat.{lt_of_not-le}
use native.Mathlib.Decide.{dec_le}
use native.Mathlib.Numerals.{add-one}
use native.Mathlib.Omega.{arith}
use lib.Dec.{ltb, eqb}
use borrow.Author.Tests.{lt-ltb, le-ltb, le-leb, lt-leb, eqb-false}
use Rattle.grid.specs.Ring.{count_from, near_to, end_columns, is_edge, columns_of, steps_from, steps, listed, near_run, ends_run, columns_run}

-- ---- a run goes on until it has reached its end

module _ (step end : ℕ) where
  more_fuel : (k j x : ℕ) → 0 < step → end ≤ x + k → end ≤ x + j → steps_from k x step end ≡ steps_from j x step end
  unfolding steps_from
  more_fuel zero zero x s h g = refl
  more_fuel zero (suc j) x s h g = simp (le-ltb x end (omega arith))
  more_fuel (suc k) zero x s h g = simp (le-ltb x end (omega arith))
  more_fuel (suc k) (suc j) x s h g =
      ap (λ (rest : List ℕ). cond (ltb x end) (x ∷ rest) []) (more_fuel k j (x + step) s (omega arith) (omega arith))

  next_by_law : (k x : ℕ) → 0 < step → x < end → end ≤ x + k → steps_from k x step end ≡ x ∷ steps (x + step) step end
  unfolding steps_from
  next_by_law zero x s l h = absurd (omega arith)
  next_by_law (suc k) x s l h =
      simp (lt-ltb x end l) (ap (λ (rest : List ℕ). x ∷ rest) (more_fuel k (end - (x + step)) (x + step) s (omega arith) (omega arith)))

  pub steps_next : (x : ℕ) → 0 < step → x < end → steps x step end ≡ x ∷ steps (x + step) step end
  steps_next x s l = next_by_law (end - x) x s l (omega arith)

  over_by : (k x : ℕ) → end ≤ x → steps_from k x step end ≡ []
  unfolding steps_from
  over_by zero x h = refl
  over_by (suc k) x h = simp (le-ltb x end h)

  pub steps_over : (x : ℕ) → end ≤ x → steps x step end ≡ []
  steps_over x h = over_by (end - x) x h

-- ---- the rows, and the columns of an edge row

counted : (k x end : ℕ) → k ≡ end - x → steps_from k x 1 end ≡ count_from k x
unfolding steps_from count_from
counted zero x end e = refl
counted (suc k) x end e =
    simp (lt-ltb x end (omega arith)) (ap (λ (rest : List ℕ). x ∷ rest) (rw (add-one) (counted k (suc x) end (omega arith))))

pub near_listed : (c r n : ℕ) → listed (near_run c r n) ≡ near_to c r n
unfolding near_to
near_listed c r n = counted (min n (c + r + 1) - (c - r)) (c - r) (min n (c + r + 1)) refl

-- ---- the columns of an inner row

module _ (c r n : ℕ) (some : 0 < r) where
  abbrev end : ℕ
  end = min n (c + r + 1)

  one_left : (x : ℕ) → x < end → end ≤ x + 2 * r → steps x (2 * r) end ≡ x ∷ []
  one_left x l h = steps_next (2 * r) end x (omega arith) l ∙ ap (λ (rest : List ℕ). x ∷ rest) (steps_over (2 * r) end (x + 2 * r) h)

  right : c < r → listed (ends_run c r n) ≡ end_columns c r n
  unfolding end_columns
  right l = elim (dec_le n (c + r)) [
    | yes h ↦ simp (lt-leb r c l, le-ltb (c + r) n h) (steps_over (2 * r) end (c + r) (omega arith))
    | no f ↦ let h = lt_of_not-le f in simp (lt-leb r c l, lt-ltb (c + r) n h) (one_left (c + r) (omega arith) (omega arith))
  ]

  both : r ≤ c → c - r < n → listed (ends_run c r n) ≡ end_columns c r n
  unfolding end_columns
  both l k = elim (dec_le n (c + r)) [
    | yes h ↦ simp (le-leb r c l, lt-ltb (c - r) n k, le-ltb (c + r) n h) (one_left (c - r) (omega arith) (omega arith))
    | no f ↦
        let h = lt_of_not-le f in
        let e : c - r + 2 * r ≡ c + r = omega arith in
        simp (le-leb r c l, lt-ltb (c - r) n k, lt-ltb (c + r) n h)
        (steps_next (2 * r) end (c - r) (omega arith) (omega arith)
        ∙ ap (λ (rest : List ℕ). (c - r) ∷ rest) (ap (λ (x : ℕ). steps x (2 * r) end) e ∙ one_left (c + r) (omega arith) (omega arith)))
  ]

  outside : r ≤ c → n ≤ c - r → listed (ends_run c r n) ≡ end_columns c r n
  unfolding end_columns
  outside l k = simp (le-leb r c l, le-ltb (c - r) n k, le-ltb (c + r) n (omega arith)) (steps_over (2 * r) end (c - r) (omega arith))

  pub ends_listed : listed (ends_run c r n) ≡ end_columns c r n
  ends_listed = elim (dec_le r c) [
    | yes l ↦ elim (dec_le n (c - r)) [ yes k ↦ outside l k | no f ↦ both l (lt_of_not-le f) ]
    | no f ↦ right (lt_of_not-le f)
  ]

-- ---- a row of a ring

module _ (cx cy r cols iy : ℕ) where
  inner : is_edge cy r iy ≡ false → cy ≤ iy + r → iy ≤ cy + r → 0 < r
  inner e h k = elim (dec_le r 0) [ yes z ↦ absurd (not_edge (eqb (iy + r) cy) (eqb iy (cy + r)) e refl refl z) | no f ↦ lt_of_not-le f ]
    where
      not_edge : (a b : Bool) → a || b ≡ false → eqb (iy + r) cy ≡ a → eqb iy (cy + r) ≡ b → r ≤ 0 → ⊥
      not_edge true b e p q z = let n : ◌≡◌ {A = ℕ} 0 1 = cc in omega arith
      not_edge false b e p q z = eqb-false (iy + r) cy p (omega arith)

  pub columns_listed : cy ≤ iy + r → iy ≤ cy + r → listed (columns_run cx cy r cols iy) ≡ columns_of cx cy r cols iy
  columns_listed h k = by (is_edge cy r iy) (λ e. inner e h k)
    where
      by : (b : Bool) → (b ≡ false → 0 < r)
          → listed (cond b (near_run cx r cols) (ends_run cx r cols)) ≡ cond b (near_to cx r cols) (end_columns cx r cols)
      by true f = near_listed cx r cols
      by false f = ends_listed cx r cols (f refl)
