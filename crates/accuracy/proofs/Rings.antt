-- The rings of a grid: each cell at distance r from (cx, cy), by the larger of columns and rows, is listed by ring r (`ring_has`); where
-- a ring lists none, no cell is left (`outgrown`); and a range of cells has one nearer than r, or lies r or more away on one side
-- (`near_or_apart`).
use mathlib.Core.Path.{◌≡◌, refl, sym, subst, ap}
use mathlib.Core.Logic.{◌⊎◌, inl, inr}
use mathlib.Core.Bool.{Bool, true, false, not, cond, ◌&&◌, ◌||◌}
use mathlib.Core.List.{List, [], ◌∷◌}
use Prim.Native.Nat.{ℕ, zero, suc, ◌+◌, ◌-◌, ◌≤◌, ◌<◌, min}
use native.Mathlib.Omega.{arith}
use lib.Dec.{T, leb, ltb, eqb, le→leb, lt→ltb}
use lib.Ieee.Fits.{and_i, eq→eqb}
use Rattle.exact.specs.Naturals.{lt_or_le}
use Rattle.grid.specs.declared.Cell.{Cell}
use Rattle.grid.specs.Ring.{keep_if, count_from, near_to, end_columns, is_edge, columns_of, row_cells, ring_rows, ring_of}
use Rattle.accuracy.specs.Taped.{In}

module _ {A : Type 0} where
  kept_first : (b : Bool) (x a : A) (xs : List A) → T b → x ≡ a → In x (keep_if b a xs)
  kept_first true x a xs t e = inl e
  kept_first false x a xs t e = absurd t

  kept_rest : (b : Bool) (x a : A) (xs : List A) → In x xs → In x (keep_if b a xs)
  kept_rest true x a xs h = inr h
  kept_rest false x a xs h = h

-- ---- one row
count_has : (k x d : ℕ) → d < k → In (x + d) (count_from k x)
unfolding count_from
count_has zero x d l = absurd (none d l)
  where
    none : (d : ℕ) → d < 0 → ⊥
    none d l = omega arith
count_has (suc k) x zero l = inl (omega arith)
count_has (suc k) x (suc d) l = inr (subst (λ (n : ℕ). In n (count_from k (suc x))) (shift x d) (count_has k (suc x) d (omega arith)))
  where
    shift : (x d : ℕ) → suc x + d ≡ x + suc d
    shift x d = omega arith

near_has : (c r n x : ℕ) → x < n → x ≤ c + r → c ≤ x + r → In x (near_to c r n)
unfolding near_to
near_has c r n x X h k =
    let count = min n (c + r + 1) - (c - r) in
    subst (λ (m : ℕ). In m (count_from count (c - r))) (back c r x k) (count_has count (c - r) (x - (c - r)) (omega arith))
  where
    back : (c r x : ℕ) → c ≤ x + r → c - r + (x - (c - r)) ≡ x
    back c r x k = omega arith

ends_have : (c r n x : ℕ) → x < n → (x ≡ c + r) ⊎ (c ≡ x + r) → In x (end_columns c r n)
unfolding end_columns
ends_have c r n x X (inl e) =
    kept_rest (leb r c && ltb (c - r) n) x (c - r) (keep_if (ltb (c + r) n) (c + r) [])
    (kept_first (ltb (c + r) n) x (c + r) [] (lt→ltb (c + r) n (omega arith)) e)
ends_have c r n x X (inr e) =
    kept_first (leb r c && ltb (c - r) n) x (c - r) (keep_if (ltb (c + r) n) (c + r) [])
    (and_i (leb r c) (ltb (c - r) n) (le→leb r c (omega arith)) (lt→ltb (c - r) n (omega arith))) (omega arith)

-- ---- all rows
abbrev pub cell_at : ℕ → ℕ → Cell
cell_at x y = record { ix = x; iy = y }

row_has : (y x : ℕ) (xs : List ℕ) (rest : List Cell) → In x xs → In (cell_at x y) (row_cells y xs rest)
unfolding row_cells
row_has y x [] rest h = absurd h
row_has y x (a ∷ xs) rest (inl e) = inl (ap (λ (i : ℕ). cell_at i y) e)
row_has y x (a ∷ xs) rest (inr h) = inr (row_has y x xs rest h)

row_rest : (y : ℕ) (xs : List ℕ) (rest : List Cell) (c : Cell) → In c rest → In c (row_cells y xs rest)
unfolding row_cells
row_rest y [] rest c h = h
row_rest y (a ∷ xs) rest c h = inr (row_rest y xs rest c h)

rows_have : (cx cy r cols : ℕ) (ys : List ℕ) (x y : ℕ) → In y ys → In x (columns_of cx cy r cols y)
    → In (cell_at x y) (ring_rows cx cy r cols ys)
unfolding ring_rows
rows_have cx cy r cols [] x y h k = absurd h
rows_have cx cy r cols (b ∷ ys) x y (inl e) k =
    let rest = ring_rows cx cy r cols ys in
    subst (λ (z : ℕ). In (cell_at x y) (row_cells z (columns_of cx cy r cols z) (ring_rows cx cy r cols ys))) e
    (row_has y x (columns_of cx cy r cols y) rest k)
rows_have cx cy r cols (b ∷ ys) x y (inr h) k =
    row_rest b (columns_of cx cy r cols b) (ring_rows cx cy r cols ys) (cell_at x y) (rows_have cx cy r cols ys x y h k)

-- the distance is r in columns or in rows
abbrev OnRing : ℕ → ℕ → ℕ → ℕ → ℕ → Type 0
OnRing cx cy r x y = ((x ≡ cx + r) ⊎ (cx ≡ x + r)) ⊎ ((y ≡ cy + r) ⊎ (cy ≡ y + r))

pub ring_has : (cols rows cx cy r x y : ℕ) → x < cols → y < rows → x ≤ cx + r → cx ≤ x + r → y ≤ cy + r → cy ≤ y + r → OnRing cx cy r x y
    → In (cell_at x y) (ring_of cols rows cx cy r)
unfolding ring_of
ring_has cols rows cx cy r x y X Y a b c d o =
    rows_have cx cy r cols (near_to cy r rows) x y (near_has cy r rows y Y c d)
    (columns (is_edge cy r y) (inner (eqb (y + r) cy) (eqb y (cy + r)) (λ e. eq→eqb {a = y + r} {b = cy} (sym e))
    (λ e. eq→eqb {a = y} {b = cy + r} e)))
  where
    inner : (s t : Bool) → (cy ≡ y + r → T s) → (y ≡ cy + r → T t) → T (not (s || t)) → (x ≡ cx + r) ⊎ (cx ≡ x + r)
    inner true t f g n = absurd n
    inner false true f g n = absurd n
    inner false false f g n = only o
      where
        only : OnRing cx cy r x y → (x ≡ cx + r) ⊎ (cx ≡ x + r)
        only (inl h) = h
        only (inr (inl h)) = absurd (g h)
        only (inr (inr h)) = absurd (f h)

    columns : (s : Bool) → (T (not s) → (x ≡ cx + r) ⊎ (cx ≡ x + r)) → In x (cond s (near_to cx r cols) (end_columns cx r cols))
    columns true f = near_has cx r cols x X a b
    columns false f = ends_have cx r cols x X (f tt)

-- nearer than r
abbrev pub Near : ℕ → ℕ → ℕ → ℕ → ℕ → Type 0
Near cx cy r x y = (x < cx + r) × (cx < x + r) × (y < cy + r) × (cy < y + r)

pub outgrown : (cols rows cx cy s x y : ℕ) → cx < cols → cy < rows → ring_of cols rows cx cy s ≡ [] → x < cols → y < rows
    → Near cx cy (suc s) x y
outgrown cols rows cx cy s x y CX CY e X Y = (right, left, above, below)
  where
    empty : (i j : ℕ) → In (cell_at i j) (ring_of cols rows cx cy s) → ⊥
    empty i j h = subst (λ (l : List Cell). In (cell_at i j) l) e h

    column : (i : ℕ) → i < cols → (i ≡ cx + s) ⊎ (cx ≡ i + s) → i ≤ cx + s → cx ≤ i + s → ⊥
    column i I o h k = empty i cy (ring_has cols rows cx cy s i cy I CY h k (omega arith) (omega arith) (inl o))

    row : (j : ℕ) → j < rows → (j ≡ cy + s) ⊎ (cy ≡ j + s) → j ≤ cy + s → cy ≤ j + s → ⊥
    row j J o h k = empty cx j (ring_has cols rows cx cy s cx j CX J (omega arith) (omega arith) h k (inr o))

    right : x < cx + suc s
    right =
        elim (lt_or_le x (cx + suc s)) [ inl h ↦ h | inr h ↦ absurd (column (cx + s) (omega arith) (inl refl) (omega arith) (omega arith)) ]

    left : cx < x + suc s
    left = elim (lt_or_le cx (x + suc s)) [
      | inl h ↦ h
      | inr h ↦ absurd (column (cx - s) (omega arith) (inr (omega arith)) (omega arith) (omega arith))
    ]

    above : y < cy + suc s
    above =
        elim (lt_or_le y (cy + suc s)) [ inl h ↦ h | inr h ↦ absurd (row (cy + s) (omega arith) (inl refl) (omega arith) (omega arith)) ]

    below : cy < y + suc s
    below = elim (lt_or_le cy (y + suc s)) [
      | inl h ↦ h
      | inr h ↦ absurd (row (cy - s) (omega arith) (inr (omega arith)) (omega arith) (omega arith))
    ]

-- nearer than r + 1 is nearer than r, or on ring r
pub near_or_on : (cx cy r x y : ℕ) → Near cx cy (suc r) x y → Near cx cy r x y ⊎ OnRing cx cy r x y
near_or_on cx cy r x y h =
    elim (lt_or_le x (cx + r)) [
      | inr a ↦ inr (inl (inl (omega arith)))
      | inl a ↦ elim (lt_or_le cx (x + r)) [
        | inr b ↦ inr (inl (inr (omega arith)))
        | inl b ↦ elim (lt_or_le y (cy + r)) [
          | inr c ↦ inr (inr (inl (omega arith)))
          | inl c ↦ elim (lt_or_le cy (y + r)) [
            | inr d ↦ inr (inr (inr (omega arith)))
            | inl d ↦ inl (a, b, c, d)
          ]
        ]
      ]
    ]

-- ---- the range l .. h of columns or rows, against c
abbrev pub Apart : ℕ → ℕ → ℕ → ℕ → Type 0
Apart c l h r = (c + r ≤ l) ⊎ (h + r ≤ c)

-- the number of l .. h that is nearest to c
abbrev nearest : ℕ → ℕ → ℕ → ℕ
nearest c l h = l + ((c - l) - (c - h))

pub near_or_apart : (c l h r : ℕ) → 1 ≤ r → l ≤ h → Apart c l h r ⊎ ((x : ℕ) × (l ≤ x) × (x ≤ h) × (x < c + r) × (c < x + r))
near_or_apart c l h r p o =
    elim (lt_or_le l (c + r)) [
      | inr a ↦ inl (inl a)
      | inl a ↦ elim (lt_or_le c (h + r)) [
        | inr b ↦ inl (inr b)
        | inl b ↦ inr (nearest c l h, omega arith, omega arith, omega arith, omega arith)
      ]
    ]
