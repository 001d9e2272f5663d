-- The grid over boxes whose coordinates are in range: 1 to 1,024 columns and rows, and a cell of 1/1024 to 16,384 m (`grid_fine`).
-- That is all the bound needs of the grid: the root and the wished number of cells do not matter to it.
use mathlib.Core.Path.{refl}
use mathlib.Core.Bool.{true, false}
use mathlib.Core.List.{List, [], ◌∷◌}
use Prim.Native.Nat.{ℕ, ◌+◌, ◌*◌, ◌^◌, ◌≤◌}
use native.Mathlib.Nat.{mul-le-mul_right}
use native.Mathlib.Omega.{arith}
use lib.Dec.{T, lit<, lit≤}
use lib.Ieee.{Float, binary32, sub, div, of_bits, of_int, fits}
use Rattle.exact.specs.Integers.{Z, ◌≈◌, ◌⊑◌, ◌⊞◌, ◌⊟◌, ◌⊠◌, ◌·◌, ⊖, ι, ≈_refl, ≈_sym, ≈_trans, ⊠_cong, one_times, sgn}
use Rattle.exact.specs.Inequalities.{Within, abs, within_scale, ι_nonneg, ≈_⊑}
use Rattle.exact.specs.Values.{U, mag, val, F32, U_large, size_of}
use Rattle.exact.specs.Monotone.{Frac}
use Rattle.exact.proofs.Monotone.{lower_bound}
use Rattle.exact.proofs.Arithmetic.{size_is, frac_err}
use Rattle.exact.proofs.Steps.{div_step, frac_ok, size_kept, sign_kept}
use Rattle.float.specs.Choose.{max_of}
use Rattle.coords.specs.Coords.{zero⁺, one⁺}
use Rattle.grid.specs.declared.Aabb.{Aabb}
use Rattle.grid.specs.declared.Grid.{Grid}
use Rattle.grid.specs.Grid.{milli, of_whole, grid_of, first_cell, side, extent_of, merge}
use Rattle.accuracy.proofs.Coordinates.{Coord, diff, zero_ok, zero_val, one_ok, one_val, zero_coord}
use Rattle.accuracy.proofs.MinMax.{max_by, min_by, max_second}
use Rattle.accuracy.proofs.Cells.{CellSize}

-- ---- whole numbers as f32
whole_frac : (n : ℕ) → Frac (of_whole n) 1 (ι (n * U))
unfolding of_int
whole_frac n =
    record { s = false; num = n; c = 1; w = n * U; is = refl; cpos = omega arith; kpos = omega arith; units = refl; value = go (n * U) }
  where
    go : (w : ℕ) → ι w ≈ sgn false w
    go w = unfold ι sgn in omega arith

pub record Whole (n : ℕ) (x : Float) : Type 0 where
  pub good : F32 x
  pub pos : ι 0 ⊑ val x
  pub size : Within (val x) (ι (2 ^ 11 * U))
  pub near : 16777216 · val x ⊑ ι (16777217 * (n * U) + 8388608)

pub whole : (n : ℕ) → n ≤ 1024 → Whole n (of_whole n)
whole n h =
    let f = whole_frac n in
    let x = of_whole n in
    let g = frac_ok x 1 11 (ι (n * U)) f (lit< tt) small in
    record {
      good = g;
      pos = sign_kept x 1 (ι (n * U)) f g.real (ι_nonneg (n * U));
      size = size_kept x 1 11 (ι (n * U)) f g.real (lit< tt) small;
      near = go (val x) (ι 1 ⊠ val x) (n * U) (one_times (val x)) (frac_err x 1 (ι (n * U)) f g.real);
    }
  where
    small : Within (ι (n * U)) (ι (1 * (2 ^ 11 * U)))
    small = unfold ι ⊖ in omega (arith, mul-le-mul_right U h)

    go : (v w : Z) (k : ℕ) → w ≈ v → Within (16777216 · (w ⊟ ι k)) (abs (ι k) ⊞ ι (8388608 * 1)) → 16777216 · v ⊑ ι (16777217 * k + 8388608)
    go v w k e h = unfold ι ⊖ ◌⊞◌ ◌⊟◌ ◌·◌ abs in omega arith

-- from 1 on it is at least 1
whole_one : (n : ℕ) → 1 ≤ n → n ≤ 1024 → ι U ⊑ val (of_whole n)
whole_one n l h =
    ≈_⊑ (≈_sym one_val) (lower_bound (of_whole n) one⁺ 1 (ι (n * U)) (whole_frac n) one_ok (whole n h).good.real
    (≈_⊑ (≈_trans (⊠_cong (≈_refl (ι 1)) one_val) (one_times (ι U))) more))
  where
    more : ι U ⊑ ι (n * U)
    more = unfold ι in omega (arith, mul-le-mul_right U l)

-- ---- the extent
pub record BoxIn (b : Aabb) : Type 0 where
  pub low_x : Coord b.min_x
  pub high_x : Coord b.max_x
  pub low_y : Coord b.min_y
  pub high_y : Coord b.max_y

merged_in : (b c : Aabb) → BoxIn b → BoxIn c → BoxIn (merge b c)
unfolding merge
merged_in b c p q = record {
  low_x = min_by b.min_x c.min_x p.low_x.good q.low_x.good Coord p.low_x q.low_x zero_coord;
  high_x = max_by b.max_x c.max_x p.high_x.good q.high_x.good Coord p.high_x q.high_x zero_coord;
  low_y = min_by b.min_y c.min_y p.low_y.good q.low_y.good Coord p.low_y q.low_y zero_coord;
  high_y = max_by b.max_y c.max_y p.high_y.good q.high_y.good Coord p.high_y q.high_y zero_coord;
}

abbrev pub BoxesIn : List Aabb → Type 0
BoxesIn [] = T true
BoxesIn (b ∷ bs) = BoxIn b × BoxesIn bs

pub extent_in : (b : Aabb) (bs : List Aabb) → BoxIn b → BoxesIn bs → BoxIn (extent_of b bs)
unfolding extent_of
extent_in b [] p q = p
extent_in b (c ∷ cs) p q = extent_in (merge b c) cs (merged_in b c p q.0) q.1

-- ---- the cell: max (w / cols) (h / rows) 1e-3
milli_ok : F32 milli
unfolding fits of_bits
milli_ok = record { fit = tt; real = tt }

milli_low : ι U ⊑ 1024 · val milli
unfolding ◌·◌ val sgn mag ι U of_bits
milli_low = record { le = lit≤ tt }

milli_high : val milli ⊑ ι (2 ^ 14 * U)
unfolding ◌·◌ val sgn mag ι U of_bits
milli_high = record { le = lit≤ tt }

record UpTo14 (x : Float) : Type 0 where
  pub good : F32 x
  pub high : val x ⊑ ι (2 ^ 14 * U)

share : (w : Float) (n : ℕ) → F32 w → Within (val w) (ι (2 ^ 13 * U)) → 1 ≤ n → n ≤ 1024 → UpTo14 (div binary32 w (of_whole n))
share w n g s l h =
    let y = whole n h in
    let y₁ = whole_one n l h in
    let one = pos (val (of_whole n)) y₁ in
    let d = div_step w (of_whole n) 13 g y.good one (lit< tt)
    (ratio (val w) (size_of (of_whole n)) (size_is (of_whole n) y.good one) y₁ s) in
    record { good = d.good; high = out (val (div binary32 w (of_whole n))) d.size }
  where
    pos : (v : Z) → ι U ⊑ v → ι 1 ⊑ v
    pos v h = unfold ι in omega (arith, U_large)

    wider : (v y n : Z) → n ≈ y → ι U ⊑ y → Within v (ι (2 ^ 13 * U)) → Within v (8192 · n)
    wider v y n e i h = unfold ι ⊖ ◌·◌ in omega arith

    more : (a : Z) (n : ℕ) → Within a (ι U ⊠ (8192 · ι n)) → Within a (ι (n * (2 ^ 13 * U)))
    more a n h = unfold ι ⊖ ◌⊠◌ ◌·◌ in omega arith

    ratio : (v : Z) (k : ℕ) → ι k ≈ val (of_whole n) → ι U ⊑ val (of_whole n) → Within v (ι (2 ^ 13 * U))
        → Within (ι U ⊠ v) (ι (k * (2 ^ 13 * U)))
    ratio v k e i h = more (ι U ⊠ v) k (within_scale U (wider v (val (of_whole n)) (ι k) e i h))

    out : (a : Z) → Within a (ι (2 ^ 13 * U)) → a ⊑ ι (2 ^ 14 * U)
    out a h = unfold ι ⊖ in omega arith

larger : (x y : Float) → UpTo14 x → UpTo14 y → UpTo14 (max_of x y)
larger x y p q = max_by x y p.good q.good UpTo14 p q (record { good = zero_ok; high = go (val zero⁺) zero_val })
  where
    go : (a : Z) → a ≈ ι 0 → a ⊑ ι (2 ^ 14 * U)
    go a e = unfold ι in omega arith

side_range : (x : Float) → (1 ≤ side x) × (side x ≤ 1024)
unfolding side
side_range x = (omega arith, omega arith)

pub record Fine (g : Grid) : Type 0 where
  pub x : Coord g.min_x
  pub y : Coord g.min_y
  pub cell : CellSize g.cell
  pub cols : g.cols ≤ 1024
  pub rows : g.rows ≤ 1024
  pub cols_pos : 1 ≤ g.cols
  pub rows_pos : 1 ≤ g.rows

pub grid_fine : (b : Aabb) (items : ℕ) → BoxIn b → Fine (grid_of b items)
unfolding grid_of
grid_fine b items r =
    let w = sub binary32 b.max_x b.min_x in
    let h = sub binary32 b.max_y b.min_y in
    let W = diff b.max_x b.min_x r.high_x r.low_x in
    let H = diff b.max_y b.min_y r.high_y r.low_y in
    let first = first_cell w h items in
    let cols = side (div binary32 w first) in
    let rows = side (div binary32 h first) in
    let c = side_range (div binary32 w first) in
    let o = side_range (div binary32 h first) in
    let m = max_of (div binary32 w (of_whole cols)) (div binary32 h (of_whole rows)) in
    let M = larger (div binary32 w (of_whole cols)) (div binary32 h (of_whole rows)) (share w cols W.good W.size c.0 c.1)
    (share h rows H.good H.size o.0 o.1) in
    let C = larger m milli M (record { good = milli_ok; high = milli_high }) in
    record {
      x = r.low_x;
      y = r.low_y;
      cell = record {
        good = C.good;
        low = up (val milli) (val (max_of m milli)) milli_low
            (max_second m milli M.good milli_ok);
        high = C.high;
      };
      cols = c.1;
      rows = o.1;
      cols_pos = c.0;
      rows_pos = o.0;
    }
  where
    up : (a b : Z) → ι U ⊑ 1024 · a → a ⊑ b → ι U ⊑ 1024 · b
    up a b h k = unfold ι ◌·◌ in omega arith
