-- Columns and rows: what a bucket says of the coordinate, to a thousandth of a metre (`bucket_reached`, `bucket_passed`), that it keeps
-- the order (`bucket_mono`), and how far coordinates are apart whose buckets are (`buckets_apart`).
use mathlib.Core.Path.{◌≡◌, sym, subst}
use mathlib.Core.Bool.{true, false}
use Prim.Native.Nat.{ℕ, suc, ◌+◌, ◌-◌, ◌*◌, ◌^◌, ◌≤◌, ◌<◌}
use native.Mathlib.Nat.{le_of_mul-le-mul_right, lt_of_mul-lt-mul_right, le_trans, le_of_eq, mul-le-mul_right, mul-lt-mul_of_pos_right}
use native.Mathlib.Nat.{lt_of_lt_of_le, lt_of_le_of_lt}
use native.Mathlib.Omega.{arith}
use lib.Dec.{lit<}
use lib.Ieee.{Float, nan, inf, fin, binary32, up, down, sub, div, le, to_unsigned}
use lib.Ieee.Fits.{down_pos}
use lib.Ieee.Bits.{is_true}
use Rattle.exact.specs.Integers.{Z, ◌≈◌, ◌⊑◌, ◌⊞◌, ◌⊟◌, ◌⊠◌, ◌·◌, ⊖, ι, ≈_refl, ≈_sym, ⊠_cong, sgn}
use Rattle.exact.specs.Ring.{◌:*◌, ◌:=◌, ring}
use Rattle.exact.specs.Inequalities.{Within, abs, within_scale, abs_least, mul_mono, pos→nonneg, lt→⊑, scale_mono, cancel_le}
use Rattle.exact.specs.Values.{U, U_pos, mag, mag_is, val, F32, U_large, UU_large, U_one, size_of}
use Rattle.exact.proofs.Order.{le_of}
use Rattle.exact.proofs.Monotone.{frac_mono}
use Rattle.exact.proofs.Arithmetic.{size_is, sub_frac, div_frac}
use Rattle.exact.specs.Steps.{Step}
use Rattle.exact.proofs.Steps.{div_step}
use Rattle.float_laws.proofs.Casts.{unsigned_is, unsigned_edges, unsigned_mono}
use Rattle.grid.proofs.Buckets.{bucket_is}
use Rattle.grid.specs.Grid.{bucket}
use Rattle.accuracy.proofs.Coordinates.{Coord, diff, diff_size}

-- ---- the whole part of q, `to_unsigned 64 q`
-- a fraction m / d in units: A = m U / d
in_units : (i d m A : ℕ) → 0 < d → A * d ≡ m * U → i * d ≤ m → i * U ≤ A
in_units i d m A D e h =
    le_of_mul-le-mul_right {k = d} (le_trans (le_of_eq (swap i d)) (le_trans (mul-le-mul_right U h) (le_of_eq (sym e)))) D
  where
    swap : (i d : ℕ) → i * U * d ≡ i * d * U
    swap i d = omega arith

in_units_below : (i d m A : ℕ) → 0 < d → A * d ≡ m * U → m < i * d → A < i * U
in_units_below i d m A D e h =
    lt_of_mul-lt-mul_right d (lt_of_le_of_lt (le_of_eq e) (lt_of_lt_of_le (mul-lt-mul_of_pos_right h U_pos) (le_of_eq (swap i d))))
  where
    swap : (i d : ℕ) → i * d * U ≡ i * U * d
    swap i d = omega arith

whole_part_low : (q : Float) (i : ℕ) → F32 q → 1 ≤ i → i ≤ to_unsigned 64 q → ι (i * U) ⊑ val q
unfolding val
whole_part_low nan i p l h = absurd p.real
whole_part_low (inf s) i p l h = absurd p.real
whole_part_low (fin true m e) i p l h = absurd (no (to_unsigned 64 (fin true m e)) (unsigned_edges 64 m e).2 h)
  where
    no : (n : ℕ) → n ≡ 0 → i ≤ n → ⊥
    no n e h = omega arith
whole_part_low (fin false m e) i p l h =
    go (mag m e)
    (in_units i (down e) (m * up e) (mag m e) (down_pos e) (mag_is false m e p.fit)
    (le_trans (mul-le-mul_right (down e) h) (unsigned_is 64 m e).low))
  where
    go : (A : ℕ) → i * U ≤ A → ι (i * U) ⊑ sgn false A
    go A h = unfold ι sgn in omega arith

whole_part_high : (q : Float) → F32 q → to_unsigned 64 q < 1024 → val q ⊞ ι 1 ⊑ ι ((to_unsigned 64 q + 1) * U)
unfolding val
whole_part_high nan p h = absurd p.real
whole_part_high (inf s) p h = absurd p.real
whole_part_high (fin true m e) p h = go (mag m e) (to_unsigned 64 (fin true m e)) U U_pos
  where
    go : (A t u : ℕ) → 0 < u → sgn true A ⊞ ι 1 ⊑ ι ((t + 1) * u)
    go A t u h = unfold ι sgn ◌⊞◌ in omega arith
whole_part_high (fin false m e) p h =
    let n = to_unsigned 64 (fin false m e) in
    go (mag m e) ((n + 1) * U)
    (in_units_below (n + 1) (down e) (m * up e) (mag m e) (down_pos e) (mag_is false m e p.fit) ((unsigned_is 64 m e).high (small n h)))
  where
    small : (n : ℕ) → n < 1024 → n < 2 ^ 64 - 1
    small n h = omega arith

    go : (A t : ℕ) → A < t → sgn false A ⊞ ι 1 ⊑ ι t
    go A t h = unfold ι sgn ◌⊞◌ in omega arith

-- ---- the size of a cell: from 2^-10 to 2^14 m
pub record CellSize (c : Float) : Type 0 where
  pub good : F32 c
  pub low : ι U ⊑ 1024 · val c
  pub high : val c ⊑ ι (2 ^ 14 * U)

pub cell_pos : (c : Float) → CellSize c → ι 1 ⊑ val c
cell_pos c s = go U U_large (val c) s.low
  where
    go : (u : ℕ) → 1152921504606846976 ≤ u → (l : Z) → ι u ⊑ 1024 · l → ι 1 ⊑ l
    go u h l i = unfold ι ◌·◌ in omega arith

pub bucket_top : (o c : Float) (n : ℕ) → bucket o c n ≤ n - 1
bucket_top o c n = let e = bucket_is o c n in omega arith

-- ---- the bucket of x - m, for coordinates x and m, among n cells of size c
module _ (c m : Float) (n : ℕ) (C : CellSize c) (M : Coord m) (N : n ≤ 1024) where
  abbrev off : Float → Float
  off x = sub binary32 x m

  abbrev quot : Float → Float
  quot x = div binary32 (sub binary32 x m) c

  abbrev at : Float → ℕ
  at x = bucket (sub binary32 x m) c n

  size : ι (size_of c) ≈ val c
  size = size_is c C.good (cell_pos c C)

  quot_step : (x : Float) → Coord x → Step (quot x) (size_of c) 23 (ι U ⊠ val (off x))
  quot_step x X =
      let d = diff x m X M in
      div_step (off x) c 23 d.good C.good (cell_pos c C) (lit< tt) (ratio (val (off x)) (size_of c) size d.size)
    where
      wider : (v l n : Z) → n ≈ l → Within v (ι (2 ^ 13 * U)) → ι U ⊑ 1024 · l → Within v (8388608 · n)
      wider v l n e h i = unfold ι ⊖ ◌·◌ in omega arith

      more : (a : Z) (n : ℕ) → Within a (ι U ⊠ (8388608 · ι n)) → Within a (ι (n * (2 ^ 23 * U)))
      more a n h = unfold ι ⊖ ◌⊠◌ ◌·◌ in omega arith

      ratio : (v : Z) (n : ℕ) → ι n ≈ val c → Within v (ι (2 ^ 13 * U)) → Within (ι U ⊠ v) (ι (n * (2 ^ 23 * U)))
      ratio v n e h = more (ι U ⊠ v) n (within_scale U (wider v (val c) (ι n) e h C.low))

  quot_good : (x : Float) → Coord x → F32 (quot x)
  quot_good x X = (quot_step x X).good

  -- 2^24 |c q - U (x - m)| ≤ 8193 U²
  quot_near : (x : Float) → Coord x → Within (16777216 · (val c ⊠ val (quot x) ⊟ ι U ⊠ val (off x))) (ι (8193 * U * U))
  quot_near x X =
      let d = diff x m X M in
      sum (val c ⊠ val (quot x)) (ι (size_of c) ⊠ val (quot x)) (ι U ⊠ val (off x)) (abs (ι U ⊠ val (off x))) (val c) (size_of c)
      (⊠_cong (≈_sym size) (≈_refl (val (quot x)))) size (quot_step x X).near (abs_least (bound (val (off x)) d.size))
      C.high UU_large
    where
      bound : (v : Z) → Within v (ι (2 ^ 13 * U)) → Within (ι U ⊠ v) (ι (8192 * U * U))
      bound v h = go (ι U ⊠ v) (within_scale U h)
        where
          go : (a : Z) → Within a (ι U ⊠ ι (2 ^ 13 * U)) → Within a (ι (8192 * U * U))
          go a h = unfold ι ⊖ ◌⊠◌ in omega arith

      sum : (x y z a l : Z) (n : ℕ) → x ≈ y → ι n ≈ l → Within (16777216 · (y ⊟ z)) (a ⊞ ι (8388608 * n)) → a ⊑ ι (8192 * U * U)
          → l ⊑ ι (2 ^ 14 * U)
          → 1152921504606846976 * U ≤ U * U → Within (16777216 · (x ⊟ z)) (ι (8193 * U * U))
      sum x y z a l n e f h i j k = unfold ι ⊖ ◌⊞◌ ◌⊟◌ ◌·◌ in omega arith

  -- column i or more: x is at least i cells from m
  bucket_reached : (x : Float) (i : ℕ) → Coord x → 1 ≤ i → i ≤ at x → 1000 · (ι i ⊠ val c) ⊑ 1000 · (val x ⊟ val m) ⊞ ι U
  bucket_reached x i X l h =
      let d = diff x m X M in
      let q = val (quot x) in
      let t : ι (i * U) ⊑ q = whole_part_low (quot x) i (quot_good x X) l (under x h) in
      last (ι i ⊠ val c) (val (off x)) (val x ⊟ val m) (abs (val x ⊟ val m))
      (cancel_le U_one (scaled (ι U ⊠ (16777216 · (ι i ⊠ val c))) (ι U ⊠ (16777216 · val (off x) ⊞ ι (8193 * U))) (ι (i * U) ⊠ val c)
      (q ⊠ val c)
      (val c ⊠ q) (ι U ⊠ val (off x)) (mul_mono (val c) (pos→nonneg (val c) (cell_pos c C)) t)
      (ring 2 (λ q c. q :* c := c :* q) tt q (val c))
      (quot_near x X) (left i (val c)) (right (val (off x)))))
      d.near (abs_least (diff_size (val x) (val m) X.size M.size))
    where
      under : (x : Float) → i ≤ bucket (sub binary32 x m) c n → i ≤ to_unsigned 64 (div binary32 (sub binary32 x m) c)
      under x h = let e = bucket_is (sub binary32 x m) c n in omega arith

      left : (i : ℕ) (c : Z) → ι U ⊠ (16777216 · (ι i ⊠ c)) ≈ 16777216 · (ι (i * U) ⊠ c)
      left i c = unfold ι ◌⊠◌ ◌·◌ in omega arith

      right : (o : Z) → ι U ⊠ (16777216 · o ⊞ ι (8193 * U)) ≈ 16777216 · (ι U ⊠ o) ⊞ ι (8193 * U * U)
      right o = unfold ι ◌⊠◌ ◌⊞◌ ◌·◌ in omega arith

      scaled : (l r ic qc cq uo : Z) → ic ⊑ qc → qc ≈ cq → Within (16777216 · (cq ⊟ uo)) (ι (8193 * U * U)) → l ≈ 16777216 · ic
          → r ≈ 16777216 · uo ⊞ ι (8193 * U * U) → l ⊑ r
      scaled l r ic qc cq uo h e k f g = unfold ι ⊖ ◌⊞◌ ◌⊟◌ ◌·◌ in omega arith

      last : (ic o e a : Z) → 16777216 · ic ⊑ 16777216 · o ⊞ ι (8193 * U) → Within (16777216 · (o ⊟ e)) a → a ⊑ ι (2 ^ 13 * U)
          → 1000 · ic ⊑ 1000 · e ⊞ ι U
      last ic o e a h k l = unfold ι ⊖ ◌⊞◌ ◌⊟◌ ◌·◌ in omega arith

  -- below the last column: x is at most the next whole number of cells from m
  bucket_passed : (x : Float) → Coord x → at x < n - 1 → 1000 · (val x ⊟ val m) ⊑ 1000 · (ι (at x + 1) ⊠ val c) ⊞ ι U
  bucket_passed x X h =
      let d = diff x m X M in
      let q = val (quot x) in
      let i = to_unsigned 64 (quot x) in
      let e : at x ≡ i = whole x h in
      let t : q ⊞ ι 1 ⊑ ι ((i + 1) * U) = whole_part_high (quot x) (quot_good x X) (small i (at x) e h) in
      subst (λ (j : ℕ). 1000 · (val x ⊟ val m) ⊑ 1000 · (ι (j + 1) ⊠ val c) ⊞ ι U) (sym e)
      (last (ι (i + 1) ⊠ val c) (val (off x)) (val x ⊟ val m) (abs (val x ⊟ val m))
      (cancel_le U_one (scaled (ι U ⊠ (16777216 · val (off x))) (ι U ⊠ (16777216 · (ι (i + 1) ⊠ val c) ⊞ ι (8193 * U)))
      (ι ((i + 1) * U) ⊠ val c)
      (q ⊠ val c) (val c ⊠ q) (ι U ⊠ val (off x)) (mul_mono (val c) (pos→nonneg (val c) (cell_pos c C)) (lt→⊑ q (ι ((i + 1) * U)) t))
      (ring 2 (λ q c. q :* c := c :* q) tt q (val c)) (quot_near x X) (left (val (off x))) (right i (val c))))
      d.near (abs_least (diff_size (val x) (val m) X.size M.size)))
    where
      whole : (x : Float) → bucket (sub binary32 x m) c n < n - 1
          → bucket (sub binary32 x m) c n ≡ to_unsigned 64 (div binary32 (sub binary32 x m) c)
      whole x h = let e = bucket_is (sub binary32 x m) c n in omega arith

      small : (i b : ℕ) → b ≡ i → b < n - 1 → i < 1024
      small i b e h = omega arith

      left : (o : Z) → ι U ⊠ (16777216 · o) ≈ 16777216 · (ι U ⊠ o)
      left o = unfold ι ◌⊠◌ ◌·◌ in omega arith

      right : (i : ℕ) (c : Z) → ι U ⊠ (16777216 · (ι (i + 1) ⊠ c) ⊞ ι (8193 * U)) ≈ 16777216 · (ι ((i + 1) * U) ⊠ c) ⊞ ι (8193 * U * U)
      right i c = unfold ι ◌⊠◌ ◌⊞◌ ◌·◌ in omega arith

      scaled : (l r ic qc cq uo : Z) → qc ⊑ ic → qc ≈ cq → Within (16777216 · (cq ⊟ uo)) (ι (8193 * U * U)) → l ≈ 16777216 · uo
          → r ≈ 16777216 · ic ⊞ ι (8193 * U * U) → l ⊑ r
      scaled l r ic qc cq uo h e k f g = unfold ι ⊖ ◌⊞◌ ◌⊟◌ ◌·◌ in omega arith

      last : (ic o e a : Z) → 16777216 · o ⊑ 16777216 · ic ⊞ ι (8193 * U) → Within (16777216 · (o ⊟ e)) a → a ⊑ ι (2 ^ 13 * U)
          → 1000 · e ⊑ 1000 · ic ⊞ ι U
      last ic o e a h k l = unfold ι ⊖ ◌⊞◌ ◌⊟◌ ◌·◌ in omega arith

  pub bucket_mono : (x y : Float) → Coord x → Coord y → val x ⊑ val y → at x ≤ at y
  bucket_mono x y X Y h =
      let dx = diff x m X M in
      let dy = diff y m Y M in
      let c₁ = cell_pos c C in
      let o : val (off x) ⊑ val (off y) =
      frac_mono (off x) (off y) 1 (val x ⊟ val m) (val y ⊟ val m) (sub_frac x m X.good M.good) (sub_frac y m Y.good M.good)
      dx.good.real dy.good.real (less (val x) (val y) (val m) h) in
      let q : val (quot x) ⊑ val (quot y) =
      frac_mono (quot x) (quot y) (size_of c) (ι U ⊠ val (off x)) (ι U ⊠ val (off y)) (div_frac (off x) c dx.good C.good c₁)
      (div_frac (off y) c dy.good C.good c₁) (quot_good x X).real (quot_good y Y).real
      (scale_mono U (val (off x)) (val (off y)) o) in
      cut (unsigned_mono 64 (quot x) (quot y) (is_true (le (quot x) (quot y)) (le_of (quot x) (quot y) (quot_good x X) (quot_good y Y) q)))
    where
      less : (a b m : Z) → a ⊑ b → a ⊟ m ⊑ b ⊟ m
      less a b m h = unfold ◌⊟◌ in omega arith

      cut : to_unsigned 64 (div binary32 (sub binary32 x m) c) ≤ to_unsigned 64 (div binary32 (sub binary32 y m) c)
          → bucket (sub binary32 x m) c n ≤ bucket (sub binary32 y m) c n
      cut h = let e = bucket_is (sub binary32 x m) c n in let f = bucket_is (sub binary32 y m) c n in omega arith

  -- s + 1 or more columns from p up to x: s whole cells lie between
  pub buckets_apart : (p x : Float) (s : ℕ) → Coord p → Coord x → at p + suc s ≤ at x
      → 1000 · (ι s ⊠ val c) ⊑ 1000 · (val x ⊟ val p) ⊞ ι (2 * U)
  buckets_apart p x s P X h =
      let b = at p in
      sum (val x) (val p) (val m) (ι (b + suc s) ⊠ val c) (ι (b + 1) ⊠ val c) (ι s ⊠ val c) (bucket_reached x (b + suc s) X (one b s) h)
      (bucket_passed p P (less b (at x) (n - 1) h (bucket_top (off x) c n))) (split b s (val c))
    where
      one : (b s : ℕ) → 1 ≤ b + suc s
      one b s = omega arith

      less : (b a m : ℕ) → b + suc s ≤ a → a ≤ m → b < m
      less b a m h i = omega arith

      split : (b s : ℕ) (c : Z) → ι (b + suc s) ⊠ c ≈ ι (b + 1) ⊠ c ⊞ ι s ⊠ c
      split b s c = unfold ι ◌⊠◌ ◌⊞◌ in omega arith

      sum : (x p m bs b s : Z) → 1000 · bs ⊑ 1000 · (x ⊟ m) ⊞ ι U → 1000 · (p ⊟ m) ⊑ 1000 · b ⊞ ι U → bs ≈ b ⊞ s
          → 1000 · s ⊑ 1000 · (x ⊟ p) ⊞ ι (2 * U)
      sum x p m bs b s h i e = unfold ι ◌⊞◌ ◌⊟◌ ◌·◌ in omega arith
