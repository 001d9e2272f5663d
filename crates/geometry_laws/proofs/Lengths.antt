-- The distance of two points in range is an f32 from 0 to 2 ^ 14: differences are at most 2 ^ 13, their squares 2 ^ 26, the sum of three 2 ^ 28.
use mathlib.Core.Path.{◌≡◌, refl, sym, ap, ◌∙◌, subst}
use mathlib.Core.Logic.{⊎_elim}
use mathlib.Core.Bool.{Bool, true, false, true≢false}
use Prim.Native.Nat.{ℕ, zero, suc, ◌+◌, ◌*◌, ◌^◌, ◌≤◌, ◌<◌, zero-le}
use native.Mathlib.Nat.{le_trans, le_of_eq, lt_of_le_of_lt, mul-le-mul, mul-le-mul_right, mul-lt-mul_of_pos_right}
use native.Mathlib.Omega.{arith}
use lib.Dec.{T, lt→ltb, lit<}
use lib.IntN.{pos}
use lib.Ieee.{Float, nan, inf, fin, binary32, sub, mul, le, fits, round, units, odd, size, unlike}
use lib.Ieee.Exact.{HasValue}
use lib.Ieee.Scale.{finite, grid}
use lib.Ieee.Positive.{value_pos}
use lib.Ieee.Fits.{mul-fits}
use Rattle.exact.specs.Naturals.{lt_or_le}
use Rattle.exact.specs.Integers.{Z, ◌≈◌, ◌⊑◌, ⊖, ι, ◌⊟◌, ◌⊠◌, sgn}
use Rattle.exact.specs.Inequalities.{Within, within_mul, within_up}
use Rattle.exact.specs.Fractions.{mul_values}
use Rattle.exact.specs.Values.{U, U_pos, mag, val, size_of, F32, units_of_law, val_of, round_value, round_under}
use Rattle.exact.proofs.Order.{le_yes}
use Rattle.exact.proofs.Steps.{mul_step, sub_step, within_both}
use Rattle.exact.proofs.Sums.{sum_bounded}
use Rattle.exact.specs.Sums.{UpTo, up_to, Piece}
use Rattle.float.specs.Root.{sqrt_of, sqrt_in}
use Rattle.float_laws.specs.Nearest.{Units}
use Rattle.float_laws.specs.Root.{Closest}
use Rattle.float_laws.proofs.Root.{root_within_half, root_closest}
use Rattle.coords.specs.declared.Point.{Point}
use Rattle.coords.specs.Coords.{sub_of, length_squared, length_of}
use Rattle.geometry_laws.specs.Range.{InRange, PointIn, Sized}

-- ---- coordinates
abbrev top : Float
top = fin false 1 (pos 12)

abbrev bottom : Float
bottom = fin true 1 (pos 12)

end_ok : (s : Bool) → F32 (fin s 1 (pos 12))
unfolding fits
end_ok s = record { fit = tt; real = tt }

top_value : val top ≈ ι (2 ^ 12 * U)
unfolding val sgn mag ι
top_value = omega arith

bottom_value : val bottom ≈ ⊖ (ι (2 ^ 12 * U))
unfolding val sgn mag ι ⊖
bottom_value = omega arith

between_ends : (x : Float) → T (le x top) → T (le bottom x) → T (finite x)
unfolding le
between_ends nan h k = h
between_ends (inf true) h k = k
between_ends (inf false) h k = h
between_ends (fin s m e) h k = tt

pub in_range_ok : (x : Float) → InRange x → F32 x
in_range_ok x r = record { fit = r.held; real = between_ends x r.high r.low }

pub in_range_size : (x : Float) → InRange x → Within (val x) (ι (2 ^ 12 * U))
in_range_size x r =
    let p = in_range_ok x r in
    within_both (val x) (val top) (val bottom) (2 ^ 12 * U) (le_yes x top p (end_ok false) r.high)
    (le_yes bottom x (end_ok true) p r.low) top_value bottom_value

-- ---- the difference of two
apart : (x y : Z) (u : ℕ) → Within x (ι (2 ^ 12 * u)) → Within y (ι (2 ^ 12 * u)) → Within (x ⊟ y) (ι (2 ^ 13 * u))
unfolding ι ⊖ ◌⊟◌
apart x y u h k = omega arith

pub difference : (x y : Float) → InRange x → InRange y → Sized (2 ^ 13 * U) (sub binary32 x y)
difference x y p q =
    let s = sub_step x y 13 (in_range_ok x p) (in_range_ok y q) (lit< tt)
    (apart (val x) (val y) U (in_range_size x p) (in_range_size y q)) in
    record { good = s.good; size = s.size }

-- ---- its square, which has no minus
square_bound : (u : ℕ) → ι (2 ^ 13 * u) ⊠ ι (2 ^ 13 * u) ⊑ ι (u * (2 ^ 26 * u))
unfolding ι ◌⊠◌
square_bound u = omega arith

plain : (w n : ℕ) → Within (sgn false w) (ι n) → w ≤ n
unfolding sgn ι
plain w n h = omega (arith, h.hi)

same_sign : (s : Bool) → unlike s s ≡ false
same_sign true = refl
same_sign false = refl

pub square : (d : Float) → Sized (2 ^ 13 * U) d → UpTo (2 ^ 26 * U) (mul binary32 d d)
square d p =
    let u = units_of_law d p.good in
    let s = mul_step d d 26 p.good p.good (lit< tt) (within_up (within_mul p.size p.size) (square_bound U)) in
    let is : mul binary32 d d ≡ round binary32 false (u.w * u.w) (U * U)
    = mul_values u.s u.s u.w U u.w U U_pos U_pos binary32 d d u.value u.value ∙ ap
    (λ (z : Bool). round binary32 z (u.w * u.w) (U * U)) (same_sign u.s) in
    let g = grid binary32 (u.w * u.w) (U * U) in
    let v : HasValue (mul binary32 d d) false g U
    = subst (λ (z : Float). HasValue z false g U) (sym is)
    (round_value false (u.w * u.w) (U * U)
    (round_under false (u.w * u.w) (U * U) (subst (λ (z : Float). T (finite z)) is s.good.real))) in
    up_to (2 ^ 26 * U) g (mul binary32 d d) (mul-fits binary32 d d) v
    (plain g (2 ^ 26 * U) (subst (λ (z : Z). Within z (ι (2 ^ 26 * U)))
    (val_of (mul binary32 d d) false g (mul-fits binary32 d d) v) s.size))

-- ---- the sum of three squares
two_bounds : round binary32 false (2 ^ 26 * U + 2 ^ 26 * U) U ≡ fin false 1 (pos 27)
unfolding U round size units odd lib.Count.count_trailing_zeros
two_bounds = refl

three_bounds : round binary32 false (2 ^ 27 * U + 2 ^ 26 * U) U ≡ fin false 3 (pos 26)
unfolding U round size units odd lib.Count.count_trailing_zeros
three_bounds = refl

two_size : size_of (fin false 1 (pos 27)) ≤ 2 ^ 27 * U
unfolding size_of mag
two_size = omega arith

three_size : size_of (fin false 3 (pos 26)) ≤ 2 ^ 28 * U
unfolding size_of mag
three_size = omega arith

no_overflow : (n : ℕ) → n ≤ 2 ^ 28 * U → n < 2 ^ 127 * U
no_overflow n h = lt_of_le_of_lt h (mul-lt-mul_of_pos_right (lit< tt) U_pos)

pub squared_length : (p q : Point) → PointIn p → PointIn q → UpTo (2 ^ 28 * U) (length_squared (sub_of p q))
squared_length p q P Q =
    let X = square _ (difference p.x q.x P.x Q.x) in
    let Y = square _ (difference p.y q.y P.y Q.y) in
    let Z = square _ (difference p.z q.z P.z Q.z) in
    let XY = sum_bounded (2 ^ 26 * U) (2 ^ 26 * U) _ _ X Y (no_overflow (2 ^ 26 * U + 2 ^ 26 * U) (omega arith)) (2 ^ 27 * U)
    (le_trans (le_of_eq (ap size_of two_bounds)) two_size) in
    sum_bounded (2 ^ 27 * U) (2 ^ 26 * U) _ _ XY Z (no_overflow (2 ^ 27 * U + 2 ^ 26 * U) (omega arith)) (2 ^ 28 * U)
    (le_trans (le_of_eq (ap size_of three_bounds)) three_size)

-- ---- its root
fourteen : Float
fourteen = fin false 1 (pos 14)

fourteen_fits : T (fits binary32 fourteen)
unfolding fits fourteen
fourteen_fits = tt

fourteen_units : Units binary32 fourteen (2 ^ 14 * 2 ^ 149)
unfolding fourteen
fourteen_units = (refl, refl)

-- where g is above 2 ^ 14, √n is past the middle of the two, so n is above 2 ^ 28
too_long : (g n u : ℕ) → n ≤ 2 ^ 28 * u → 2 ^ 14 * u < g → (2 ^ 14 * u + g) * (2 ^ 14 * u + g) < 4 * (n * u) → ⊥
too_long g n u h l k =
    let below : 2 ^ 15 * u * (2 ^ 15 * u) ≤ (2 ^ 14 * u + g) * (2 ^ 14 * u + g) = mul-le-mul (omega arith) (omega arith) in
    let above = mul-le-mul_right u h in
    omega arith

in_units : (x : Float) (n : ℕ) → HasValue x false n U → Units binary32 x n
unfolding U
in_units x n h = h

of_units : (x : Float) (n : ℕ) → Units binary32 x n → HasValue x false n U
unfolding U
of_units x n h = h

closest_bound : (n g : ℕ) → n ≤ 2 ^ 28 * U → Closest (n * 2 ^ 149) g → g ≤ 2 ^ 14 * U
unfolding U
closest_bound n g h c =
    ⊎_elim (λ l. absurd (too_long g n (2 ^ 149) h l (c.from_lower fourteen (2 ^ 14 * 2 ^ 149) fourteen_fits fourteen_units l)))
    (λ l. l) (lt_or_le (2 ^ 14 * 2 ^ 149) g)

pub root : (x : Float) → UpTo (2 ^ 28 * U) x → Piece (sqrt_of x)
unfolding sqrt_of sqrt_in
root nan p = absurd p.value
root (inf s) p = absurd p.value
root (fin true m e) p = absurd (true≢false p.value.0)
root (fin false zero e) p = up_to (2 ^ 14 * U) 0 (fin false zero e) p.fit (refl, omega arith) zero-le
root (fin false (suc m) e) p =
    let x = fin false (suc m) e in
    let n = size_of x in
    let some = value_pos x n U (lt→ltb 0 (suc m) (omega arith)) U_pos p.value in
    let c = root_closest x n p.fit (in_units x n p.value) some in
    let w = root_within_half x n p.fit (in_units x n p.value) some in
    up_to (2 ^ 14 * U) c.0 (sqrt_of x) w.2.held (of_units (sqrt_of x) c.0 c.1) (closest_bound n c.0 p.most c.2)

pub distance : (p q : Point) → PointIn p → PointIn q → Piece (length_of (sub_of p q))
unfolding length_of
distance p q P Q = root (length_squared (sub_of p q)) (squared_length p q P Q)
