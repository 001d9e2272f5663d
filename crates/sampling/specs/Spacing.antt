-- A span is at most 2 m for each of its steps, exactly: |span| is at most 2 * steps. So the fractions k / steps of it lie at most 2 m of s apart.
-- Document 01, module 6: "Samples of one lane stand at most 2 m of s apart up to f32 rounding". `sample_at` works such a fraction out in f32; how
-- far that rounds is what the sentence leaves open, and no bound of it stands here.
use Rattle.std.specs.Prelude.{Bool, not, ◌⊎◌, refl, ◌≡◌, min, suc, zero, ℕ, ◌*◌, ◌+◌, ◌-◌, ◌^◌, ◌<◌, ◌≤◌, T, ℤ, Float}
use Rattle.std.proofs.Math.Bool.{false}
use Rattle.std.proofs.Common.{inl, inr, ap, subst, sym, ◌∙◌, arith, lit≤}
use Rattle.std.proofs.Common.{le_of_lt, le_of_mul-le-mul_right, le_trans, mul-le-mul_right, mul-one, mul-pos, pow_pos}
use Rattle.std.proofs.Math.Nat.{pow-succ'}
use Rattle.std.specs.Float.Ieee.{binary32, div, down, fits, is_nan, le, low, of_bits, round, to_unsigned, up}
use Rattle.std.specs.Float.{fin, inf, nan}
use Rattle.std.specs.Float.Ieee.Bits.{is_true}
use Rattle.std.specs.Float.Ieee.Exact.{HasValue, round_exact}
use Rattle.std.specs.Float.Ieee.Fits.{div-fits, down_pos}
use Rattle.std.specs.Float.Ieee.Scale.{finite, overflow}
use Rattle.coords.specs.Coords.{one⁺}
use Rattle.exact.specs.Fits.{Representable, count, count_value, representable}
use Rattle.exact.specs.Fractions.{div_values}
use Rattle.exact.specs.Naturals.{lt_or_le}
use Rattle.exact.specs.Values.{F32}
use Rattle.exact.proofs.Values.{round_finite}
use Rattle.float.specs.Choose.{max_of}
use Rattle.float.specs.Sign.{abs_of, is_negative}
use Rattle.float.specs.Whole.{ceil_of, den, num}
use Rattle.float.proofs.Signs.{abs_fits}
use Rattle.float.proofs.Wholes.{den_pos}
use Rattle.float_laws.proofs.Casts.{unsigned_mono, unsigned_value}
use Rattle.float_laws.proofs.Choose.{max_greatest}
use Rattle.float_laws.proofs.Narrow.{round_sign}
use Rattle.float_laws.proofs.Whole.{ceil_is}
use Rattle.float_laws.specs.Whole.{Ceil}
use Rattle.sampling.specs.Sampling.{route_step, steps_of}

-- ---- whole numbers

-- a / d is halved
halved : (a d m j p : ℕ) → a * p ≡ m * 2 ^ suc j * d → a * 1 * p ≡ m * 2 ^ j * (2 * d)
halved a d m j p e = go (2 ^ suc j) (2 ^ j) (pow-succ' 2 j) e
  where
    go : (x y : ℕ) → x ≡ 2 * y → a * p ≡ m * x * d → a * 1 * p ≡ m * y * (2 * d)
    go x y g e = omega (arith, ap (λ (z : ℕ). m * z * d) g)

fewer : (m j w o : ℕ) → w ≡ m * 2 ^ suc j → w < o → m * 2 ^ j < o
fewer m j w o e h = go (2 ^ suc j) (2 ^ j) (pow-succ' 2 j) e
  where
    go : (x y : ℕ) → x ≡ 2 * y → w ≡ m * x → m * y < o
    go x y g e = omega (arith, ap (λ (z : ℕ). m * z) g)

-- above 2 it is more than m units, of which p are 1
not_few : (a d m p : ℕ) → 0 < p → m ≤ p → a * p ≡ m * d → 2 * d < a → ⊥
not_few a d m p P h e l = omega (arith, mul-le-mul_right d h, mul-le-mul_right p l)

-- below 2 ^ 127
no_overflow : (a d p q : ℕ) → 0 < d → 0 < q → p ≤ q → a ≤ p * d → a * 1 < q * (2 * d)
no_overflow a d p q D Q h l = omega (arith, mul-le-mul_right d h, mul-pos Q D)

-- a / (2 d) = x / y is at most n
no_more : (a d x y n : ℕ) → 0 < y → x * (2 * d) ≡ a * 1 * y → x ≤ n * y → a ≤ n * (2 * d)
no_more a d x y n Y e h = le_of_mul-le-mul_right {k = y} (omega (arith, mul-le-mul_right (2 * d) h)) Y

one_step : (a d k : ℕ) → 1 ≤ k → a ≤ 2 * d → a ≤ 2 * k * d
one_step a d k h l = omega (arith, mul-le-mul_right d h)

-- n, or the cast's largest number, is at most k
enough : (a d n k most : ℕ) → 0 < most → min n most ≤ k → a ≤ n * (2 * d) → a ≤ (most + 1) * d → a ≤ 2 * k * d
enough a d n k most M h l b = go (lt_or_le most n)
  where
    go : (most < n) ⊎ (n ≤ most) → a ≤ 2 * k * d
    go (inl g) = let o : most ≤ k = omega arith in omega (arith, mul-le-mul_right d o, mul-le-mul_right d M)
    go (inr g) = let o : n ≤ k = omega arith in omega (arith, mul-le-mul_right d o)

-- ---- the steps

whole_number : (x : Float) (n : ℕ) → HasValue x false n 1 → T (not (is_nan x))
unfolding is_nan
whole_number nan n h = absurd h
whole_number (inf s) n h = absurd h
whole_number (fin s m e) n h = tt

as_fraction : (x : Float) (a c : ℕ) → HasValue x false a c → num x * c ≡ a * den x
as_fraction nan a c h = absurd h
as_fraction (inf s) a c h = absurd h
as_fraction (fin s m e) a c h = h.1

step_value : HasValue route_step false 2 1
unfolding of_bits
step_value = (refl, refl)

one_value : HasValue one⁺ false 1 1
unfolding of_bits
one_value = (refl, refl)

-- at least one, and at least n
module _ (c : Float) (n : ℕ) (v : HasValue c false n 1) where
  at_least_one : 1 ≤ to_unsigned 64 (max_of c one⁺)
  at_least_one =
      let G = max_greatest c one⁺ (whole_number c n v) (whole_number one⁺ 1 one_value) in
      let l = unsigned_mono 64 one⁺ (max_of c one⁺) (is_true (le one⁺ (max_of c one⁺)) G.second) in
      let e : to_unsigned 64 one⁺ ≡ 1 = unsigned_value 64 one⁺ 1 one_value in
      omega arith

  at_least : min n (2 ^ 64 - 1) ≤ to_unsigned 64 (max_of c one⁺)
  at_least =
      let G = max_greatest c one⁺ (whole_number c n v) (whole_number one⁺ 1 one_value) in
      let l = unsigned_mono 64 c (max_of c one⁺) (is_true (le c (max_of c one⁺)) G.first) in
      subst (λ (k : ℕ). k ≤ to_unsigned 64 (max_of c one⁺)) (unsigned_value 64 c n v) l

module _ (m : ℕ) (e : ℤ) (t : T (fits binary32 (fin false m e))) (l : m * up e ≤ 2 ^ 64 * down e) where
  half : Float
  half = div binary32 (fin false m e) route_step

  half_is : half ≡ round binary32 false (m * up e * 1) (2 * down e)
  unfolding half
  half_is =
      div_values false false (m * up e) (down e) 2 1 (down_pos e) (omega arith) binary32 (fin false m e) route_step (refl, refl) step_value
      (omega arith)

  half_finite : T (finite half)
  half_finite =
      subst (λ (x : Float). T (finite x)) (sym half_is)
      (round_finite false (m * up e * 1) (2 * down e) (mul-pos (omega arith) (down_pos e))
      (no_overflow (m * up e) (down e) (2 ^ 64) (2 ^ 127) (down_pos e) (pow_pos 127) (lit≤ tt) l))

  half_plus : is_negative half ≡ false
  half_plus = ap is_negative half_is ∙ (round_sign binary32 false (m * up e * 1) (2 * down e)).0

  -- above 2 m it is halved exactly
  half_exact : 2 * down e < m * up e → HasValue half false (m * up e * 1) (2 * down e)
  half_exact g = go R.j R.is
    where
      R : Representable binary32 (count binary32 m e)
      R = representable binary32 (fin false m e) false (count binary32 m e) t (count_value binary32 false m e t)

      units : (k : ℕ) → count binary32 m e ≡ k → m * up e * 2 ^ low binary32 ≡ k * down e
      units k f = (count_value binary32 false m e t).1 ∙ ap (λ (x : ℕ). x * down e) f

      go : (j : ℕ) → count binary32 m e ≡ R.m * 2 ^ j → HasValue half false (m * up e * 1) (2 * down e)
      go zero f =
          absurd (not_few (m * up e) (down e) R.m (2 ^ low binary32) (pow_pos (low binary32))
          (le_trans (le_of_lt R.digits) (lit≤ tt)) (units R.m (f ∙ mul-one R.m)) g)
      go (suc j) f =
          subst (λ (x : Float). HasValue x false (m * up e * 1) (2 * down e)) (sym half_is)
          (round_exact binary32 false (m * up e * 1) (2 * down e) R.m j (mul-pos (omega arith) (down_pos e)) R.digits
          (fewer R.m j (count binary32 m e) (overflow binary32) f R.below)
          (halved (m * up e) (down e) R.m j (2 ^ low binary32) (units (R.m * 2 ^ suc j) f)))

  whole : Ceil half (ceil_of half)
  unfolding half
  whole = ceil_is half half_finite (div-fits binary32 (fin false m e) route_step)

  whole_value : HasValue (ceil_of half) false whole.n 1
  whole_value = subst (λ (s : Bool). HasValue (ceil_of half) s whole.n 1) half_plus whole.is

  two_metres : m * up e ≤ 2 * to_unsigned 64 (max_of (ceil_of half) one⁺) * down e
  two_metres = go (lt_or_le (2 * down e) (m * up e))
    where
      steps : ℕ
      steps = to_unsigned 64 (max_of (ceil_of half) one⁺)

      go : (2 * down e < m * up e) ⊎ (m * up e ≤ 2 * down e) → m * up e ≤ 2 * steps * down e
      go (inl g) =
          enough (m * up e) (down e) whole.n steps (2 ^ 64 - 1) (lit≤ tt) (at_least (ceil_of half) whole.n whole_value)
          (no_more (m * up e) (down e) (num half) (den half) whole.n (den_pos half)
          (as_fraction half (m * up e * 1) (2 * down e) (half_exact g)) (whole.plus half_plus).low) l
      go (inr g) = one_step (m * up e) (down e) steps (at_least_one (ceil_of half) whole.n whole_value) g

-- for every finite span up to 2 ^ 64 m, past which the count of its steps ends; |span| is num span / den span
pub spaced : (span : Float) → F32 span → num span ≤ 2 ^ 64 * den span → num span ≤ 2 * steps_of span * den span
unfolding steps_of abs_of half
spaced nan F l = absurd F.real
spaced (inf s) F l = absurd F.real
spaced (fin s m e) F l = two_metres m e (abs_fits binary32 (fin s m e) F.fit) l
