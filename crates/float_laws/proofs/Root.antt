-- `sqrt_of x` is the f32 nearest to the exact root of x (`root_closest`), within half a step (`root_within_half`), and no other value is
-- that near (`root_unique`).
use mathlib.Core.Path.{◌≡◌, refl, sym, ap, ◌∙◌, subst}
use mathlib.Core.Logic.{◌⊎◌, inl, inr}
use mathlib.Core.Bool.{false}
use Prim.Native.Nat.{ℕ, suc, ◌+◌, ◌-◌, ◌*◌, ◌/◌, ◌%◌, ◌^◌, ◌≤◌, ◌<◌, zero-le}
use native.Mathlib.Nat.{le_trans, le_of_eq, lt_of_lt_of_le, lt_of_le_of_lt, lt_of_not-le, not-le_of_lt, le_antisymm, mul_assoc, mul-pos}
use native.Mathlib.Nat.{mul-le-mul, mul-le-mul_left, mul-le-mul_right, mul-lt-mul_of_pos_right, lt_of_mul-lt-mul_right, add-mul}
use native.Mathlib.Nat.{mul-mul-mul_comm}
use native.Mathlib.Omega.{arith}
use lib.Dec.{T, lit<}
use lib.Pow.{pow-add, pow_pos, pow_mono, shl_lt}
use lib.Ieee.{Float, binary32, size, units, fits}
use lib.Ieee.Digits.{size-lt, size-le, size_reaches}
use lib.Ieee.Exact.{units_val}
use lib.Ieee.Positive.{first_pos}
use lib.Ieee.Bits.{of_bits-fits}
use Rattle.exact.specs.Naturals.{le_of_not_lt, lt_or_le, size_gt}
use Rattle.exact.specs.Fits.{Representable, representable, whole_steps}
use Rattle.exact.specs.Patterns.{one_value}
use Rattle.float.specs.Root.{whole, sqrt_of}
use Rattle.float.specs.Steps.{Wide, Nearest, NormalRange, Square}
use Rattle.float.proofs.Squares.{square_le, root_lt, root_le}
use Rattle.float.proofs.Scaling.{regroup}
use Rattle.float.proofs.WholeRoot.{IsWhole, whole_size}
use Rattle.float.proofs.RootRounded.{rounded}
use Rattle.float.proofs.RootPatterns.{root_above, root_pattern}
use Rattle.float_laws.specs.Nearest.{Units}
use Rattle.float_laws.specs.Root.{Closest, WithinHalf}

-- ---- the square of the root of an f32 above zero, in units, as the steps of `sqrt` have it: m * 2 ^ a, and n * 4 ^ k
form : (n : ℕ) → Representable binary32 n → 0 < n → (m : ℕ) × (a : ℕ) × (m * 2 ^ a ≡ n * 2 ^ 149) × NormalRange m a
form n R N = (m * 2 ^ (24 - s), j + 125 + s, same, record { least = least; most = most; from = from s_pos; to = to })
  where
    m : ℕ
    m = R.m

    j : ℕ
    j = R.j

    s : ℕ
    s = size R.m

    s_pos : 0 < size R.m
    s_pos = size_gt R.m 0 (first_pos R.m (2 ^ R.j) (subst (λ (x : ℕ). 0 < x) R.is N))

    s_le : size R.m ≤ 24
    s_le = size-le R.m 24 R.digits

    from : 0 < s → 126 ≤ j + 125 + s
    from h = omega arith

    sum : s ≤ 24 → 24 - s + (j + 125 + s) ≡ j + 149
    sum h = omega arith

    same : m * 2 ^ (24 - s) * 2 ^ (j + 125 + s) ≡ n * 2 ^ 149
    same =
        mul_assoc m (2 ^ (24 - s)) (2 ^ (j + 125 + s))
        ∙ ap (λ (x : ℕ). m * x) (sym (pow-add 2 (24 - s) (j + 125 + s)) ∙ ap (λ (x : ℕ). 2 ^ x) (sum s_le) ∙ pow-add 2 j 149)
        ∙ sym (mul_assoc m (2 ^ j) (2 ^ 149)) ∙ ap (λ (x : ℕ). x * 2 ^ 149) (sym R.is)

    up_to : 0 < s → s ≤ 24 → 23 ≡ s - 1 + (24 - s)
    up_to h k = omega arith

    whole_24 : s ≤ 24 → s + (24 - s) ≡ 24
    whole_24 h = omega arith

    before : 0 < s → s - 1 < s
    before h = omega arith

    least : 8388608 ≤ m * 2 ^ (24 - s)
    least =
        le_trans (le_of_eq (ap (λ (x : ℕ). 2 ^ x) (up_to s_pos s_le) ∙ pow-add 2 (s - 1) (24 - s)))
        (mul-le-mul_right (2 ^ (24 - s)) (size_reaches m (s - 1) (before s_pos)))

    most : m * 2 ^ (24 - s) < 16777216
    most = lt_of_lt_of_le (shl_lt s (24 - s) (size-lt m)) (le_of_eq (ap (λ (x : ℕ). 2 ^ x) (whole_24 s_le)))

    to : j + 125 + s ≤ 402
    to =
        less (lt_of_not-le (λ (g : 403 ≤ j + 125 + s). not-le_of_lt
        (lt_of_le_of_lt (le_of_eq same) (mul-lt-mul_of_pos_right R.below (pow_pos 149))) (mul-le-mul least (pow_mono g))))
      where
        less : j + 125 + s < 403 → j + 125 + s ≤ 402
        less g = omega arith

square : (v m a : ℕ) → m * 2 ^ a ≡ v → NormalRange m a → (n : ℕ) × (k : ℕ) × Square v n k × (k ≤ 189)
square v m a e F = go (lt_or_le (a % 2) 1)
  where
    few : (a - 23) / 2 ≤ 189
    few = let h = F.to in omega arith

    go : (a % 2 < 1) ⊎ (1 ≤ a % 2) → (n : ℕ) × (k : ℕ) × Square v n k × (k ≤ 189)
    go (inl h) =
        let l = F.from in (
          m * 16777216,
          (a - 23) / 2,
          record {
            same = regroup m 16777216 24 ((a - 23) / 2) a refl (omega arith)
                ∙ e;
            wide = let x = F.least in let y = F.most in omega arith;
          },
          few,
        )
    go (inr h) =
        let l = F.from in (
          m * 8388608,
          (a - 23) / 2,
          record {
            same = regroup m 8388608 23 ((a - 23) / 2) a refl (omega arith)
                ∙ e;
            wide = let x = F.least in let y = F.most in omega arith;
          },
          few,
        )

nearest_of_law : (n : ℕ) → Wide n → (r : ℕ) × Nearest n r
nearest_of_law n W = pick (whole (size n) n) (whole_size n)
  where
    pick : (q : ℕ) → IsWhole n q → (r : ℕ) × Nearest n r
    pick q h = go (lt_or_le (q * q + q) n)
      where
        lo : 8388608 ≤ q
        lo = root_le 8388608 q n W.least h.1

        hi : q < 16777216
        hi = root_lt q 16777216 (lt_of_le_of_lt h.0 W.most)

        go : (q * q + q < n) ⊎ (n ≤ q * q + q) → (r : ℕ) × Nearest n r
        go (inl g) = (suc q, let l = lo in let u = hi in let x = h.1 in omega arith)
        go (inr g) = (q, let l = lo in let u = hi in let x = h.0 in omega arith)

-- ---- past neither half step
module _ (n s k r : ℕ) (S : Square n s k) (R : Nearest s r) where
  p_pos : 0 < 2 ^ k * 2 ^ k
  p_pos = mul-pos (pow_pos k) (pow_pos k)

  four : 4 * s * (2 ^ k * 2 ^ k) ≡ 4 * n
  four = let e = S.same in omega arith

  lower : (2 * r - 1) * 2 ^ k * ((2 * r - 1) * 2 ^ k) < 4 * n
  lower =
      lt_of_le_of_lt (le_of_eq (mul-mul-mul_comm (2 * r - 1) (2 ^ k) (2 * r - 1) (2 ^ k)))
      (lt_of_lt_of_le (mul-lt-mul_of_pos_right (smaller (2 * r - 1) odd) p_pos) (le_of_eq four))
    where
      odd : 2 * r - 1 + 1 ≡ 2 * r
      odd = let l = R.least in omega arith

      smaller : (t : ℕ) → t + 1 ≡ 2 * r → t * t < 4 * s
      smaller t e = let d : (t + 1) * (t + 1) ≡ 2 * r * (2 * r) = ap (λ (x : ℕ). x * x) e in let h = R.low in omega arith

  upper : 4 * n < (2 * r + 1) * 2 ^ k * ((2 * r + 1) * 2 ^ k)
  upper =
      lt_of_le_of_lt (le_of_eq (sym four))
      (lt_of_lt_of_le (mul-lt-mul_of_pos_right (let h = R.high in omega arith) p_pos)
      (le_of_eq (sym (mul-mul-mul_comm (2 * r + 1) (2 ^ k) (2 * r + 1) (2 ^ k)))))

  at_edge : r ≡ 8388608 → r * 2 ^ k * (r * 2 ^ k) ≤ n
  at_edge e =
      le_trans (le_of_eq (mul-mul-mul_comm r (2 ^ k) r (2 ^ k)))
      (le_trans (mul-le-mul_right (2 ^ k * 2 ^ k) (subst (λ (x : ℕ). x * x ≤ s) (sym e) S.wide.least)) (le_of_eq S.same))

pub root_within_half : (x : Float) (n : ℕ) → T (fits binary32 x) → Units binary32 x n → 0 < n
    → (r : ℕ) × (k : ℕ) × WithinHalf (n * 2 ^ 149) (sqrt_of x) r k
root_within_half x n t h N =
    let F = form n (representable binary32 x false n t h) N in
    let Q = square (n * 2 ^ 149) F.0 F.1 F.2 F.3 in
    let s = Q.0 in
    let k = Q.1 in
    let S = Q.2 in
    let P = nearest_of_law s S.wide in
    let r = P.0 in
    let R = P.1 in
    let e : sqrt_of x ≡ units binary32 false r k = root_above x n h N ∙ rounded (n * 2 ^ 149) s k S.same S.wide r R in (
      r,
      k,
      record {
        is = subst (λ (v : Float). Units binary32 v (r * 2 ^ k)) (sym e)
            (units_val binary32 false r k (lt_of_le_of_lt (mul-le-mul R.most (pow_mono Q.3)) (lit< tt)));
        held = subst (λ (v : Float). T (fits binary32 v)) (root_pattern k r R.least R.most Q.3 ∙ sym e)
            (of_bits-fits binary32 (k * 8388608 + r));
        least = R.least;
        most = R.most;
        past_lower = lower (n * 2 ^ 149) s k r S R;
        below_upper = upper (n * 2 ^ 149) s k r S R;
        not_below = at_edge (n * 2 ^ 149) s k r S R;
      },
    )

-- ---- so no other f32 is as near
square_lt : (a b : ℕ) → a < b → a * a < b * b
square_lt a b h = lt_of_le_of_lt (mul-le-mul_left a (omega arith)) (mul-lt-mul_of_pos_right h (lt_of_le_of_lt zero-le h))

module _ (n : ℕ) (x : Float) (r k : ℕ) (W : WithinHalf n x r k) (v : Float) (a : ℕ) (t : T (fits binary32 v)) (h : Units binary32 v a) where
  steps : 8388608 * 2 ^ k ≤ a → (c : ℕ) × (a ≡ c * 2 ^ k)
  steps l = whole_steps binary32 a k (representable binary32 v false a t h) l

  -- a value below r steps is at most r - 1 steps, where r has a step below it
  previous : 8388608 < r → a < r * 2 ^ k → a ≤ (r - 1) * 2 ^ k
  previous l g = go (lt_or_le a (8388608 * 2 ^ k))
    where
      less : (c : ℕ) → c < r → c ≤ r - 1
      less c l = omega arith

      go : (a < 8388608 * 2 ^ k) ⊎ (8388608 * 2 ^ k ≤ a) → a ≤ (r - 1) * 2 ^ k
      go (inl y) = le_trans (let z : a ≤ 8388608 * 2 ^ k = omega arith in z) (mul-le-mul_right (2 ^ k) (less 8388608 l))
      go (inr y) =
          let c = steps y in
          le_trans (le_of_eq c.1)
          (mul-le-mul_right (2 ^ k) (less c.0 (lt_of_mul-lt-mul_right (2 ^ k) (lt_of_le_of_lt (le_of_eq (sym c.1)) g))))

  following : r * 2 ^ k < a → (r + 1) * 2 ^ k ≤ a
  following g =
      let c = steps (le_trans (mul-le-mul_right (2 ^ k) W.least) (omega arith)) in
      let l = lt_of_mul-lt-mul_right (2 ^ k) (lt_of_lt_of_le g (le_of_eq c.1)) in
      le_trans (mul-le-mul_right (2 ^ k) (next c.0 l)) (le_of_eq (sym c.1))
    where
      next : (c : ℕ) → r < c → r + 1 ≤ c
      next c l = omega arith

  nearer_than_lower : a < r * 2 ^ k → (a + r * 2 ^ k) * (a + r * 2 ^ k) < 4 * n
  nearer_than_lower g = go (lt_or_le 8388608 r)
    where
      sum : (p : ℕ) → 8388608 < r → a ≤ (r - 1) * p → a + r * p ≤ (2 * r - 1) * p
      sum p l e =
          let b : r - 1 + r ≡ 2 * r - 1 = omega arith in
          let d : (r - 1 + r) * p ≡ (r - 1) * p + r * p = add-mul (r - 1) r p in
          let f : (r - 1 + r) * p ≡ (2 * r - 1) * p = ap (λ (z : ℕ). z * p) b in
          omega arith

      twice : (g : ℕ) → a < g → a + g < 2 * g
      twice g l = omega arith

      four' : (g : ℕ) → g * g ≤ n → 2 * g * (2 * g) ≤ 4 * n
      four' g l = omega arith

      go : (8388608 < r) ⊎ (r ≤ 8388608) → (a + r * 2 ^ k) * (a + r * 2 ^ k) < 4 * n
      go (inl l) = lt_of_le_of_lt (square_le (a + r * 2 ^ k) ((2 * r - 1) * 2 ^ k) (sum (2 ^ k) l (previous l g))) W.past_lower
      go (inr l) =
          lt_of_lt_of_le (square_lt (a + r * 2 ^ k) (2 * (r * 2 ^ k)) (twice (r * 2 ^ k) g))
          (four' (r * 2 ^ k) (W.not_below (le_antisymm l W.least)))

  nearer_than_higher : r * 2 ^ k < a → 4 * n < (a + r * 2 ^ k) * (a + r * 2 ^ k)
  nearer_than_higher g = lt_of_lt_of_le W.below_upper (square_le ((2 * r + 1) * 2 ^ k) (a + r * 2 ^ k) (sum (2 ^ k) (following g)))
    where
      sum : (p : ℕ) → (r + 1) * p ≤ a → (2 * r + 1) * p ≤ a + r * p
      sum p e = omega arith

pub root_closest : (x : Float) (n : ℕ) → T (fits binary32 x) → Units binary32 x n → 0 < n
    → (g : ℕ) × Units binary32 (sqrt_of x) g × Closest (n * 2 ^ 149) g
root_closest x n t h N =
    let C = root_within_half x n t h N in
    let r = C.0 in
    let k = C.1 in
    let W = C.2 in (
      r * 2 ^ k,
      W.is,
      record {
        from_lower = λ v a u i l. nearer_than_lower (n * 2 ^ 149) (sqrt_of x) r k W v a u i l;
        from_higher = λ v a u i l. nearer_than_higher (n * 2 ^ 149) (sqrt_of x) r k W v a u i l;
      },
    )

pub root_unique : (x r : Float) (n g : ℕ) → T (fits binary32 x) → T (fits binary32 r) → Units binary32 x n → 0 < n → Units binary32 r g
    → Closest (n * 2 ^ 149) g → r ≡ sqrt_of x
root_unique x r n g t u h N i C =
    let D = root_within_half x n t h N in
    let f = D.0 * 2 ^ D.1 in
    let W = D.2 in
    let no_less : ¬ (g < f) =
    λ (l : g < f). clash g f (4 * (n * 2 ^ 149)) (nearer_than_lower (n * 2 ^ 149) (sqrt_of x) D.0 D.1 W r g u i l)
    (C.from_higher (sqrt_of x) f W.held W.is l) in
    let no_more : ¬ (f < g) =
    λ (l : f < g). clash f g (4 * (n * 2 ^ 149)) (C.from_lower (sqrt_of x) f W.held W.is l)
    (nearer_than_higher (n * 2 ^ 149) (sqrt_of x) D.0 D.1 W r g u i l) in
    let same : g ≡ f = le_antisymm (le_of_not_lt no_more) (le_of_not_lt no_less) in
    one_value binary32 r (sqrt_of x) false f (2 ^ 149) (pow_pos 149) u W.held (subst (λ (z : ℕ). Units binary32 r z) same i) W.is
  where
    clash : (a b m : ℕ) → (a + b) * (a + b) < m → m < (b + a) * (b + a) → ⊥
    clash a b m p q = omega arith
