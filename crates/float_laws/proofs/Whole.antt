-- `floor_of`, `ceil_of` and `round_of` of a finite value are what specs/Whole says, and nothing else is. So a whole number is returned as it
-- is, a zero with its sign.
use mathlib.Core.Path.{◌≡◌, refl, sym, ap, ◌∙◌, subst}
use mathlib.Core.Bool.{Bool, true, false, true≢false, false≢true}
use Prim.Native.Nat.{ℕ, suc, ◌+◌, ◌-◌, ◌*◌, ◌/◌, ◌^◌, ◌≤◌, ◌<◌}
use native.Mathlib.Nat.{le_trans, le_of_eq, le_antisymm, lt_of_lt_of_le, lt_of_le_of_lt, mul-one, mul-pos, mul-le-mul_left}
use native.Mathlib.Nat.{lt_of_mul-lt-mul_right, div-mul-le_self, div-lt_iff_lt-mul, pow-succ'}
use native.Mathlib.Omega.{arith}
use lib.IntN.{ℤ, pos, negsuc}
use lib.Dec.{T, lit<}
use lib.Pow.{pow_pos}
use lib.Ieee.{Float, nan, inf, fin, Format, binary32, binary64, hid, up, down, neg, of_int, fits}
use lib.Ieee.Scale.{finite}
use lib.Ieee.Fits.{down_pos, round-fits, neg-fits}
use lib.Ieee.Exact.{HasValue}
use lib.Ieee.Back.{whole_unique}
use Rattle.float.specs.Sign.{abs_of, is_negative}
use Rattle.float.specs.Whole.{num, den, down_by, up_by, half_by, whole_by, floor_of, ceil_of, round_of}
use Rattle.float.proofs.Signs.{abs_fits}
use Rattle.float.proofs.Quotients.{part_lt, down_one, up_one, half_one}
use Rattle.exact.specs.Patterns.{twice_hid}
use Rattle.float.proofs.Wholes.{den_pos, digits_lt, of_int_own, of_int_value}
use Rattle.float_laws.specs.Whole.{Down, Up, Half, Floor, Ceil, Round}

-- ---- the three quotients
down_is : (a c : ℕ) → 0 < c → Down a c (down_by a c)
down_is a c C = record { low = div-mul-le_self a c; high = part_lt a c C }

up_is : (a c : ℕ) → 0 < c → Up a c (up_by a c)
up_is a c C = go (up_by a c) (part_lt (a + (c - 1)) c C) (div-mul-le_self (a + (c - 1)) c)
  where
    go : (n : ℕ) → a + (c - 1) < (n + 1) * c → n * c ≤ a + (c - 1) → Up a c n
    go n h k = record { low = omega arith; high = omega arith }

half_is : (a c : ℕ) → 0 < c → Half a c (half_by a c)
half_is a c C = go (half_by a c) (part_lt (2 * a + c) (2 * c) (mul-pos (lit< tt) C)) (div-mul-le_self (2 * a + c) (2 * c))
  where
    go : (n : ℕ) → 2 * a + c < (n + 1) * (2 * c) → n * (2 * c) ≤ 2 * a + c → Half a c n
    go n h k = record { low = omega arith; high = omega arith }

-- one number each
module _ (a c n n' : ℕ) where
  below : n * c < (n' + 1) * c → n ≤ n'
  below h = let l = lt_of_mul-lt-mul_right c h in omega arith

  down_least : Down a c n → Down a c n' → n ≤ n'
  down_least d d' = below (lt_of_le_of_lt d.low d'.high)

  up_least : Up a c n → Up a c n' → n ≤ n'
  up_least d d' = below (let x = d.high in let y = d'.low in omega arith)

  half_least : Half a c n → Half a c n' → n ≤ n'
  half_least d d' =
      let l = lt_of_mul-lt-mul_right c
      (let x = d.low in let y = d'.high in let g : 2 * n * c < (2 * n' + 2) * c = omega arith in g) in omega arith

-- a / c itself, where it is whole
module _ (a c n : ℕ) (C : 0 < c) (e : a ≡ n * c) where
  own_down : Down a c n
  own_down = record { low = omega arith; high = omega arith }

  own_up : Up a c n
  own_up = record { low = omega arith; high = omega arith }

  own_half : Half a c n
  own_half = record { low = omega arith; high = omega arith }

-- ---- none of the three passes the next whole number
abbrev Bounded : (ℕ → ℕ → ℕ) → Type 0
Bounded p = (a c h : ℕ) → 0 < c → a < h * c → p a c ≤ h

down_bound : Bounded down_by
down_bound a c h C l = let g = (div-lt_iff_lt-mul C).1 (let k : a < (h + 1) * c = omega arith in k) in omega arith

up_bound : Bounded up_by
up_bound a c h C l = let g = (div-lt_iff_lt-mul C).1 (let k : a + (c - 1) < (h + 1) * c = omega arith in k) in omega arith

half_bound : Bounded half_by
half_bound a c h C l =
    let g = (div-lt_iff_lt-mul (mul-pos (lit< tt) C)).1 (let k : 2 * a + c < (h + 1) * (2 * c) = omega arith in k) in omega arith

-- ---- so the whole number is a value of the format: a value with a fraction is below 2 ^ (prec - 1)
module _ (f : Format) (p : ℕ → ℕ → ℕ) (P : (a : ℕ) → p a 1 ≡ a) (B : Bounded p) where
  plus_value : (m : ℕ) (e : ℤ) → T (fits f (fin false m e))
      → HasValue (of_int f (pos (p (m * up e) (down e)))) false (p (m * up e) (down e)) 1
  plus_value m (pos k) t =
      subst (λ (n : ℕ). HasValue (of_int f (pos n)) false n 1) (sym (P (m * 2 ^ k)))
      (subst (λ (x : Float). HasValue x false (m * 2 ^ k) 1) (sym (of_int_own f m k t)) (refl, refl))
  plus_value m (negsuc i) t =
      of_int_value f (p (m * 1) (2 ^ suc i))
      (le_trans (B (m * 1) (2 ^ suc i) (hid f) (pow_pos (suc i))
      (lt_of_le_of_lt (le_of_eq (mul-one m))
      (lt_of_lt_of_le (digits_lt f false m (negsuc i) t)
      (le_trans (le_of_eq (twice_hid f)) (wider (hid f) (2 ^ i) (2 ^ suc i) (pow_pos i) (pow-succ' 2 i))))))
      (le_trans (more (hid f)) (le_of_eq (sym (twice_hid f)))))
    where
      more : (h : ℕ) → h ≤ 2 * h
      more h = omega arith

      wider : (h p q : ℕ) → 0 < p → q ≡ 2 * p → 2 * h ≤ h * q
      wider h p q P e = omega (arith, mul-le-mul_left (2 * h) P, ap (λ (z : ℕ). h * z) e)

neg_value : (v : Float) (n : ℕ) → HasValue v false n 1 → HasValue (neg v) true n 1
unfolding neg
neg_value nan n h = absurd h
neg_value (inf s) n h = absurd h
neg_value (fin true m e) n h = absurd (true≢false h.0)
neg_value (fin false m e) n h = (refl, h.1)

module _ (f : Format) (p q : ℕ → ℕ → ℕ) (P : (a : ℕ) → p a 1 ≡ a) (Q : (a : ℕ) → q a 1 ≡ a) (PB : Bounded p) (QB : Bounded q) where
  whole_plus : (m : ℕ) (e : ℤ) → T (fits f (fin false m e)) → HasValue (whole_by f p q (fin false m e)) false (p (m * up e) (down e)) 1
  unfolding whole_by
  whole_plus m e t = plus_value f p P PB m e t

  whole_minus : (m : ℕ) (e : ℤ) → T (fits f (fin true m e)) → HasValue (whole_by f p q (fin true m e)) true (q (m * up e) (down e)) 1
  unfolding whole_by abs_of
  whole_minus m e t =
      neg_value (of_int f (pos (q (m * up e) (down e)))) (q (m * up e) (down e)) (plus_value f q Q QB m e (abs_fits f (fin true m e) t))

whole_fits : (f : Format) (p q : ℕ → ℕ → ℕ) (x : Float) → T (fits f x) → T (fits f (whole_by f p q x))
unfolding whole_by of_int
whole_fits f p q nan t = t
whole_fits f p q (inf s) t = t
whole_fits f p q (fin false m e) t = round-fits f false (p (m * up e) (down e)) 1
whole_fits f p q (fin true m e) t = neg-fits f (of_int f (pos (q (m * up e) (down e)))) (round-fits f false (q (m * up e) (down e)) 1)

-- ---- THE MEANING of the three, at a finite value
pub floor_is : (x : Float) → T (finite x) → T (fits binary32 x) → Floor x (floor_of x)
unfolding floor_of is_negative
floor_is nan r t = absurd r
floor_is (inf s) r t = absurd r
floor_is (fin false m e) r t =
    record {
      n = m * up e / down e;
      is = whole_plus binary32 down_by up_by down_one up_one down_bound up_bound m e t;
      plus = λ h. down_is (m * up e) (down e) (down_pos e);
      minus = λ h. absurd (false≢true h);
    }
floor_is (fin true m e) r t =
    record {
      n = up_by (m * up e) (down e);
      is = whole_minus binary32 down_by up_by down_one up_one down_bound up_bound m e t;
      plus = λ h. absurd (true≢false h);
      minus = λ h. up_is (m * up e) (down e) (down_pos e);
    }

pub ceil_is : (x : Float) → T (finite x) → T (fits binary32 x) → Ceil x (ceil_of x)
unfolding ceil_of is_negative
ceil_is nan r t = absurd r
ceil_is (inf s) r t = absurd r
ceil_is (fin false m e) r t =
    record {
      n = up_by (m * up e) (down e);
      is = whole_plus binary32 up_by down_by up_one down_one up_bound down_bound m e t;
      plus = λ h. up_is (m * up e) (down e) (down_pos e);
      minus = λ h. absurd (false≢true h);
    }
ceil_is (fin true m e) r t =
    record {
      n = m * up e / down e;
      is = whole_minus binary32 up_by down_by up_one down_one up_bound down_bound m e t;
      plus = λ h. absurd (true≢false h);
      minus = λ h. down_is (m * up e) (down e) (down_pos e);
    }

pub round_is : (x : Float) → T (finite x) → T (fits binary64 x) → Round x (round_of x)
unfolding round_of is_negative
round_is nan r t = absurd r
round_is (inf s) r t = absurd r
round_is (fin false m e) r t =
    record {
      n = half_by (m * up e) (down e);
      is = whole_plus binary64 half_by half_by half_one half_one half_bound half_bound m e t;
      near = half_is (m * up e) (down e) (down_pos e);
    }
round_is (fin true m e) r t =
    record {
      n = half_by (m * up e) (down e);
      is = whole_minus binary64 half_by half_by half_one half_one half_bound half_bound m e t;
      near = half_is (m * up e) (down e) (down_pos e);
    }

-- ---- nothing else is that, in either format
by_sign : {A : Type 0} (b : Bool) → (b ≡ true → A) → (b ≡ false → A) → A
by_sign true y n = y refl
by_sign false y n = n refl

module _ (f : Format) (x r r' : Float) (t : T (fits f r)) (t' : T (fits f r')) where
  same : (n n' : ℕ) → HasValue r (is_negative x) n 1 → HasValue r' (is_negative x) n' 1 → n ≤ n' → n' ≤ n → r ≡ r'
  same n n' v v' h h' =
      whole_unique f r r' (is_negative x) n t t' v (subst (λ (z : ℕ). HasValue r' (is_negative x) z 1) (le_antisymm h' h) v')

  pub floor_unique : Floor x r → Floor x r' → r ≡ r'
  floor_unique F F' =
      by_sign (is_negative x)
      (λ s. same F.n F'.n F.is F'.is (up_least _ _ _ _ (F.minus s) (F'.minus s))
      (up_least _ _ _ _ (F'.minus s) (F.minus s)))
      (λ s. same F.n F'.n F.is F'.is (down_least _ _ _ _ (F.plus s) (F'.plus s))
      (down_least _ _ _ _ (F'.plus s) (F.plus s)))

  pub ceil_unique : Ceil x r → Ceil x r' → r ≡ r'
  ceil_unique F F' =
      by_sign (is_negative x)
      (λ s. same F.n F'.n F.is F'.is (down_least _ _ _ _ (F.minus s) (F'.minus s))
      (down_least _ _ _ _ (F'.minus s) (F.minus s)))
      (λ s. same F.n F'.n F.is F'.is (up_least _ _ _ _ (F.plus s) (F'.plus s)) (up_least _ _ _ _ (F'.plus s) (F.plus s)))

  pub round_unique : Round x r → Round x r' → r ≡ r'
  round_unique F F' =
      same F.n F'.n F.is F'.is (half_least _ _ _ _ F.near F'.near) (half_least _ _ _ _ F'.near F.near)

-- ---- a whole number is its own
module _ (x : Float) (n : ℕ) (v : HasValue x (is_negative x) n 1) where
  real : T (finite x)
  real = go x (is_negative x) v
    where
      go : (x : Float) (s : Bool) → HasValue x s n 1 → T (finite x)
      go nan s h = absurd h
      go (inf t) s h = absurd h
      go (fin t m e) s h = tt

  size : num x ≡ n * den x
  size = go x (is_negative x) v
    where
      go : (x : Float) (s : Bool) → HasValue x s n 1 → num x ≡ n * den x
      go nan s h = absurd h
      go (inf t) s h = absurd h
      go (fin t m e) s h = sym (mul-one (m * up e)) ∙ h.1

  pub floor_own : T (fits binary32 x) → floor_of x ≡ x
  unfolding floor_of
  floor_own t =
      floor_unique binary32 x (floor_of x) x (whole_fits binary32 down_by up_by x t) t (floor_is x real t)
      (record {
        n = n;
        is = v;
        plus = λ s. own_down (num x) (den x) n (den_pos x) size;
        minus = λ s. own_up (num x) (den x) n
            (den_pos x) size;
      })

  pub ceil_own : T (fits binary32 x) → ceil_of x ≡ x
  unfolding ceil_of
  ceil_own t =
      ceil_unique binary32 x (ceil_of x) x (whole_fits binary32 up_by down_by x t) t (ceil_is x real t)
      (record {
        n = n;
        is = v;
        plus = λ s. own_up (num x) (den x) n (den_pos x) size;
        minus = λ s. own_down (num x) (den x) n
            (den_pos x) size;
      })

  pub round_own : T (fits binary64 x) → round_of x ≡ x
  unfolding round_of
  round_own t =
      round_unique binary64 x (round_of x) x (whole_fits binary64 half_by half_by x t) t (round_is x real t)
      (record { n = n; is = v; near = own_half (num x) (den x) n (den_pos x) size })
