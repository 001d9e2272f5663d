-- `round f` gives the nearest value, and of two the even one (`round_nearest`), or an infinity from `reach` on (`round_over`); and no other
-- value is nearest (`nearest_unique`).
use mathlib.Core.Path.{◌≡◌, sym, ap, ◌∙◌, subst}
use mathlib.Core.Logic.{◌⊎◌, inl, inr}
use mathlib.Core.Bool.{Bool, false, not}
use Prim.Native.Nat.{ℕ, suc, ◌+◌, ◌-◌, ◌*◌, ◌%◌, ◌^◌, ◌≤◌, ◌<◌}
use native.Mathlib.Nat.{le_trans, le_of_eq, le_antisymm, lt_irrefl, lt_of_lt_of_le, lt_of_le_of_lt, mul-lt-mul_of_pos_right}
use native.Mathlib.Omega.{arith}
use lib.Dec.{T}
use lib.Pow.{pow_pos}
use lib.Ieee.{Float, nan, inf, fin, Format, binary32, binary64, prec, low, hid, ones, top, units, round, is_nan, of_bits, to_bits}
use lib.Ieee.Scale.{overflow}
use lib.Ieee.Fits.{round_is, round-fits, two, two-le_pos}
use lib.Ieee.Order.{drop}
use lib.Ieee.Bits.{to_bits-of_bits, of_bits-fits}
use lib.Ieee.Exact.{HasValue, units_val}
use lib.Ieee.Nearest.{closest}
use Rattle.exact.specs.Naturals.{le_of_not_lt, lt_or_le}
use Rattle.exact.specs.Patterns.{units_of, units_lt, bits_value, one_value, to_bits_units, pattern_of, units_over}
use Rattle.float_laws.specs.Nearest.{Units, Nearest, reach, InReach}
use Rattle.exact.specs.Rounding.{Kept, kept_is}
use Rattle.float_laws.proofs.Others.{past_lower, before_higher, even_lower, even_higher}
use Rattle.float_laws.proofs.Reach.{in_reach, out_of_reach, few_steps}

value_no_nan : (v : Float) (s : Bool) (a c : ℕ) → HasValue v s a c → T (not (is_nan v))
unfolding is_nan
value_no_nan nan s a c h = absurd h
value_no_nan (inf t) s a c h = tt
value_no_nan (fin t m e) s a c h = tt

-- ---- THE MEANING of `round`
module _ (f : Format) (num den : ℕ) (D : 0 < den) where
  abbrev n : ℕ
  n = num * 2 ^ low f

  abbrev k : ℕ
  k = drop (prec f) n den

  abbrev q : ℕ
  q = closest n (den * 2 ^ k)

  K : Kept (prec f) n den q k
  K = kept_is (prec f) n den (two-le_pos (prec f) (two f)) D

  is_units : round f false num den ≡ units f false q k
  is_units = round_is f false num den

  pub round_over : reach f * den ≤ 2 * (num * 2 ^ low f) → round f false num den ≡ inf false
  round_over r = is_units ∙ units_over f false q k (out_of_reach f n den q k D K r)

  module _ (r : InReach f num den) where
    l : q * 2 ^ k < overflow f
    l = in_reach f n den q k D K r

    is_value : Units f (round f false num den) (q * 2 ^ k)
    is_value = subst (λ (x : Float). Units f x (q * 2 ^ k)) (sym is_units) (units_val f false q k l)

    same : of_bits f (k * hid f + q) ≡ round f false num den
    same = pattern_of f k q K.least K.most (few_steps f n den q k D K l) ∙ sym is_units

    pattern : to_bits f (round f false num den) ≡ k * hid f + q
    pattern =
        ap (to_bits f) (sym same)
        ∙ to_bits-of_bits f (k * hid f + q) (bound f (few_steps f n den q k D K l) K.most)
        (subst (λ (x : Float). T (not (is_nan x))) (sym same) (value_no_nan (round f false num den) false (q * 2 ^ k) (2 ^ low f) is_value))
      where
        bound : (f : Format) {q k : ℕ} → k ≤ ones f - 2 → q ≤ 2 ^ prec f → k * hid f + q < 2 * top f
        bound binary32 a b = omega arith
        bound binary64 a b = omega arith

    even : q % 2 ≡ 0 → to_bits f (round f false num den) % 2 ≡ 0
    even e = ap (λ (x : ℕ). x % 2) pattern ∙ go f k q e
      where
        go : (f : Format) (k q : ℕ) → q % 2 ≡ 0 → (k * hid f + q) % 2 ≡ 0
        go binary32 k q e = omega arith
        go binary64 k q e = omega arith

    pub round_nearest : (g : ℕ) × Nearest f num den (round f false num den) g
    round_nearest = (
      q * 2 ^ k,
      record {
        is = is_value;
        held = round-fits f false num den;
        from_lower = λ v a t h. past_lower f n den q k D K v a t h;
        from_higher = λ v a t h. before_higher f n den q k D K v a t h;
        tie_lower = λ v a t h x e. even (even_lower f n den q k D K v a t h x e);
        tie_higher = λ v a t h x e. even (even_higher f n den q k D K v a t h x e);
      },
    )

-- ---- between two even patterns there is another
units_lt_back : (f : Format) (b c : ℕ) → units_of f b < units_of f c → b < c
units_lt_back f b c h = go (lt_or_le b c) (lt_or_le c b)
  where
    go : (b < c) ⊎ (c ≤ b) → (c < b) ⊎ (b ≤ c) → b < c
    go (inl x) y = x
    go (inr x) (inl y) = absurd (let z = units_lt f c b y in omega arith)
    go (inr x) (inr y) = absurd (lt_irrefl (units_of f c) (subst (λ (z : ℕ). units_of f z < units_of f c) (le_antisymm y x) h))

module _ (f : Format) (num den : ℕ) (D : 0 < den) where
  clash : (r r' : Float) (g g' : ℕ) → Nearest f num den r g → Nearest f num den r' g' → g < g' → ⊥
  clash r r' g g' N N' l =
      let p = to_bits_units f r g N.held N.is in
      let p' = to_bits_units f r' g' N'.held N'.is in
      let b = to_bits f r in
      let b' = to_bits f r' in
      let to : 2 * (num * 2 ^ low f) ≤ (g' + g) * den = N.from_higher r' g' N'.held N'.is l in
      let from : (g + g') * den ≤ 2 * (num * 2 ^ low f) = N'.from_lower r g N.held N.is l in
      let turn : (g + g') * den ≡ (g' + g) * den = omega arith in
      let tie : 2 * (num * 2 ^ low f) ≡ (g' + g) * den = le_antisymm to (le_trans (le_of_eq (sym turn)) from) in
      let e = N.tie_higher r' g' N'.held N'.is l tie in
      let e' = N'.tie_lower r g N.held N.is l (turn ∙ sym tie) in
      let o : b < b' = units_lt_back f b b' (subst (λ (x : ℕ). x < units_of f b') (sym p.1) (subst (λ (x : ℕ). g < x) (sym p'.1) l)) in
      let m : suc b < b' = omega arith in
      let lo : g < units_of f (suc b) = subst (λ (x : ℕ). x < units_of f (suc b)) p.1 (units_lt f b (suc b) (omega arith)) in
      let hi : units_of f (suc b) < g' = subst (λ (x : ℕ). units_of f (suc b) < x) p'.1 (units_lt f (suc b) b' m) in
      let far =
      N.from_higher (of_bits f (suc b)) (units_of f (suc b)) (of_bits-fits f (suc b))
      (bits_value f (suc b) (lt_of_lt_of_le m (le_of_lt p'.0))) lo in
      lt_irrefl (2 * (num * 2 ^ low f))
      (lt_of_le_of_lt far (lt_of_lt_of_le (mul-lt-mul_of_pos_right {m = units_of f (suc b) + g} {n = g' + g} (omega arith) D)
      (le_of_eq (sym tie))))
    where
      le_of_lt : {x y : ℕ} → x < y → x ≤ y
      le_of_lt h = omega arith

  pub nearest_unique : (r r' : Float) (g g' : ℕ) → Nearest f num den r g → Nearest f num den r' g' → r ≡ r'
  nearest_unique r r' g g' N N' =
      one_value f r r' false g (2 ^ low f) (pow_pos (low f)) N.held N'.held N.is
      (subst (λ (x : ℕ). Units f r' x) (sym same_count) N'.is)
    where
      same_count : g ≡ g'
      same_count = le_antisymm (le_of_not_lt (λ (l : g' < g). clash r' r g' g N' N l)) (le_of_not_lt (λ (l : g < g'). clash r r' g g' N N' l))
