-- One segment as `project_segments` projects onto it: the fraction, clamped to 0 .. 1, is close to the best, and so is the place at it
-- (`hit`).
use mathlib.Core.Path.{◌≡◌, refl, sym, subst}
use mathlib.Core.Logic.{inl, inr}
use mathlib.Core.Bool.{Bool, true, false, not, cond}
use Prim.Native.Nat.{ℕ, ◌*◌, ◌^◌}
use native.Mathlib.Omega.{arith}
use lib.Dec.{T, lit<, lit≤}
use lib.Ieee.{Float, binary32, div, lt, le, eq, fits, of_bits}
use Rattle.exact.specs.Integers.{Z, ◌≈◌, ◌⊑◌, ◌⊞◌, ◌⊠◌, ◌·◌, ⊖, ι, ≈_refl, ≈_sym, ≈_trans, ⊠_cong, times_zero, sgn}
use Rattle.exact.specs.Ring.{◌:*◌, ◌:=◌, ring}
use Rattle.exact.specs.Inequalities.{Within, ⊑_or_lt, ≈_⊑, ⊑_≈, lt→⊑, within_scale, within_of_nonneg, scale_mono, sq}
use Rattle.exact.specs.Values.{U, mag, val, F32, size_of}
use Rattle.exact.specs.Order.{antisym}
use Rattle.exact.proofs.Order.{lt_no, lt_yes}
use Rattle.exact.proofs.Arithmetic.{size_is, div_hi, div_lo}
use Rattle.exact.specs.Steps.{Step}
use Rattle.exact.proofs.Steps.{div_step}
use Rattle.float.specs.Choose.{clamp_of}
use Rattle.float_laws.specs.Choose.{Clamped}
use Rattle.float_laws.proofs.Choose.{clamp_is}
use Rattle.coords.specs.declared.Point.{Point}
use Rattle.coords.specs.Coords.{zero⁺, one⁺, sub_of, dot_of, length_squared}
use Rattle.geometry.specs.Project.{nano, fraction_along, fraction_of, closest_of}
use Rattle.accuracy.proofs.Vectors.{Vec, from, norm_sq, far}
use Rattle.accuracy.proofs.Coordinates.{Coords, Wides, wides, zero_ok, zero_val, one_ok, one_val, not_nan}
use Rattle.accuracy.proofs.Distance.{Dist, dist_err}
use Rattle.accuracy.proofs.Fraction.{Quotient, quotient, len_pos_law, inside, at_start, at_end_law}
use Rattle.accuracy.proofs.RoundedPlace.{Close, nearly_best_close, start_close, place_wides, place_own, place_near}

-- ---- 1e-9: between 2^-40 and 2^-29
nano_ok : F32 nano
unfolding fits of_bits
nano_ok = record { fit = tt; real = tt }

nano_high : 536870912 · val nano ⊑ ι U
unfolding ◌·◌ val sgn mag ι U of_bits
nano_high = record { le = lit≤ tt }

nano_low : ι U ⊑ 1099511627776 · val nano
unfolding ◌·◌ val sgn mag ι U of_bits
nano_low = record { le = lit≤ tt }

-- ---- `clamp(0.0, 1.0)` of a finite number
clamp_cases : (P : Float → Type 0) (q : Float) → F32 q → (val q ⊞ ι 1 ⊑ ι 0 → P zero⁺) → (ι U ⊞ ι 1 ⊑ val q → P one⁺)
    → (ι 0 ⊑ val q → val q ⊑ ι U → P q) → P (clamp_of q zero⁺ one⁺)
clamp_cases P q g a b c = go (lt q zero⁺) refl (lt one⁺ q) refl
  where
    zero_le_one : T (le zero⁺ one⁺)
    zero_le_one = unfold le lt eq of_bits in tt

    K : Clamped q zero⁺ one⁺ (clamp_of q zero⁺ one⁺)
    K = clamp_is q zero⁺ one⁺ (not_nan q g) (not_nan zero⁺ zero_ok) (not_nan one⁺ one_ok) zero_le_one

    below : (v z : Z) → v ⊞ ι 1 ⊑ z → z ≈ ι 0 → v ⊞ ι 1 ⊑ ι 0
    below v z h e = unfold ι ◌⊞◌ in omega arith

    above : (v z : Z) → z ⊞ ι 1 ⊑ v → z ≈ ι U → ι U ⊞ ι 1 ⊑ v
    above v z h e = unfold ι ◌⊞◌ in omega arith

    yes : (x : Bool) → x ≡ true → T x
    yes x e = subst T (sym e) tt

    no : (x : Bool) → x ≡ false → T (not x)
    no x e = subst (λ (y : Bool). T (not y)) (sym e) tt

    go : (x : Bool) → lt q zero⁺ ≡ x → (y : Bool) → lt one⁺ q ≡ y → P (clamp_of q zero⁺ one⁺)
    go true e y f = subst P (sym (K.low e)) (a (below (val q) (val zero⁺) (lt_yes q zero⁺ g zero_ok (yes (lt q zero⁺) e)) zero_val))
    go false e true f = subst P (sym (K.high e f)) (b (above (val q) (val one⁺) (lt_yes one⁺ q one_ok g (yes (lt one⁺ q) f)) one_val))
    go false e false f =
        subst P (sym (K.kept e f))
        (c (≈_⊑ (≈_sym zero_val) (lt_no q zero⁺ g zero_ok (no (lt q zero⁺) e))) (⊑_≈ (lt_no one⁺ q one_ok g (no (lt one⁺ q) f)) one_val))

-- ---- a segment that is not short: num ≤ 0, num ≥ len, or between
module _ (num len : Float) (w d : Vec) (q : Quotient num len w d) (g : ι U ⊑ 1099511627776 · val len) where
  abbrev t : Float
  t = div binary32 num len

  len_one : ι 1 ⊑ val len
  len_one = len_pos_law num len w d q g

  quot : Step (div binary32 num len) (size_of len) 68 (ι U ⊠ val num)
  quot =
      div_step num len 68 q.num_good q.len_good len_one (lit< tt)
      (ratio (val num) (size_of len) (size_is len q.len_good len_one) q.num_size)
    where
      -- |num| ≤ 2^28 U ≤ 2^68 len
      wider : (v l n : Z) → ι U ⊑ 1099511627776 · l → n ≈ l → Within v (ι (2 ^ 28 * U)) → Within v (295147905179352825856 · n)
      wider v l n h e k = unfold ι ⊖ ◌·◌ in omega arith

      more : (a : Z) (n : ℕ) → Within a (ι U ⊠ (295147905179352825856 · ι n)) → Within a (ι (n * (2 ^ 68 * U)))
      more a n h = unfold ι ⊖ ◌⊠◌ ◌·◌ in omega arith

      ratio : (v : Z) (n : ℕ) → ι n ≈ val len → Within v (ι (2 ^ 28 * U)) → Within (ι U ⊠ v) (ι (n * (2 ^ 68 * U)))
      ratio v n e h = more (ι U ⊠ v) n (within_scale U (wider v (val len) (ι n) g e h))

  clamped : Close (clamp_of t zero⁺ one⁺) w d
  clamped = elim (⊑_or_lt (val num) (ι 0)) [
    | inl h ↦ below h
    | inr h ↦ elim (⊑_or_lt (val len) (val num)) [
      | inl i ↦ above i
      | inr i ↦ middle (up (val num) h) (lt→⊑ (val num) (val len) i)
    ]
  ]
    where
      up : (v : Z) → ι 0 ⊞ ι 1 ⊑ v → ι 0 ⊑ v
      up v h = unfold ι ◌⊞◌ in omega arith

      below : val num ⊑ ι 0 → Close (clamp_of t zero⁺ one⁺) w d
      below h =
          let s : Z = ι (size_of len) in
          let nil : ι U ⊠ ι 0 ≈ s ⊠ val zero⁺ =
          ≈_trans (times_zero (ι U)) (≈_trans (≈_sym (times_zero s)) (⊠_cong (≈_refl s) (≈_sym zero_val))) in
          let v₀ : val t ⊑ ι 0 =
          ⊑_≈ (div_hi num len zero⁺ q.num_good q.len_good zero_ok len_one quot.good.real
          (⊑_≈ (scale_mono U (val num) (ι 0) h) nil)) zero_val in
          clamp_cases (λ (t : Float). Close t w d) t quot.good
          (λ i. nearly_best_close zero⁺ w d (at_start num len w d q g zero⁺ zero_ok zero_val h))
          (λ i. absurd (impossible (val t) v₀ i))
          (λ i j. nearly_best_close t w d (at_start num len w d q g t quot.good (antisym (val t) (ι 0) v₀ i) h))
        where
          impossible : (v : Z) → v ⊑ ι 0 → ι U ⊞ ι 1 ⊑ v → ⊥
          impossible v a b = unfold ι ◌⊞◌ in omega arith

      above : val len ⊑ val num → Close (clamp_of t zero⁺ one⁺) w d
      above h =
          let s : Z = ι (size_of len) in
          let one : s ⊠ val one⁺ ≈ ι U ⊠ val len =
          ≈_trans (⊠_cong (size_is len q.len_good len_one) one_val) (ring 2 (λ l u. l :* u := u :* l) tt (val len) (ι U)) in
          let v₁ : ι U ⊑ val t =
          ≈_⊑ (≈_sym one_val) (div_lo num len one⁺ q.num_good q.len_good one_ok len_one quot.good.real
          (≈_⊑ one (scale_mono U (val len) (val num) h))) in
          clamp_cases (λ (t : Float). Close t w d) t quot.good
          (λ i. absurd (impossible (val t) i v₁))
          (λ i. nearly_best_close one⁺ w d (at_end_law num len w d q g one⁺ one_ok one_val h))
          (λ i j. nearly_best_close t w d (at_end_law num len w d q g t quot.good (antisym (val t) (ι U) j v₁) h))
        where
          impossible : (v : Z) → v ⊞ ι 1 ⊑ ι 0 → ι U ⊑ v → ⊥
          impossible v a b = unfold ι ◌⊞◌ in omega arith

      middle : ι 0 ⊑ val num → val num ⊑ val len → Close (clamp_of t zero⁺ one⁺) w d
      middle h i =
          let β = inside num len w d q g h i in
          clamp_cases (λ (t : Float). Close t w d) t quot.good
          (λ j. absurd (no₀ (val t) j β.low))
          (λ j. absurd (no₁ (val t) j β.high))
          (λ j l. nearly_best_close t w d β)
        where
          no₀ : (v : Z) → v ⊞ ι 1 ⊑ ι 0 → ι 0 ⊑ v → ⊥
          no₀ v a b = unfold ι ◌⊞◌ in omega arith

          no₁ : (v : Z) → ι U ⊞ ι 1 ⊑ v → v ⊑ ι U → ⊥
          no₁ v a b = unfold ι ◌⊞◌ in omega arith

fraction_close : (a b p : Point) → Coords a → Coords b → Coords p → Close (fraction_of a b p) (from a p) (from a b)
unfolding fraction_along
fraction_close a b p A B P = go (lt nano len) (lt_yes nano len nano_ok q.len_good) (lt_no nano len nano_ok q.len_good)
  where
    num : Float
    num = dot_of (sub_of p a) (sub_of b a)

    len : Float
    len = length_squared (sub_of b a)

    q : Quotient (dot_of (sub_of p a) (sub_of b a)) (length_squared (sub_of b a)) (from a p) (from a b)
    q = quotient p a b P A B

    long : (l n : Z) → n ⊞ ι 1 ⊑ l → ι U ⊑ 1099511627776 · n → ι U ⊑ 1099511627776 · l
    long l n h i = unfold ι ◌⊞◌ ◌·◌ in omega arith

    short : (l n : Z) → l ⊑ n → 536870912 · n ⊑ ι U → 536870912 · l ⊑ ι U
    short l n h i = unfold ι ◌·◌ in omega arith

    go : (x : Bool) → (T x → val nano ⊞ ι 1 ⊑ val len) → (T (not x) → val len ⊑ val nano)
        → Close (cond x (clamp_of (div binary32 num len) zero⁺ one⁺) zero⁺) (from a p) (from a b)
    go true h i = clamped num len (from a p) (from a b) q (long (val len) (val nano) (h tt) nano_low)
    go false h i = start_close len zero⁺ (from a p) (from a b) zero_val q.len_near (short (val len) (val nano) (i tt) nano_high) zero_ok

-- ---- what is known of the closest place c of the segment a b to p
pub record Hit (a b p c : Point) : Type 0 where
  pub wide : Wides c
  pub dist : Dist (length_squared (sub_of p c)) (norm_sq (from c p))
  pub near : (K S R : Z) → ι 1 ⊑ K → ι 0 ⊑ S → S ⊑ K → ι 0 ⊑ R → 1000000 · far K S (from a p) (from a b) ⊑ sq (K ⊠ R)
      → 1000000 · norm_sq (from c p) ⊑ sq (R ⊞ ι (35 * U))
  pub frac : Z
  pub low : ι 0 ⊑ frac
  pub high : frac ⊑ ι U
  pub own : 1000000 · far (ι U) frac (from a c) (from a b) ⊑ sq (ι (4 * U * U))

pub hit : (a b p : Point) → Coords a → Coords b → Coords p → Hit a b p (closest_of a b p)
hit a b p A B P =
    let β = fraction_close a b p A B P in
    let t = fraction_of a b p in
    let τ : Within (val t) (ι U) = within_of_nonneg (val t) (ι U) β.low β.high in
    let c = place_wides t β.good τ a b A B in
    record {
      wide = c;
      dist = dist_err p (closest_of a b p) (wides p P) c;
      near = place_near t β.good τ a b A B p β;
      frac = val t;
      low = β.low;
      high = β.high;
      own = place_own t β.good τ a b A B;
    }
