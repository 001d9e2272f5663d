-- |x| is x or its negative, without a minus; x is its signum times |x|; and nothing else is that.
use mathlib.Core.Path.{◌≡◌, refl, sym, ap, ◌∙◌}
use mathlib.Core.Logic.{◌⊎◌, inl, inr}
use mathlib.Core.Bool.{Bool, true, false, not, cond, true≢false}
use Prim.Native.Nat.{ℕ, ◌*◌}
use native.Mathlib.Nat.{one-mul}
use lib.IntN.{pos}
use lib.Dec.{T}
use lib.Ieee.{Float, nan, inf, fin, Format, up, down, round, neg, mul, fits, is_nan}
use lib.Ieee.Fits.{down_pos}
use Rattle.exact.specs.Patterns.{round_self}
use Rattle.float.specs.Sign.{abs_of, is_negative, signum_of}
use Rattle.float.proofs.Signs.{abs_fits, abs_plus, with_sign, neg_round}
use Rattle.float_laws.specs.Sign.{Size, Signum}

-- ---- the size
pub abs_is : (x : Float) → Size x (abs_of x)
abs_is x = record { plus = abs_plus x; one = go x }
  where
    go : (x : Float) → (abs_of x ≡ x) ⊎ (abs_of x ≡ neg x)
    go nan = inl (unfold abs_of in refl)
    go (inf true) = inr (unfold abs_of neg in refl)
    go (inf false) = inl (unfold abs_of in refl)
    go (fin true m e) = inr (unfold abs_of neg in refl)
    go (fin false m e) = inl (unfold abs_of in refl)

pub abs_unique : (x r r' : Float) → Size x r → Size x r' → r ≡ r'
abs_unique x r r' S S' = go S.one S'.one
  where
    turned : (x : Float) → is_negative x ≡ false → is_negative (neg x) ≡ false → x ≡ neg x
    turned nan p q = unfold neg in refl
    turned (inf true) p q = absurd (true≢false (unfold is_negative in p))
    turned (inf false) p q = absurd (true≢false (unfold is_negative neg in q))
    turned (fin true m e) p q = absurd (true≢false (unfold is_negative in p))
    turned (fin false m e) p q = absurd (true≢false (unfold is_negative neg in q))

    go : (r ≡ x) ⊎ (r ≡ neg x) → (r' ≡ x) ⊎ (r' ≡ neg x) → r ≡ r'
    go (inl a) (inl b) = a ∙ sym b
    go (inr a) (inr b) = a ∙ sym b
    go (inl a) (inr b) = a ∙ turned x (ap is_negative (sym a) ∙ S.plus) (ap is_negative (sym b) ∙ S'.plus) ∙ sym b
    go (inr a) (inl b) = a ∙ sym (turned x (ap is_negative (sym b) ∙ S'.plus) (ap is_negative (sym a) ∙ S.plus)) ∙ sym b

-- ---- the sign
-- ±1 times a size is that size with the sign
sizes : (f : Format) (s : Bool) (a c : ℕ) → round f s (1 * 1 * a) (1 * c) ≡ round f s a c
sizes f s a c = ap (λ (x : ℕ). round f s x (1 * c)) (one-mul a) ∙ ap (round f s a) (one-mul c)

times : (f : Format) (s : Bool) (x : Float) → T (fits f x) → T (not (is_nan x))
    → mul f (fin s 1 (pos 0)) (abs_of x) ≡ cond s (neg (abs_of x)) (abs_of x)
unfolding abs_of mul neg is_nan
times f s nan t n = absurd n
times f true (inf r) t n = refl
times f false (inf r) t n = refl
times f true (fin r m e) t n =
    sizes f true (m * up e) (down e) ∙ sym (neg_round f false (m * up e) (down e))
    ∙ ap neg (round_self f (fin false m e) false (m * up e) (down e) (down_pos e) (abs_fits f (fin r m e) t) (refl, refl))
times f false (fin r m e) t n =
    sizes f false (m * up e) (down e)
    ∙ round_self f (fin false m e) false (m * up e) (down e) (down_pos e) (abs_fits f (fin r m e) t) (refl, refl)

signum_form : (x : Float) → T (not (is_nan x)) → signum_of x ≡ fin (is_negative x) 1 (pos 0)
unfolding signum_of is_negative is_nan
signum_form nan n = absurd n
signum_form (inf s) n = refl
signum_form (fin s m e) n = refl

pub signum_is : (f : Format) (x : Float) → T (fits f x) → T (not (is_nan x)) → Signum f x (signum_of x)
signum_is f x t n = record {
  s = is_negative x;
  unit = signum_form x n;
  product = ap (λ (r : Float). mul f r (abs_of x)) (signum_form x n) ∙ times f (is_negative x) x t n ∙ sym (with_sign x (is_negative x) refl);
}

pub signum_unique : (f : Format) (x r r' : Float) → T (fits f x) → T (not (is_nan x)) → Signum f x r → Signum f x r' → r ≡ r'
signum_unique f x r r' t n S S' = S.unit ∙ ap (λ (s : Bool). fin s 1 (pos 0)) (sign S ∙ sym (sign S')) ∙ sym S'.unit
  where
    minus : (s : Bool) (x : Float) → T (not (is_nan x)) → is_negative (cond s (neg (abs_of x)) (abs_of x)) ≡ s
    minus s nan n = absurd (unfold is_nan in n)
    minus true (inf r) n = unfold is_negative neg abs_of in refl
    minus false (inf r) n = unfold is_negative abs_of in refl
    minus true (fin r m e) n = unfold is_negative neg abs_of in refl
    minus false (fin r m e) n = unfold is_negative abs_of in refl

    sign : {q : Float} (Q : Signum f x q) → Q.s ≡ is_negative x
    sign Q =
        sym (minus Q.s x n)
        ∙ ap is_negative (sym (times f Q.s x t n) ∙ ap (λ (r : Float). mul f r (abs_of x)) (sym Q.unit) ∙ Q.product)
