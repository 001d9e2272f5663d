-- The order of floats is transitive. A finite float is its sign and a fraction: ±a / p, where p is `down` of its exponent.
use Rattle.std.specs.Prelude.{◌≡◌, refl, ◌⊎◌, Bool, true, false, ◌&&◌, ◌||◌, ℕ, ◌+◌, ◌*◌, ◌≤◌, ◌<◌, T, ltb, eqb, Float}
use Rattle.std.proofs.Common.{inl, inr, ⊎_elim, mul-le-mul_right, le_of_mul-le-mul_right, arith, ltb→lt, lt→ltb, eqb→eq}
use Rattle.std.proofs.Math.Dec.{eqb_refl}
use Rattle.std.specs.Float.{nan, inf, fin}
use Rattle.std.specs.Float.Ieee.{up, down, lt, eq, le, below, level}
use Rattle.std.specs.Float.Ieee.Fits.{down_pos, and_l, and_r}
use Rattle.exact.specs.Naturals.{lt_or_le}

either : (x y : Bool) → T (x || (y && true)) → T x ⊎ T y
either true y h = inl tt
either false true h = inr tt
either false false h = absurd h

first : (x y : Bool) → T x → T (x || y)
first true y h = tt
first false y h = absurd h

second : (x y : Bool) → T y → T (x || y)
second true y h = tt
second false y h = h

both : (x y : Bool) → T x → T y → T (x && y)
both true y h k = k
both false y h k = absurd h

abbrev plus : Bool → ℕ → ℕ
plus false a = a
plus true a = 0

abbrev minus : Bool → ℕ → ℕ
minus false a = 0
minus true a = a

-- ±a ≤ ±b
abbrev AtMost : Bool → ℕ → Bool → ℕ → Type 0
AtMost s a t b = plus s a + minus t b ≤ plus t b + minus s a

-- the test that `le` makes of two finite floats
abbrev test : Bool → ℕ → Bool → ℕ → Bool
test s a t b = below s a t b || level s a t b

to : (s : Bool) (a : ℕ) (t : Bool) (b : ℕ) → T (test s a t b) → AtMost s a t b
to false a false b h = ⊎_elim (λ p. let l = ltb→lt a b p in omega arith) (λ q. let e = eqb→eq a b q in omega arith)
    (either (ltb a b) (eqb a b) h)
to false a true b h =
    let e = eqb→eq a b (and_l (eqb a b) (eqb a 0) h) in
    let z = eqb→eq a 0 (and_r (eqb a b) (eqb a 0) h) in
    omega arith
to true a false b h = omega arith
to true a true b h = ⊎_elim (λ p. let l = ltb→lt b a p in omega arith) (λ q. let e = eqb→eq a b q in omega arith)
    (either (ltb b a) (eqb a b) h)

equal : (a b : ℕ) → a ≡ b → T (eqb a b)
equal a b e = rw e (eqb_refl b)

from : (s : Bool) (a : ℕ) (t : Bool) (b : ℕ) → AtMost s a t b → T (test s a t b)
from false a false b h =
    ⊎_elim (λ l. first (ltb a b) (eqb a b && true) (lt→ltb a b l))
    (λ g. second (ltb a b) (eqb a b && true) (both (eqb a b) true (equal a b (omega arith)) tt)) (lt_or_le a b)
from false a true b h = both (eqb a b) (eqb a 0) (equal a b (omega arith)) (equal a 0 (omega arith))
from true a false b h =
    ⊎_elim (λ l. first (ltb 0 (a + b)) (eqb a b && eqb a 0) (lt→ltb 0 (a + b) l))
    (λ g. second (ltb 0 (a + b)) (eqb a b && eqb a 0)
    (both (eqb a b) (eqb a 0) (equal a b (omega arith)) (equal a 0 (omega arith)))) (lt_or_le 0 (a + b))
from true a true b h =
    ⊎_elim (λ l. first (ltb b a) (eqb a b && true) (lt→ltb b a l))
    (λ g. second (ltb b a) (eqb a b && true) (both (eqb a b) true (equal a b (omega arith)) tt)) (lt_or_le b a)

plus_mul : (s : Bool) (a k : ℕ) → plus s (a * k) ≡ plus s a * k
plus_mul false a k = refl
plus_mul true a k = omega arith

minus_mul : (s : Bool) (a k : ℕ) → minus s (a * k) ≡ minus s a * k
minus_mul false a k = omega arith
minus_mul true a k = refl

-- (a - a') / p ≤ (b - b') / q ≤ (c - c') / r
through : (a a' b b' c c' p q r : ℕ) → 0 < q → a * q + b' * p ≤ b * p + a' * q → b * r + c' * q ≤ c * q + b' * r
    → a * r + c' * p ≤ c * p + a' * r
through a a' b b' c c' p q r hq h k =
    let h' = mul-le-mul_right r h in
    let k' = mul-le-mul_right p k in
    le_of_mul-le-mul_right (omega arith) hq

module _ (s t u : Bool) (a b c p q r : ℕ) (hq : 0 < q) where
  through_signs : AtMost s (a * q) t (b * p) → AtMost t (b * r) u (c * q) → AtMost s (a * r) u (c * p)
  through_signs h k =
      rw (plus_mul s a r, minus_mul u c p, plus_mul u c p, minus_mul s a r)
      (through (plus s a) (minus s a) (plus t b) (minus t b) (plus u c) (minus u c) p q r hq
      (rw (plus_mul s a q, minus_mul t b p, plus_mul t b p, minus_mul s a q) at h)
      (rw (plus_mul t b r, minus_mul u c q, plus_mul u c q, minus_mul t b r) at k))

-- -∞ is at most what is at least something
least : (y z : Float) → T (le y z) → T (le (inf true) z)
unfolding le lt eq
least nan z k = absurd k
least (inf s) nan k = absurd k
least (inf s) (inf false) k = tt
least (inf s) (inf true) k = tt
least (inf s) (fin u o f) k = tt
least (fin s m e) nan k = absurd k
least (fin s m e) (inf false) k = tt
least (fin s m e) (inf true) k = tt
least (fin s m e) (fin u o f) k = tt

pub le_trans : (x y z : Float) → T (le x y) → T (le y z) → T (le x z)
unfolding le lt eq
le_trans nan y z h k = absurd h
le_trans (inf true) y z h k = least y z k
le_trans (inf false) nan z h k = absurd h
le_trans (inf false) (inf false) z h k = k
le_trans (inf false) (inf true) z h k = absurd h
le_trans (inf false) (fin t n d) z h k = absurd h
le_trans (fin s m e) nan z h k = absurd h
le_trans (fin s m e) (inf true) z h k = absurd h
le_trans (fin s m e) (inf false) nan h k = absurd k
le_trans (fin s m e) (inf false) (inf false) h k = tt
le_trans (fin s m e) (inf false) (inf true) h k = absurd k
le_trans (fin s m e) (inf false) (fin u o f) h k = absurd k
le_trans (fin s m e) (fin t n d) nan h k = absurd k
le_trans (fin s m e) (fin t n d) (inf false) h k = tt
le_trans (fin s m e) (fin t n d) (inf true) h k = absurd k
le_trans (fin s m e) (fin t n d) (fin u o f) h k =
    from s (m * up e * down f) u (o * up f * down e)
    (through_signs s t u (m * up e) (n * up d) (o * up f) (down e) (down d) (down f) (down_pos d)
    (to s (m * up e * down d) t (n * up d * down e) h) (to t (n * up d * down f) u (o * up f * down d) k))
