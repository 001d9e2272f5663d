-- Comparison of finite f32 is the order of their values. -0 and 0 have one value, and are equal.
use Rattle.std.specs.Prelude.{◌⊎◌, ℕ, ◌+◌, Bool, not, ◌||◌, eqb}
use Rattle.std.proofs.Common.{arith, ltb→lt, nltb→le, eqb→eq}
use Rattle.std.proofs.Math.Logic.{inl, inr}
use Rattle.std.proofs.Math.Bool.{true, false}
use Rattle.std.proofs.Math.Dec.{T}
use Rattle.std.specs.Float.Ieee.{below, level}
use Rattle.std.specs.Float.Ieee.Fits.{and_i, and_l, and_r, eq→eqb}
use Rattle.exact.specs.Integers.{Z, ◌≈◌, ◌⊑◌, ◌⊞◌, ι, sgn}

-- ---- ±a < ±b and ±a = ±b
pub below_yes : (s : Bool) (a : ℕ) (t : Bool) (b : ℕ) → T (below s a t b) → sgn s a ⊞ ι 1 ⊑ sgn t b
unfolding sgn ι ◌⊞◌
below_yes false a false b h = omega (arith, ltb→lt a b h)
below_yes false a true b h = absurd h
below_yes true a false b h = omega (arith, ltb→lt 0 (a + b) h)
below_yes true a true b h = omega (arith, ltb→lt b a h)

pub below_no : (s : Bool) (a : ℕ) (t : Bool) (b : ℕ) → T (not (below s a t b)) → sgn t b ⊑ sgn s a
unfolding sgn
below_no false a false b h = omega (arith, nltb→le a b h)
below_no false a true b h = omega arith
below_no true a false b h = omega (arith, nltb→le 0 (a + b) h)
below_no true a true b h = omega (arith, nltb→le b a h)

pub level_yes : (s : Bool) (a : ℕ) (t : Bool) (b : ℕ) → T (level s a t b) → sgn s a ≈ sgn t b
unfolding sgn
level_yes false a false b h = omega (arith, eqb→eq a b (and_l (eqb a b) true h))
level_yes true a true b h = omega (arith, eqb→eq a b (and_l (eqb a b) true h))
level_yes false a true b h = omega (arith, eqb→eq a b (and_l (eqb a b) (eqb a 0) h), eqb→eq a 0 (and_r (eqb a b) (eqb a 0) h))
level_yes true a false b h = omega (arith, eqb→eq a b (and_l (eqb a b) (eqb a 0) h), eqb→eq a 0 (and_r (eqb a b) (eqb a 0) h))

pub level_of_law : (s : Bool) (a : ℕ) (t : Bool) (b : ℕ) → sgn s a ≈ sgn t b → T (level s a t b)
unfolding sgn
level_of_law false a false b h = and_i (eqb a b) true (eq→eqb {a = a} {b = b} (omega arith)) tt
level_of_law true a true b h = and_i (eqb a b) true (eq→eqb {a = a} {b = b} (omega arith)) tt
level_of_law false a true b h = and_i (eqb a b) (eqb a 0) (eq→eqb {a = a} {b = b} (omega arith)) (eq→eqb {a = a} {b = 0} (omega arith))
level_of_law true a false b h = and_i (eqb a b) (eqb a 0) (eq→eqb {a = a} {b = b} (omega arith)) (eq→eqb {a = a} {b = 0} (omega arith))

pub antisym : (a b : Z) → a ⊑ b → b ⊑ a → a ≈ b
antisym a b h k = omega arith

pub or_cases : (a b : Bool) → T (a || b) → T a ⊎ T b
or_cases true b t = inl tt
or_cases false b t = inr t
