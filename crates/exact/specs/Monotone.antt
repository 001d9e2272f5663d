-- The result of an operation is one rounded fraction (`Frac`): proofs/Arithmetic shows it of each, proofs/Monotone that rounding keeps the order.
use Rattle.std.specs.Prelude.{◌≡◌, ℕ, ◌*◌, ◌<◌, Bool, Float}
use Rattle.std.specs.Float.{binary32}
use Rattle.std.specs.Float.Ieee.{round}
use Rattle.exact.specs.Integers.{Z, ◌≈◌, sgn}
use Rattle.exact.specs.Values.{U}

-- ---- an operation's result: x is the rounded num / c, which is e / k units
pub record Frac (x : Float) (k : ℕ) (e : Z) : Type 0 where
  pub s : Bool
  pub num : ℕ
  pub c : ℕ
  pub w : ℕ
  pub is : x ≡ round binary32 s num c
  pub cpos : 0 < c
  pub kpos : 0 < k
  pub units : num * U * k ≡ w * c
  pub value : e ≈ sgn s w
