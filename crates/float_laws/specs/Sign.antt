-- The size and the sign of a value.
use Rattle.std.specs.Prelude.{◌≡◌, ◌⊎◌, Bool, false, pos, Float}
use Rattle.std.specs.Float.{fin, Format}
use Rattle.std.specs.Float.Ieee.{neg, mul}
use Rattle.float.specs.Sign.{abs_of, is_negative}

-- r is x or its negative, and has no minus
pub record Size (x r : Float) : Type 0 where
  pub plus : is_negative r ≡ false
  pub one : (r ≡ x) ⊎ (r ≡ neg x)

-- r is 1 or -1, and r times |x| is x
pub record Signum (f : Format) (x r : Float) : Type 0 where
  pub s : Bool
  pub unit : r ≡ fin s 1 (pos 0)
  pub product : mul f r (abs_of x) ≡ x
