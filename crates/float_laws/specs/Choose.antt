-- The lesser and the greater of two numbers, and the nearest within a range.
use Rattle.std.specs.Prelude.{◌≡◌, ◌⊎◌, true, false, ◌&&◌, T, Float}
use Rattle.std.specs.Float.Ieee.{lt, le, eq}
use Rattle.float.specs.Choose.{zero}

-- r is at most x and y, and is one of them; plus zero where both are zeros
pub record Least (x y r : Float) : Type 0 where
  pub first : T (le r x)
  pub second : T (le r y)
  pub one : (eq x zero && eq y zero) ≡ false → (r ≡ x) ⊎ (r ≡ y)
  pub zeros : (eq x zero && eq y zero) ≡ true → r ≡ zero

-- r is at least x and y, and is one of them; plus zero where both are zeros
pub record Greatest (x y r : Float) : Type 0 where
  pub first : T (le x r)
  pub second : T (le y r)
  pub one : (eq x zero && eq y zero) ≡ false → (r ≡ x) ⊎ (r ≡ y)
  pub zeros : (eq x zero && eq y zero) ≡ true → r ≡ zero

-- r lies from lo to hi: it is x where x lies there, lo where x is less, and hi where x is more
pub record Clamped (x lo hi r : Float) : Type 0 where
  pub from : T (le lo r)
  pub to : T (le r hi)
  pub kept : lt x lo ≡ false → lt hi x ≡ false → r ≡ x
  pub low : lt x lo ≡ true → r ≡ lo
  pub high : lt x lo ≡ false → lt hi x ≡ true → r ≡ hi
