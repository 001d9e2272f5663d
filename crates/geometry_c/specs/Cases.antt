-- Tangents that are not given do not count, whatever stands in their place.
use Rattle.std.specs.Prelude.{None, refl, ◌≡◌, false}
use Rattle.coords.specs.declared.Vector.{Vector}
use Rattle.geometry_c.specs.ForC.{ends_given}

not_given : (start end : Vector) → ends_given (record { given = false; start = start; end = end }) ≡ None
not_given start end = refl
