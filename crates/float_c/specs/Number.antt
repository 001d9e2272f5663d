-- The three answers of a comparison as C has them.
use Rattle.std.specs.Prelude.{ℤ, pos, negsuc}
use Rattle.std.specs.declared.cmp.Ordering.{Ordering}
use Rattle.std.specs.declared.cmp.Ordering.TheVariants.{Less, Equal, Greater}

abbrev pub number_of : Ordering → ℤ
number_of Less = negsuc 0
number_of Equal = pos 0
number_of Greater = pos 1
