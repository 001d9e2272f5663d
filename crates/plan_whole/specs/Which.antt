-- The number that `key_at` has for each kind of key.
use Rattle.std.specs.Prelude.{ℕ}
use Rattle.plan_whole.specs.declared.Key.{Key}
use Rattle.plan_whole.specs.declared.Key.TheVariants.{Lane, Section, PlaceInSection}

abbrev pub which : Key → ℕ
which Lane = 0
which Section = 1
which PlaceInSection = 2
