-- How a `Found` holds the places given: the oldest first, where the definitions have the newest first, and the keys with them. Definitions only.
use Rattle.std.specs.Prelude.{map, reverse}
use Rattle.ends.specs.declared.Found as declared
use Rattle.ends.specs.Ends.{Found, placing_of}

abbrev pub found_of : declared.Found → Found
found_of g = record { placed = map placing_of (reverse g.out.items); out = reverse g.out.items }
