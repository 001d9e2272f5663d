-- What stands beside a place, and by what it is told apart with that. Definitions only.
use Rattle.ends.specs.declared.Placing.{Placing}
use Rattle.ends.specs.declared.Advance.{Advance}
use Rattle.ends.specs.declared.Rounded.{Rounded}
use Rattle.ends.specs.Ends.{position_of, placing_of}

abbrev pub rounded_in : Placing → Rounded
rounded_in k = record { case = k.case; s = k.s; offset = k.offset; short = k.short }

abbrev pub rounded_of : Advance → Rounded
rounded_of a = rounded_in (placing_of a)

-- `placing_of a`, where `rounded` is `rounded_of a`
unfoldable pub placing_with : Advance → Rounded → Placing
placing_with a rounded =
    record { case = rounded.case; lane = (position_of a).lane.0; s = rounded.s; offset = rounded.offset; short = rounded.short }
