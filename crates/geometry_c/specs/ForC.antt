-- What C takes and gives in place of an Option.
use Rattle.std.specs.Prelude.{true, false, cond, Option, None, Some, Float}
use Rattle.coords.specs.Coords.{zero⁺}
use Rattle.geometry.specs.declared.Ends as geometry
use Rattle.geometry_c.specs.declared.Centerline.{Centerline}
use Rattle.geometry_c.specs.declared.Ends.{Ends}

abbrev pub as_centerline : Option Float → Centerline
as_centerline (Some s) = record { on = true; s = s }
as_centerline None = record { on = false; s = zero⁺ }

abbrev pub ends_given : Ends → Option geometry.Ends
ends_given e = cond e.given (Some (record { start = e.start; end = e.end })) None
