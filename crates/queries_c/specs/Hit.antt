-- The nearest span as C takes it.
use Rattle.std.specs.Prelude.{Option, None, Some, true, false}
use Rattle.coords.specs.Coords.{zero⁺}
use Rattle.network.specs.declared.Nearest.{Nearest}
use Rattle.queries_c.specs.declared.Hit.{Hit}

abbrev pub as_hit : Option Nearest → Hit
as_hit None =
    record {
      found = false;
      dist2 = zero⁺;
      span = 0;
      row = 0;
      projection = record { s = zero⁺; point = record { x = zero⁺; y = zero⁺; z = zero⁺ }; offset = zero⁺ };
    }
as_hit (Some b) = record { found = true; dist2 = b.dist2; span = b.span; row = b.row; projection = b.projection }
