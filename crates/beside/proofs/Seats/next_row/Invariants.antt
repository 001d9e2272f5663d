-- The best of the first k places, as the definition has it, and its own number.
use Rattle.std.specs.Prelude.{◌≡◌, ◌<◌, IfSome}
use Rattle.std.specs.Option.{option_map_or}
use Rattle.rows.specs.Rows.{raised_number}
use Rattle.beside.specs.Beside.{next_row}
use Rattle.beside.proofs.Seats.next_row.Given as goal

abbrev pub invariant-loop-k : goal.invariant-loop-k
invariant-loop-k l =
    record {
      best : option_map_or (λ b. b.0) l.best 256 ≡ next_row l.self.places.now l.self.place_count l.j l.here l.larger l.k;
      within : IfSome l.best (λ b. (b.0 < l.self.place_count) × (b.1 ≡ raised_number l.self.places.now b.0));
    }
