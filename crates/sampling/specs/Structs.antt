-- What the structs and enums of the code stand for: the tables of linked lanes, and a lane's direction.
use Rattle.std.specs.Prelude.{Float, suc, zero, ℕ, ◌≡◌}
use Rattle.std.proofs.Common.{arith, ne_eqb, refl}
use Rattle.beside.specs.Sides.{direction_at, direction_number}
use Rattle.sampling.specs.Sampling.{RouteTables, is_ahead, route_tables}
use Rattle.sampling.specs.declared.LinkedLanes.{LinkedLanes}

abbrev pub tables_in : LinkedLanes → RouteTables
tables_in l = route_tables l.lanes.rows.now l.lanes.points.now l.lanes.cumulative.now l.fans.now l.links.now

-- what is ahead along the direction for which a number stands is ahead by the number
pub ahead_at : (n : ℕ) (from to : Float) → is_ahead (direction_number (direction_at n)) from to ≡ is_ahead n from to
unfolding is_ahead
ahead_at zero from to = refl
ahead_at (suc zero) from to = refl
ahead_at (suc (suc zero)) from to = refl
ahead_at (suc (suc (suc n))) from to =
    simp (
      ne_eqb (suc (suc (suc n))) 0 (λ e. absurd (omega (arith, e))),
      ne_eqb (suc (suc (suc n))) 1 (λ e. absurd (omega (arith, e))),
    )
