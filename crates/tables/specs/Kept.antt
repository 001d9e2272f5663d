-- The tables of arc lengths and tangents past an accepted plan's points: each entry is the one that stood there before.
use Rattle.std.specs.Prelude.{◌≡◌, ℕ, ◌*◌, ◌+◌, Float, get_or}
use Rattle.lists.specs.Over.{over_past}
use Rattle.plan_format.specs.Plan.{Plan}
use Rattle.plan_format.specs.Reading.{plan_counts}
use Rattle.tables.specs.LaneTables.{LaneTables, held, lane_rows}
use Rattle.tables.specs.Lines.{cumulative_size, tangents_size}

-- plan's specs/Kept.antt has it for the other nine
module _ (p : Plan) (t : LaneTables) (k : ℕ) (d : Float) where
  pub cumulative_kept : get_or (held p t).cumulative ((plan_counts p).points + k) d ≡ get_or t.cumulative ((plan_counts p).points + k) d
  unfolding held
  cumulative_kept = over_past (lane_rows p).cumulative t.cumulative (plan_counts p).points k d (cumulative_size p)

  pub tangents_kept : get_or (held p t).tangents (3 * (plan_counts p).points + k) d ≡ get_or t.tangents (3 * (plan_counts p).points + k) d
  unfolding held
  tangents_kept = over_past (lane_rows p).tangents t.tangents (3 * (plan_counts p).points) k d (tangents_size p)
