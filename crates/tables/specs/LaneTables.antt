-- The tables that a public call is lent: the nine of a plan, and for each of its points the arc length and the tangent. What they hold of a plan,
-- and what they hold on return, for every file and all tables. Definitions only.
use Rattle.std.specs.Prelude.{Bool, cond, ◌||◌, Option, None, Some, List, [], ◌≡◌, ℕ, ◌*◌, eqb, ltb, Float, length}
use Rattle.geometry.specs.Polyline.{cumulative_of, tangents_of, vector_at}
use Rattle.geometry.specs.declared.Ends.{Ends}
use Rattle.plan_format.specs.Plan.{Decoded, Plan, accepted, refused}
use Rattle.plan_format.specs.Reading.{opened, read_of, short}
use Rattle.plan_format.specs.Records.{Lane}
use Rattle.plan_format.specs.Tables.{Tables, end_row, loaded, over, plan_rows, rows, tables}
use Rattle.plan_format.specs.declared.Read.{Read}

pub record LaneTables : Type 0 where
  pub plan : Tables
  pub cumulative : List Float
  pub tangents : List Float

abbrev pub lane_tables : List ℕ → List Float → List Float → List ℕ → List ℕ → List ℕ → List Float → List Float → List ℕ → List Float
    → List Float → LaneTables
lane_tables lanes points ends fans links sections bounds stations places cumulative tangents =
    record {
      plan = tables lanes points ends fans links sections bounds stations places;
      cumulative = cumulative;
      tangents = tangents;
    }

-- stands for a lane past the last
abbrev pub no_lane : Lane
no_lane = record { number = 0; type = 0; direction = 0; ends = 0; count = 0; points = []; tangents = [] }

-- the arc length at each point of a lane
abbrev pub cumulative_row : Lane → List Float
cumulative_row l = cumulative_of l.points l.count

-- the tangents at a lane's two ends, where it gives them
abbrev pub ends_of : Lane → Option Ends
ends_of l = cond (eqb l.ends 0) None (Some (record { start = vector_at (end_row l) 0; end = vector_at (end_row l) 1 }))

-- the tangent at each point of a lane, x y z
abbrev pub tangent_row : Lane → List Float
tangent_row l = tangents_of l.points l.count (ends_of l)

-- a plan's rows: what the tables hold of it
unfoldable pub lane_rows : Plan → LaneTables
lane_rows p = record { plan = plan_rows p; cumulative = rows cumulative_row p.lanes; tangents = rows tangent_row p.lanes }

-- the tables that held `t`, with the plan's rows first
unfoldable pub held : Plan → LaneTables → LaneTables
held p t =
    record {
      plan = loaded p t.plan;
      cumulative = over (lane_rows p).cumulative t.cumulative;
      tangents = over (lane_rows p).tangents t.tangents;
    }

-- NUMBER 1: a table is shorter than its limit, rows times entries a row
unfoldable pub too_short : LaneTables → Bool
too_short t = ltb (length t.cumulative) 4096 || (ltb (length t.tangents) (3 * 4096) || short t.plan)

-- the tables after a call, where they held `t`: as before where the file was refused
abbrev pub tables_after : Decoded → LaneTables → LaneTables
tables_after (refused n) t = t
tables_after (accepted p) t = held p t

-- the whole promise of opening a plan: the answer r, and the tables t' on return
pub record Opens (d : Decoded) (r : Read) (t t' : LaneTables) : Type 0 where
  pub read : r ≡ read_of d
  pub tables : t' ≡ tables_after d t

-- the whole promise of a public call over a file of these bytes: what it answers, the lists that it writes being part of that, is `answer` of what
-- the file decodes to; and the tables t' on return
pub record Calls {R : Type 0} (answer : Decoded → R) (side : ℕ) (file : List ℕ) (r : R) (t t' : LaneTables) : Type 0 where
  pub answer_is : r ≡ answer (opened (too_short t) side file)
  pub tables : t' ≡ tables_after (opened (too_short t) side file) t
