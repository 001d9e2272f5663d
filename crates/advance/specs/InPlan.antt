-- A position moved on along the lanes of a plan: by the rows that the plan's tables hold of it. (Linked.antt: the links that it follows are the
-- plan's link records.) Definitions only.
use Rattle.std.specs.Prelude.{List, ℕ, Float, length}
use Rattle.plan_format.specs.Plan.{Decoded, Plan, accepted, refused}
use Rattle.plan_format.specs.Tables.{plan_rows}
use Rattle.tables.specs.LaneTables.{lane_rows}
use Rattle.beside.specs.declared.LanePosition.{LanePosition}
use Rattle.branches.specs.Tables.{Tables, tables}
use Rattle.advance.specs.Advance.{Answer, advance_rows, refused_with}

abbrev pub plan_tables : Plan → Tables
plan_tables p =
    let t = plan_rows p in
    tables t.lanes (length p.lanes) t.points (lane_rows p).cumulative t.fans t.links t.sections t.stations t.places
    (length p.places)

-- what a call answers, and what it leaves in the two lists lent for it; numbers 12, 13 and 14
unfoldable pub advance_in : Plan → LanePosition → Float → List ℕ → List Float → Answer
advance_in p from distance rows metres = advance_rows (plan_tables p) (plan_rows p).bounds from distance rows metres

-- the answer for a file
abbrev pub advance_of : Decoded → LanePosition → Float → List ℕ → List Float → Answer
advance_of (refused k) from distance rows metres = refused_with k rows metres
advance_of (accepted p) from distance rows metres = advance_in p from distance rows metres
