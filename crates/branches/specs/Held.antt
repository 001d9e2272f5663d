-- How a `Front` holds the branches in flight and the keys entered: the oldest first, where the definitions have the newest first. And the tables
-- of a `Plan`. Definitions only.
use Rattle.std.specs.Prelude.{Bool, reverse}
use Rattle.branches.specs.declared.Front as declared
use Rattle.branches.specs.declared.Plan.{Plan}
use Rattle.branches.specs.Front.{Front}
use Rattle.branches.specs.Tables.{Tables, tables}
use Rattle.branches.specs.Links.{LinkFront}

abbrev pub front_of : declared.Front → Front
front_of f = record { todo = reverse f.todo.items; entered = reverse f.keys.items; full = f.full }

abbrev pub link_front_of : declared.Front → Bool → LinkFront
link_front_of f any = record { front = front_of f; any = any }

abbrev pub tables_of : Plan → Tables
tables_of p =
    tables p.lanes.rows.now p.lanes.count p.lanes.points.now p.lanes.cumulative.now p.fans.now p.links.now p.sections.now p.stations.now
    p.places.now p.place_count
