-- advance.rs: where a branch ends, and the places given, newest first. Definitions only.
use Rattle.std.specs.Prelude.{Bool, cond, ◌&&◌, List, ◌∷◌, ℕ, eqb, ltb, Float}
use Rattle.std.specs.Float.{binary32, binary64}
use Rattle.std.specs.Float.Ieee.{add, sub, mul, lt}
use Rattle.float.specs.Choose.{min_of}
use Rattle.float.specs.Narrow.{narrow_of}
use Rattle.road.specs.Along.{station_of}
use Rattle.beside.specs.declared.LanePosition.{LanePosition}
use Rattle.rows.specs.Rows.{lane_number, place_of, placed_section, points_of, stations_of}
use Rattle.beside.specs.Beside.{zero64}
use Rattle.branches.specs.declared.Branch.{Branch}
use Rattle.branches.specs.Tables.{Tables}
use Rattle.branches.specs.Branches.{millimetres, side_of, holds}
use Rattle.ends.specs.declared.Placing.{Placing}
use Rattle.ends.specs.declared.Advance.{Advance}
use Rattle.ends.specs.declared.Advance.TheVariants.{Reached, DeadEnd}

-- document 01's answer: a case, 0 reached and 1 dead end, a lane with s and offset, and the metres short, 0 where the end was reached
abbrev pub case_of : Advance → ℕ
case_of (Reached p) = 0
case_of (DeadEnd p short) = 1

abbrev pub position_of : Advance → LanePosition
position_of (Reached p) = p
position_of (DeadEnd p short) = p

abbrev pub short_of : Advance → Float
short_of (Reached p) = zero64
short_of (DeadEnd p short) = short

-- by what places are told apart
unfoldable pub placing_of : Advance → Placing
placing_of a =
    record {
      case = case_of a;
      lane = (position_of a).lane.0;
      s = millimetres (position_of a).s;
      offset = millimetres (position_of a).offset;
      short = millimetres (short_of a);
    }

abbrev pub same_placing : Placing → Placing → Bool
same_placing a b =
    eqb a.case b.case
    && (eqb a.lane b.lane && (eqb a.s b.s && (eqb a.offset b.offset && eqb a.short b.short)))

-- the places given, and the keys they are told apart by
pub record Found : Type 0 where
  pub placed : List Placing
  pub out : List Advance

-- the lane's arc length after as many of the metres left as the lane has
unfoldable pub end_arc : Branch → Float → Float
end_arc b room =
    let moved = narrow_of (min_of b.remaining room) in
    cond b.up (add binary32 b.arc moved) (sub binary32 b.arc moved)

abbrev pub pick_advance : Bool → Advance → Advance → Advance
pick_advance b x y = cond b x y

-- `on_centerline`: the lane position where a branch on a lane with a place ends; the offset is toward the left of the road again
unfoldable pub end_position : List ℕ → List Float → List ℕ → List ℕ → List Float → List ℕ → Bool → Branch → Float → LanePosition
end_position lanes points fans sections stations places ahead b room =
    let section = placed_section places (place_of fans b.lane) in
    record {
      lane = record { 0 = lane_number lanes b.lane };
      s = station_of (points_of lanes points b.lane) (stations_of sections stations section) (end_arc b room);
      offset = mul binary64 b.left (side_of ahead b.up);
    }

-- metres left equal to the lane's stay on it
unfoldable pub end_of : Float → Float → LanePosition → Advance
end_of remaining room at = pick_advance (lt room remaining) (DeadEnd at (sub binary64 remaining room)) (Reached at)

abbrev pub pick_found : Bool → Found → Found → Found
pick_found b x y = cond b x y

-- a place is given once
unfoldable pub give : Advance → Found → Found
give a g = pick_found (holds same_placing (placing_of a) g.placed) g (record { placed = placing_of a ∷ g.placed; out = a ∷ g.out })

-- a lane without a place gives none
unfoldable pub place : List ℕ → List Float → List ℕ → List ℕ → List Float → List ℕ → ℕ → Bool → Branch → Float → Found → Found
place lanes points fans sections stations places m ahead b room g =
    let at = end_position lanes points fans sections stations places ahead b room in
    pick_found (ltb (place_of fans b.lane) m) (give (end_of b.remaining room at) g) g

-- `place` in the tables of a plan
abbrev pub place_in : Tables → Bool → Branch → Float → Found → Found
place_in t ahead b room g = place t.lanes t.points t.fans t.sections t.stations t.places t.place_count ahead b room g
