-- What reading a plan answers, and what it leaves in the lent tables, for every file and all tables.
use Rattle.std.specs.Prelude.{Bool, cond, ◌||◌, List, [], map, ◌∷◌, ◌≡◌, ℕ, ◌*◌, ◌+◌, ltb, length}
use Rattle.plan_format.specs.Plan.{Decoded, Plan, accepted, decode, lane_count, refused, section_count}
use Rattle.plan_format.specs.Tables.{Tables, loaded}
use Rattle.plan_format.specs.declared.Counts.{Counts}
use Rattle.plan_format.specs.declared.Read.{Read}

-- NUMBER 1: a table is shorter than its limit, rows times entries a row
unfoldable pub short : Tables → Bool
short t =
    ltb (length t.lanes) (6 * 256)
    || (ltb (length t.points) (3 * 4096)
    || (ltb (length t.ends) (6 * 256)
    || (ltb (length t.fans) (5 * 256)
    || (ltb (length t.links) (2 * 2048)
    || (ltb (length t.sections) (4 * 64)
    || (ltb (length t.bounds) (2 * 64)
    || (ltb (length t.stations) 4096
    || ltb (length t.places) (3 * 256))))))))

-- what a file gives a caller, the Bool says whether a lent table is too short. (A call that lends further tables joins them by `||`.)
unfoldable pub opened : Bool → ℕ → List ℕ → Decoded
opened too_short side s = cond too_short (refused 1) (decode side s)

unfoldable pub sum : List ℕ → ℕ
sum [] = 0
sum (x ∷ xs) = x + sum xs

abbrev pub plan_counts : Plan → Counts
plan_counts p =
    record {
      lanes = length p.lanes;
      points = sum (map lane_count p.lanes);
      links = length p.links;
      sections = length p.sections;
      stations = sum (map section_count p.sections);
      places = length p.places;
    }

abbrev pub no_counts : Counts
no_counts = record { lanes = 0; points = 0; links = 0; sections = 0; stations = 0; places = 0 }

-- the answer
abbrev pub read_of : Decoded → Read
read_of (refused n) = record { number = n; counts = no_counts }
read_of (accepted p) = record { number = 0; counts = plan_counts p }

-- the tables after it, where they held `t`
abbrev pub tables_of : Decoded → Tables → Tables
tables_of (refused n) t = t
tables_of (accepted p) t = loaded p t

-- the whole promise: the answer r, and the tables t' on return
pub record Answers (d : Decoded) (r : Read) (t t' : Tables) : Type 0 where
  pub read : r ≡ read_of d
  pub tables : t' ≡ tables_of d t
