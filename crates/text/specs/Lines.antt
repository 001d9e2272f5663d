-- The printed lines of document 01: a word, its fields, each after one space, and a line feed. Definitions only.
use Rattle.std.specs.Prelude.{cond, List, [], ◌++◌, ◌∷◌, suc, zero, ℕ, ◌*◌, ◌+◌, eqb, Float, get_or}
use Rattle.std.specs.Float.{nan}
use Rattle.text.specs.Bytes.{bytes}
use Rattle.text.specs.Numerals.{decimal_of, double_of, single_of}

-- ---- fields

unfoldable pub newline : List ℕ
newline = 10 ∷ []

unfoldable pub number_field : ℕ → List ℕ
number_field n = 32 ∷ decimal_of n

unfoldable pub single_field : Float → List ℕ
single_field x = 32 ∷ single_of x

unfoldable pub double_field : Float → List ℕ
double_field x = 32 ∷ double_of x

-- a field for each number, and the end of the line
abbrev pub number_fields : List ℕ → List ℕ
number_fields [] = newline
number_fields (n ∷ ns) = number_field n ++ number_fields ns

-- ---- lines

unfoldable pub plan_line : ℕ → ℕ → ℕ → List ℕ
plan_line number lanes links = bytes "plan" ++ number_field number ++ number_field lanes ++ number_field links ++ newline

unfoldable pub route_line : ℕ → ℕ → ℕ → Float → List ℕ
route_line number chain points len =
    bytes "route" ++ number_field number ++ number_field chain ++ number_field points ++ single_field len ++ newline

unfoldable pub lane_line : ℕ → List ℕ
lane_line n = bytes "lane" ++ number_field n ++ newline

unfoldable pub point_line : Float → Float → Float → List ℕ
point_line x y z = bytes "point" ++ single_field x ++ single_field y ++ single_field z ++ newline

unfoldable pub advance_line : ℕ → ℕ → ℕ → List ℕ
advance_line number keys positions = bytes "advance" ++ number_field number ++ number_field keys ++ number_field positions ++ newline

unfoldable pub at_line : ℕ → Float → Float → List ℕ
at_line n s offset = bytes "at" ++ number_field n ++ double_field s ++ double_field offset ++ newline

unfoldable pub end_line : ℕ → Float → Float → Float → List ℕ
end_line n s offset short = bytes "end" ++ number_field n ++ double_field s ++ double_field offset ++ double_field short ++ newline

unfoldable pub beside_line : ℕ → List ℕ
beside_line number = bytes "beside" ++ number_field number ++ newline

-- ---- lists, a line for each of the first k entries

unfoldable pub lane_lines : List ℕ → ℕ → List ℕ
lane_lines ns zero = []
lane_lines ns (suc k) = lane_lines ns k ++ lane_line (get_or ns k 0)

-- a point is x, y, z
unfoldable pub point_lines : List Float → ℕ → List ℕ
point_lines xs zero = []
point_lines xs (suc k) = point_lines xs k ++ point_line (get_or xs (3 * k) nan) (get_or xs (3 * k + 1) nan) (get_or xs (3 * k + 2) nan)

-- reached where the case is 0, a dead end otherwise
unfoldable pub position_line : ℕ → ℕ → Float → Float → Float → List ℕ
position_line case n s offset short = cond (eqb case 0) (at_line n s offset) (end_line n s offset short)

-- a position is case and lane; s, offset and metres short
unfoldable pub position_lines : List ℕ → List Float → ℕ → List ℕ
position_lines rows metres zero = []
position_lines rows metres (suc k) =
    position_lines rows metres k
    ++ position_line (get_or rows (2 * k) 0) (get_or rows (2 * k + 1) 0) (get_or metres (3 * k) nan) (get_or metres (3 * k + 1) nan)
    (get_or metres (3 * k + 2) nan)

-- ---- the text of an answer

unfoldable pub route_text : ℕ → ℕ → ℕ → Float → List ℕ → List Float → List ℕ
route_text number chain points len ns xs = route_line number chain points len ++ lane_lines ns chain ++ point_lines xs points

unfoldable pub advance_text : ℕ → ℕ → ℕ → List ℕ → List Float → List ℕ
advance_text number keys positions rows metres = advance_line number keys positions ++ position_lines rows metres positions

unfoldable pub beside_text : ℕ → ℕ → Float → Float → List ℕ
beside_text number n s offset = beside_line number ++ at_line n s offset
