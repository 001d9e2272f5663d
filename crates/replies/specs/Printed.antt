-- What `plan-run` prints of a file (document 01, "Program plan-run"): its plan line, then the reply to each query in file order; of a refused file
-- its plan line only. Whole, and as the pieces that the program writes one after the other. Definitions only.
use Rattle.std.specs.Prelude.{Bool, cond, false, true, Option, None, Some, List, [], ◌++◌, ◌∷◌, ◌≡◌, ℕ, ◌≤◌, Float, length, replicate}
use Rattle.std.specs.Float.{binary32, binary64}
use Rattle.std.specs.Float.Ieee.{of_bits}
use Rattle.advance.specs.Advance.{Answer}
use Rattle.advance.specs.InPlan.{advance_of}
use Rattle.beside.specs.InPlan.{beside_of}
use Rattle.beside.specs.declared.BesideAnswer.{BesideAnswer}
use Rattle.calling.specs.Calling.{point}
use Rattle.lanes_advance.specs.Advance.{position}
use Rattle.lanes_beside.specs.Beside.{centerline}
use Rattle.lanes_route.specs.Route.{RouteLists, route_of}
use Rattle.plan_format.specs.Plan.{Decoded, accepted, decode, refused}
use Rattle.plan_format.specs.Queries.{next_query}
use Rattle.plan_format.specs.declared.Query.{Query}
use Rattle.plan_format.specs.declared.Query.TheVariants.{Advance, Beside, Route}
use Rattle.text.specs.Lines.{advance_text, beside_text, plan_line, route_text}
use Rattle.arrayvec.specs.ArrayVec.{ArrayVec}

-- ---- the text of an answer

abbrev pub route_text_of : RouteLists → List ℕ
route_text_of r = route_text r.answer.number r.answer.lanes r.answer.points r.answer.length r.chain r.waypoints

abbrev pub advance_text_of : Answer → List ℕ
advance_text_of a = advance_text a.advanced.number a.advanced.keys a.advanced.positions a.rows a.metres

abbrev pub beside_text_of : BesideAnswer → List ℕ
beside_text_of b = beside_text b.number b.at.lane.0 b.at.s b.at.offset

-- ---- the reply to a query of the file f

-- the lists that the program lends, of 257 chain lanes, 4,096 points and 256 positions
abbrev pub chain_list : List ℕ
chain_list = replicate 257 0

abbrev pub waypoint_list : List Float
waypoint_list = replicate 12288 (of_bits binary32 0)

abbrev pub row_list : List ℕ
row_list = replicate 512 0

abbrev pub metre_list : List Float
metre_list = replicate 768 (of_bits binary64 0)

unfoldable pub reply_to : List ℕ → Query → List ℕ
reply_to f (Route x y z u v w) = route_text_of (route_of (decode 0 f) (point x y z) (point u v w) chain_list waypoint_list)
reply_to f (Advance lane s offset distance) = advance_text_of (advance_of (decode 0 f) (position lane s offset) distance row_list metre_list)
reply_to f (Beside lane s side) = beside_text_of (beside_of (decode side f) (centerline lane s) side)

-- ---- THE WHOLE TEXT

unfoldable pub replies_to : List ℕ → List Query → List ℕ
replies_to f [] = []
replies_to f (q ∷ qs) = reply_to f q ++ replies_to f qs

unfoldable pub printed_by : List ℕ → Decoded → List ℕ
printed_by f (refused n) = plan_line n 0 0
printed_by f (accepted p) = plan_line 0 (length p.lanes) (length p.links) ++ replies_to f p.queries

abbrev pub printed : List ℕ → List ℕ
printed f = printed_by f (decode 0 f)

-- ---- piece by piece

-- a piece of the text, whether more follow, and from which place in the file on
pub record Part : Type 0 where
  pub text : List ℕ
  pub more : Bool
  pub next : ℕ

unfoldable pub first_by : Decoded → Part
first_by (refused n) = record { text = plan_line n 0 0; more = false; next = 0 }
first_by (accepted p) = record { text = plan_line 0 (length p.lanes) (length p.links); more = true; next = 0 }

-- the plan line; queries follow where the file is a plan
abbrev pub first_part : List ℕ → Part
first_part f = first_by (decode 0 f)

unfoldable pub next_by : List ℕ → ℕ → Option (Query × ℕ) → Part
next_by f at (Some (q, next)) = record { text = reply_to f q; more = true; next = next }
next_by f at None = record { text = []; more = false; next = at }

-- the reply to the first query from `at` on; nothing where there is none
abbrev pub next_part : List ℕ → ℕ → Part
next_part f at = next_by f at (next_query f at)

-- a page has room for every piece where it holds 78 bytes, 26 for each of 257 chain lanes and 33 for each of 4,096 points
abbrev pub room : ℕ
room = 141928

-- from which place in the file on the pieces after x follow, where there are any
abbrev pub after : Part → Option ℕ
after x = cond x.more (Some x.next) None

-- the page has the text of the piece x alone, and `next` is where those after it follow
pub record Writes (x : Part) (next : Option ℕ) (page : ArrayVec ℕ) : Type 0 where
  pub text : page.items ≡ x.text
  pub few : length page.items ≤ room
  pub goes_on : next ≡ after x
