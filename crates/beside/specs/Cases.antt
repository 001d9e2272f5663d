-- Worked cases, by computation, past document 01's own, which `cases` has: the paper's lanes 1 (Backward), -1 and -2 of one section, here the
-- lanes 5, 6 and 7.
use Rattle.std.specs.Prelude.{◌≡◌, refl, List, [], ◌∷◌, ℕ, Float}
use Rattle.std.specs.Float.{binary32, binary64, nan}
use Rattle.std.specs.Float.Ieee.{le, of_bits}
use Rattle.plan_format.specs.Plan.{Plan, index_of}
use Rattle.plan_format.specs.Records.{Lane, Place}
use Rattle.beside.specs.declared.BesideAnswer.{BesideAnswer}
use Rattle.beside.specs.Beside.{zero64, refusal, center_of}
use Rattle.beside.specs.InPlan.{next_place, beside_in}

-- from (0,0,0) to (8,0,0)
abbrev line : List Float
line = of_bits binary32 0 ∷ of_bits binary32 0 ∷ of_bits binary32 0 ∷ of_bits binary32 0x41000000 ∷ of_bits binary32 0 ∷ of_bits binary32 0 ∷ []

abbrev lane : ℕ → ℕ → Lane
lane number direction = record { number = number; type = 1; direction = direction; ends = 0; count = 2; points = line; tangents = [] }

-- the OpenDRIVE number with 2^31 added
abbrev place : ℕ → ℕ → Place
place lane raised = record { lane = lane; road = 4; index = 0; raised = raised }

abbrev two : Float
two = of_bits binary64 0x4000000000000000

abbrev eight : Float
eight = of_bits binary64 0x4020000000000000

abbrev plan : Plan
plan = record {
  lanes = lane 5 1 ∷ lane 6 0 ∷ lane 7 0 ∷ [];
  links = [];
  sections = record { road = 4; index = 0; start = zero64; end = eight; count = 2; stations = zero64 ∷ eight ∷ [] } ∷ [];
  places = place 5 2147483649 ∷ place 6 2147483647 ∷ place 7 2147483646 ∷ [];
  queries = [];
}

-- with an offset that no answer keeps
abbrev answer : ℕ → Float → ℕ → BesideAnswer
answer lane s side = beside_in plan (record { lane = record { 0 = lane }; s = s; offset = two }) side

right_of_minus_two : answer 7 two 1 ≡ refusal 15
unfolding beside_in next_place index_of le of_bits
right_of_minus_two = refl

unknown_lane : answer 8 two 0 ≡ refusal 12
unfolding beside_in next_place index_of le of_bits
unknown_lane = refl

-- both ends of a section count, and a NaN lies in none
at_the_end : answer 6 eight 0 ≡ center_of 5 eight
unfolding beside_in next_place index_of le of_bits
at_the_end = refl

not_a_number : answer 6 nan 0 ≡ refusal 12
unfolding beside_in next_place index_of le of_bits
not_a_number = refl

next_after_the_end : answer 6 (of_bits binary64 0x4020000000000001) 0 ≡ refusal 12
unfolding beside_in next_place index_of le of_bits
next_after_the_end = refl

at_the_start : answer 6 zero64 0 ≡ center_of 5 zero64
unfolding beside_in next_place index_of le of_bits
at_the_start = refl

next_before_the_start : answer 6 (of_bits binary64 0x8000000000000001) 0 ≡ refusal 12
unfolding beside_in next_place index_of le of_bits
next_before_the_start = refl

-- lane 6, the one in the middle, in this direction
abbrev directed : ℕ → Plan
directed direction = record {
  lanes = lane 5 1 ∷ lane 6 direction ∷ lane 7 0 ∷ [];
  links = [];
  sections = record { road = 4; index = 0; start = zero64; end = eight; count = 2; stations = zero64 ∷ eight ∷ [] } ∷ [];
  places = place 5 2147483649 ∷ place 6 2147483647 ∷ place 7 2147483646 ∷ [];
  queries = [];
}

-- lane numbers fall from left to right; a Backward lane sees it reversed, Both is taken as Forward. Left, then right, of lane 6
abbrev middle : ℕ → ℕ → BesideAnswer
middle direction side = beside_in (directed direction) (record { lane = record { 0 = 6 }; s = two; offset = two }) side

forward : (middle 0 0 ≡ center_of 5 two) × (middle 0 1 ≡ center_of 7 two)
unfolding beside_in next_place index_of le of_bits
forward = (refl, refl)

backward : (middle 1 0 ≡ center_of 7 two) × (middle 1 1 ≡ center_of 5 two)
unfolding beside_in next_place index_of le of_bits
backward = (refl, refl)

both : (middle 2 0 ≡ center_of 5 two) × (middle 2 1 ≡ center_of 7 two)
unfolding beside_in next_place index_of le of_bits
both = (refl, refl)

-- all other fields of a refused answer are zero
zeros : (n : ℕ)
    → refusal n ≡ record { number = n; at = record { lane = record { 0 = 0 }; s = of_bits binary64 0; offset = of_bits binary64 0 } }
zeros n = refl
