-- The number that an answer gives for each refusal.
use Rattle.std.specs.Prelude.{ℕ, ◌≡◌, refl, Option, None, Some, Result, Ok, Err}
use Rattle.std.proofs.Common.{arith}
use Rattle.std.specs.Option.{ok_or}
use Rattle.plan_format.specs.Reading.{no_counts}
use Rattle.plan_format.specs.declared.Counts.{Counts}
use Rattle.plan_format.specs.declared.Read.{Read}
use Rattle.plan_format.specs.declared.Refusal.{Refusal}
use Rattle.plan_format.specs.declared.Refusal.TheVariants.{ShortTable, LongFile, CutRecord, WrongRecord, OutOfRange, PastLimit, StandsTwice, Missing}
use Rattle.plan_format.specs.declared.Refusal.TheVariants.{NotAPoint, NoneDrives, NoWay, NotOnALane, NotADistance, TooMuch, NoneBeside}

abbrev pub number_of : Refusal → ℕ
number_of ShortTable = 1
number_of LongFile = 2
number_of CutRecord = 3
number_of WrongRecord = 4
number_of OutOfRange = 5
number_of PastLimit = 6
number_of StandsTwice = 7
number_of Missing = 8
number_of NotAPoint = 9
number_of NoneDrives = 10
number_of NoWay = 11
number_of NotOnALane = 12
number_of NotADistance = 13
number_of TooMuch = 14
number_of NoneBeside = 15

-- the number of a test: 0 where it finds nothing to refuse
abbrev pub found_number : {A : Type 0} → Result A Refusal → ℕ
found_number (Ok x) = 0
found_number (Err e) = number_of e

-- the answer that C gets: the number, and the counts
abbrev pub read_by : Result Counts Refusal → Read
read_by (Ok c) = record { number = 0; counts = c }
read_by (Err e) = record { number = number_of e; counts = no_counts }

pub refusal_number : (e : Refusal) → number_of e ≡ 0 → ⊥
refusal_number ShortTable h = omega arith
refusal_number LongFile h = omega arith
refusal_number CutRecord h = omega arith
refusal_number WrongRecord h = omega arith
refusal_number OutOfRange h = omega arith
refusal_number PastLimit h = omega arith
refusal_number StandsTwice h = omega arith
refusal_number Missing h = omega arith
refusal_number NotAPoint h = omega arith
refusal_number NoneDrives h = omega arith
refusal_number NoWay h = omega arith
refusal_number NotOnALane h = omega arith
refusal_number NotADistance h = omega arith
refusal_number TooMuch h = omega arith
refusal_number NoneBeside h = omega arith

-- where `ok_or` refuses there is none
pub ok_or_refused : {A : Type 0} (x : Option A) (e y : Refusal) → Err e ≡ ok_or x y → (x ≡ None) × (e ≡ y)
ok_or_refused None e y is = (refl, cc)
ok_or_refused (Some a) e y is = cc
