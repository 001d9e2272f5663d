-- A call that opens the plan and then answers from the tables keeps its promise: laws for every call, by what it answers to a decoded file.
use Rattle.std.specs.Prelude.{List, ◌≡◌, ℕ, Float}
use Rattle.std.proofs.Common.{ap, sym, ◌∙◌}
use Rattle.coords.specs.declared.Point.{Point}
use Rattle.plan_format.specs.Laws.{Bytes}
use Rattle.plan_format.specs.Plan.{Decoded, accepted, refused}
use Rattle.plan_format.specs.Reading.{opened}
use Rattle.plan_format.specs.declared.Read.{Read}
use Rattle.tables.specs.LaneTables.{Calls, LaneTables, Opens, too_short}
use Rattle.tables.specs.Opening.{found, has_none}

module _ {R : Type 0} (answer_of : Decoded → R) (side : ℕ) (s : List ℕ) (B : Bytes s) (r : Read) (t t' : LaneTables)
    (O : Opens (opened (too_short t) side s) r t t') (a : R) where
  pub calls_refused : (r.number ≡ 0 → ⊥) → a ≡ answer_of (refused r.number) → Calls answer_of side s a t t'
  calls_refused z e = record { answer_is = e ∙ sym (ap answer_of (has_none (too_short t) side s B r O.read z)); tables = O.tables }

  pub calls_accepted : (z : r.number ≡ 0) → a ≡ answer_of (accepted (found side s B r t t' O z).plan)
      → Calls answer_of side s a t t'
  calls_accepted z e = record { answer_is = e ∙ sym (ap answer_of (found side s B r t t' O z).is); tables = O.tables }

-- the point of three coordinates that a caller gives
abbrev pub point : Float → Float → Float → Point
point x y z = record { x = x; y = y; z = z }
