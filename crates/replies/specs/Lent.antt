-- The program's tables are as long as the limits ask, so that a call answers by the file alone.
use Rattle.std.specs.Prelude.{false, List, refl, ◌≡◌, ℕ, replicate}
use Rattle.std.proofs.Common.{ap, ◌∙◌}
use Rattle.std.specs.Float.{binary32, binary64}
use Rattle.std.specs.Float.Ieee.{of_bits}
use Rattle.plan_format.specs.Plan.{Decoded, decode}
use Rattle.plan_format.specs.Reading.{opened, short}
use Rattle.replies.specs.declared.Tables.{Tables}
use Rattle.tables.specs.LaneTables.{Calls, LaneTables, lane_tables, too_short}

abbrev pub lent : LaneTables
lent =
    lane_tables (replicate 1536 0) (replicate 12288 (of_bits binary32 0)) (replicate 1536 (of_bits binary32 0)) (replicate 1280 0)
    (replicate 4096 0) (replicate 256 0) (replicate 128 (of_bits binary64 0)) (replicate 4096 (of_bits binary64 0)) (replicate 768 0)
    (replicate 4096 (of_bits binary32 0)) (replicate 12288 (of_bits binary32 0))

-- the program's tables, as a call takes them
abbrev pub lent_from : Tables → LaneTables
lent_from t = lane_tables t.lanes t.points t.ends t.fans t.links t.sections t.bounds t.stations t.places t.cumulative t.tangents

long : too_short lent ≡ false
unfolding too_short short
long = refl

pub from_lent : {R : Type 0} {answer : Decoded → R} {side : ℕ} {f : List ℕ} {r : R} {t t' : LaneTables} → t ≡ lent → Calls answer side f r t t'
    → r ≡ answer (decode side f)
unfolding opened
from_lent {R} {answer} {side} {f} {r} {t} e C = C.answer_is ∙ ap answer (rw (e, long))
