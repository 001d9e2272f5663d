-- Rounded, cast, and its bits.
use Rattle.std.proofs.Common.{ap, ◌∙◌, ℤ, of_z}
use Rattle.std.specs.Float.Ieee.{to_signed}
use Rattle.std.specs.Int.{w64}
use Rattle.std.proofs.lemmas.Int.{to_z-of_z}
use borrow.Author.Rules.{sfits_of}
use Rattle.branches.specs.Branches.{millimetres}
use Rattle.branches.proofs.millimetres.Goals as goal

pub returns : goal.returns
unfolding millimetres
returns c =
    c.cast_unsigned.ensures ∙ ap (λ (z : ℤ). of_z w64 z)
    (to_z-of_z w64 _ (sfits_of c.saturating_f64_to_i64.type_inv) ∙ c.saturating_f64_to_i64.ensures ∙ ap (to_signed 63) c.round.ensures)
