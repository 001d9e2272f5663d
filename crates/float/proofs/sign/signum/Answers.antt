-- Case by case as the definition.
use Rattle.std.proofs.Common.{true, false, sym, ◌∙◌}
use lib.Ieee.{of_bits, neg}
use Rattle.float.specs.Sign.{signum_of}
use Rattle.float.proofs.Nans.{own_nan, no_nan}
use Rattle.float.proofs.Signs.{signum_nan, signum_is}
use Rattle.float.proofs.sign.signum.Goals as goal

pub returns-then-x : goal.returns-then-x
returns-then-x c = own_nan signum_of signum_nan _ c.if-x.true

pub returns-then-is_sign_negative : goal.returns-then-is_sign_negative
unfolding of_bits neg
returns-then-is_sign_negative c = signum_is _ true (no_nan _ c.if-x.false) (sym c.is_sign_negative.ensures ∙ c.if-is_sign_negative.true)

pub returns : goal.returns
unfolding of_bits
returns c = signum_is _ false (no_nan _ c.if-x.false) (sym c.is_sign_negative.ensures ∙ c.if-is_sign_negative.false)
