-- Below 2 ^ 23 the size goes up for a plus, down for a minus; from there on x is whole.
use Rattle.std.proofs.Common.{sym, ◌∙◌}
use lib.Ieee.{binary32}
use Rattle.float.specs.Whole.{down_by, up_by, ceil_of}
use Rattle.float.proofs.Quotients.{down_one, up_one}
use Rattle.float.proofs.Wholes.{small_abs, plus_whole, minus_whole, own_whole, large_abs, limit32}
use Rattle.float.proofs.whole.ceil.Goals as goal

pub invariant_of-size : goal.invariant_of-size
invariant_of-size c = record { small = small_abs 23 _ _ _ c.abs-a.ensures limit32 c.if-a.true }

pub returns-then-is_sign_negative : goal.returns-then-is_sign_negative
unfolding ceil_of
returns-then-is_sign_negative c =
    minus_whole binary32 up_by down_by 23 _ _ _ _ c.abs-a.ensures limit32 c.if-a.true
    (sym c.is_sign_negative.ensures ∙ c.if-is_sign_negative.true) c.down.ensures

pub invariant_of-size-then-a : goal.invariant_of-size-then-a
invariant_of-size-then-a c = record { small = small_abs 23 _ _ _ c.abs-a.ensures limit32 c.if-a.true }

pub returns-then-a : goal.returns-then-a
unfolding ceil_of
returns-then-a c =
    plus_whole binary32 up_by down_by 23 _ _ _ _ c.abs-a.ensures limit32 c.if-a.true
    (sym c.is_sign_negative.ensures ∙ c.if-is_sign_negative.false) c.up.ensures

pub returns : goal.returns
unfolding ceil_of
returns c =
    own_whole binary32 up_by down_by up_one down_one _ c.well_formed.0.1
    (large_abs _ _ _ _ c.abs-a.ensures limit32 c.if-a.false)
