-- Below 2 ^ 52 the size goes to the nearest, and the sign is put back; from there on x is whole.
use Rattle.std.proofs.Common.{sym, ◌∙◌}
use lib.Ieee.{binary64}
use Rattle.float.specs.Whole.{half_by, round_of}
use Rattle.float.proofs.Quotients.{half_one}
use Rattle.float.proofs.Wholes.{small_abs, plus_whole, minus_whole, own_whole, large_abs, limit64}
use Rattle.float.proofs.whole.round.Goals as goal

pub half_up-requires : goal.half_up-requires
half_up-requires c = small_abs 52 _ _ _ c.abs-a.ensures limit64 c.if-a.true

pub returns-then-is_sign_negative : goal.returns-then-is_sign_negative
unfolding round_of
returns-then-is_sign_negative c =
    minus_whole binary64 half_by half_by 52 _ _ _ _ c.abs-a.ensures limit64 c.if-a.true
    (sym c.is_sign_negative.ensures ∙ c.if-is_sign_negative.true) c.half_up.ensures

pub half_up-requires-then-a : goal.half_up-requires-then-a
half_up-requires-then-a c = small_abs 52 _ _ _ c.abs-a.ensures limit64 c.if-a.true

pub returns-then-a : goal.returns-then-a
unfolding round_of
returns-then-a c =
    plus_whole binary64 half_by half_by 52 _ _ _ _ c.abs-a.ensures limit64 c.if-a.true
    (sym c.is_sign_negative.ensures ∙ c.if-is_sign_negative.false) c.half_up-then-a.ensures

pub returns : goal.returns
unfolding round_of
returns c =
    own_whole binary64 half_by half_by half_one half_one _ c.well_formed.0.1
    (large_abs _ _ _ _ c.abs-a.ensures limit64 c.if-a.false)
