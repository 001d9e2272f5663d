-- The size is narrowed, and the sign put back.
use Rattle.std.proofs.Common.{◌≡◌, true, false, sym, ap, ◌∙◌, arith}
use lib.Ieee.{binary32, binary64, neg, of_bits}
use Rattle.float.specs.Sign.{abs_of}
use Rattle.float.specs.Narrow.{narrow_of}
use Rattle.float.proofs.Nans.{nan_by, no_nan, no_nan_below, number_below, zero_over_zero}
use Rattle.float.proofs.Signs.{abs_of_bits, abs_no_nan_bits, with_sign}
use Rattle.float.proofs.Narrowing.{narrow_nan, narrow_neg}
use Rattle.float.proofs.casts.nearest_f64_to_f32.Goals as goal

-- what was narrowed is |x|
size : (c : goal.After-narrowed-y) → of_bits binary32 c.narrowed-y.result ≡ narrow_of (abs_of c.args.x)
size c = c.narrowed-y.ensures.same ∙ ap narrow_of (abs_of_bits binary64 _ c.well_formed.0.1 (no_nan _ c.if-x.false))

pub returns-then-x : goal.returns-then-x
returns-then-x c = zero_over_zero binary32 ∙ sym (ap narrow_of (nan_by _ c.if-x.true) ∙ narrow_nan)

pub float_to_bits-x : goal.float_to_bits-x
float_to_bits-x c = no_nan _ c.if-x.false

pub narrowed-y-requires : goal.narrowed-y-requires
narrowed-y-requires c = number_below binary64 _ (abs_no_nan_bits binary64 _ c.well_formed.0.1 (no_nan _ c.if-x.false))

pub float_from_bits-y : goal.float_from_bits-y
float_from_bits-y c = no_nan_below binary32 c.narrowed-y.result (omega arith)

pub returns-then-is_sign_negative : goal.returns-then-is_sign_negative
returns-then-is_sign_negative c =
    ap neg (size c.before.before) ∙ narrow_neg (abs_of _)
    ∙ ap narrow_of (sym (with_sign _ true (sym c.is_sign_negative.ensures ∙ c.if-is_sign_negative.true)))

pub returns : goal.returns
returns c = size c.before.before ∙ ap narrow_of (sym (with_sign _ false (sym c.is_sign_negative.ensures ∙ c.if-is_sign_negative.false)))
