-- From 2 ^ 63 on the largest, below -2 ^ 63 the least, between them the truncating cast.
use Rattle.std.proofs.Common.{T, sym, subst}
use lib.Ieee.{Float, le}
use Rattle.float.proofs.Nans.{nan_by, no_nan}
use Rattle.float.proofs.Saturation.{two63, minus_two63, most_signed, under, from_no_nan, signed_nan, least_signed}
use Rattle.float.proofs.casts.saturating_f64_to_i64.Goals as goal

pub returns-then-x : goal.returns-then-x
returns-then-x c = most_signed _ _ two63 c.if-x.true

pub truncating_f64_to_i64-requires : goal.truncating_f64_to_i64-requires
truncating_f64_to_i64-requires c = let x = c.args.x in record {
  lower_bound = subst (λ (z : Float). T (le z x)) minus_two63 (subst T (sym c.if-x-2.true) tt);
  upper_bound = under 63 _ x two63 c.if-x.false
      (from_no_nan _ x c.if-x-2.true);
}

pub returns-then-x-3 : goal.returns-then-x-3
returns-then-x-3 c = signed_nan _ (nan_by _ c.if-x-3.true)

pub returns : goal.returns
returns c = least_signed _ _ minus_two63 c.if-x-2.false (no_nan _ c.if-x-3.false)
