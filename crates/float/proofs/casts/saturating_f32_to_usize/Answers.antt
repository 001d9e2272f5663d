-- From 2 ^ 64 on the largest, down to -1 and at a NaN 0, between them the truncating cast.
use Rattle.std.proofs.Common.{T, sym, subst}
use lib.Ieee.{Float, lt}
use Rattle.float.proofs.Saturation.{two64, minus_one, most_unsigned, under, above_no_nan, least_unsigned}
use Rattle.float.proofs.casts.saturating_f32_to_usize.Goals as goal

pub returns-then-x : goal.returns-then-x
returns-then-x c = most_unsigned _ _ two64 c.if-x.true

pub truncating_f32_to_u64-requires : goal.truncating_f32_to_u64-requires
truncating_f32_to_u64-requires c = let x = c.args.x in record {
  lower_bound = subst (λ (z : Float). T (lt z x)) minus_one (subst T (sym c.if-x-2.true) tt);
  upper_bound = under 64 _ x two64 c.if-x.false
      (above_no_nan _ x c.if-x-2.true);
}

pub returns : goal.returns
returns c = least_unsigned _ _ minus_one c.if-x-2.false
