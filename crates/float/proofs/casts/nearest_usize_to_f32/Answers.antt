-- Below 2 ^ 32 it is std's; from there on 24 of 64 digits are kept, and the pattern is one of Narrowing.
use Rattle.std.proofs.Common.{ℕ, ◌+◌, ◌-◌, ◌*◌, ◌≤◌, sym, ap, ◌∙◌, subst, arith}
use lib.Count.{count_leading_zeros}
use lib.Ieee.{binary32, of_bits}
use Rattle.float.proofs.Nans.{no_nan_below}
use Rattle.float.proofs.Narrowing.{whole_most, whole_pattern}
use Rattle.float.proofs.casts.nearest_usize_to_f32.Goals as goal

most : (c : goal.After-nearest_quotient-kept) → c.nearest_quotient-kept.result ≤ 16777216
most c =
    subst (λ (x : ℕ). x ≤ 16777216) (sym c.nearest_quotient-kept.ensures)
    (whole_most c.args.n (omega arith) (omega arith))

pub float_from_bits-result : goal.float_from_bits-result
float_from_bits-result c =
    let l = most c in
    no_nan_below binary32 ((189 - count_leading_zeros 64 c.args.n) * 8388608 + c.nearest_quotient-kept.result) (omega arith)

pub returns : goal.returns
returns c =
    ap (λ (x : ℕ). of_bits binary32 ((189 - count_leading_zeros 64 c.args.n) * 8388608 + x)) c.nearest_quotient-kept.ensures
    ∙ whole_pattern c.args.n (omega arith) (omega arith)
