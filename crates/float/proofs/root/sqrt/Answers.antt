-- x is what its pattern stands for; each case is a fact of Patterns on the pattern.
use Rattle.std.proofs.Common.{◌%◌, ◌≤◌, sym, ap, ◌∙◌, arith}
use lib.Ieee.{binary32, to_bits}
use Rattle.float.specs.Root.{sqrt_of}
use Rattle.float.proofs.Nans.{own_nan, no_nan, no_nan_below, number_below, zero_over_zero}
use Rattle.float.proofs.Signs.{abs_no_nan_bits}
use Rattle.float.proofs.RootPatterns.{root_nan, infinity, zeros, negative, through, bounded}
use Rattle.float.proofs.root.sqrt.Goals as goal

-- the size of a number's pattern
most : (c : goal.Else-x) → to_bits binary32 c.args.x % 2147483648 ≤ 2139095040
most c = number_below binary32 (to_bits binary32 _) (abs_no_nan_bits binary32 _ c.well_formed.0.1 (no_nan _ c.if-x.false))

pub returns-then-x : goal.returns-then-x
returns-then-x c = own_nan sqrt_of root_nan _ c.if-x.true

pub float_to_bits-b : goal.float_to_bits-b
float_to_bits-b c = no_nan _ c.if-x.false

pub returns-then-b-eq2139095040 : goal.returns-then-b-eq2139095040
returns-then-b-eq2139095040 c = infinity _ c.well_formed.0.1 c.if-b-eq2139095040.true

pub returns-then-b-eq0 : goal.returns-then-b-eq0
returns-then-b-eq0 c = zeros _ c.well_formed.0.1 c.if-b-eq0.true

pub returns-then-b-gt2147483648 : goal.returns-then-b-gt2147483648
returns-then-b-gt2147483648 c =
    let x = c.args.x in
    let held = c.well_formed.0.1 in
    zero_over_zero binary32
    ∙ sym (ap sqrt_of (sym (through x held))
    ∙ negative (to_bits binary32 x) c.if-b-gt2147483648.true (bounded x held) (most c.before.before.before))

pub root_bits-requires : goal.root_bits-requires
root_bits-requires c = let l = most c.before.before.before in record { nonzero = omega arith; finite = omega arith }

pub float_from_bits-result : goal.float_from_bits-result
float_from_bits-result c = no_nan_below binary32 c.root_bits.result (omega arith)

pub returns : goal.returns
returns c = c.root_bits.ensures.1 ∙ ap sqrt_of (through _ c.well_formed.0.1)
