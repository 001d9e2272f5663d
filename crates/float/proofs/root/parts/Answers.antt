-- A subnormal is scaled; any other pattern has its 24 digits.
use Rattle.std.proofs.Common.{ℕ, ◌+◌, ◌-◌, ◌*◌, ◌/◌, ◌%◌, ◌^◌, sym, ap, ◌∙◌, arith}
use lib.Ieee.{binary32}
use Rattle.exact.specs.Patterns.{units_small, units_large}
use Rattle.float.proofs.Scaling.{joined}
use Rattle.float.proofs.root.parts.Goals as goal

pub returns-then-b-lt8388608 : goal.returns-then-b-lt8388608
returns-then-b-lt8388608 c = c.scale.ensures ∙ ap (λ (x : ℕ). x * 2 ^ 149) (sym (units_small binary32 _ c.if-b-lt8388608.true))

pub returns : goal.returns
returns c =
    let b = c.args.b in
    joined (b % 8388608 + 8388608) (8388608 + b % 8388608) (b / 8388608 + 148) (b / 8388608 - 1) 149 _ (omega arith) (omega arith)
    (units_large binary32 b c.if-b-lt8388608.false)
