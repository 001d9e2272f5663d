-- 24 or 23 digits are added, by the parity of the exponent.
use Rattle.std.proofs.Common.{◌-◌, ◌/◌, refl, arith}
use Rattle.float.proofs.Scaling.{regroup}
use Rattle.float.proofs.root.Normal.square.Goals as goal

pub returns-then-self-eq0 : goal.returns-then-self-eq0
returns-then-self-eq0 c =
    let a = c.args.self.power in
    record { same = regroup _ 16777216 24 ((a - 23) / 2) a refl (omega arith); wide = omega arith }

pub returns-else-self-eq0 : goal.returns-else-self-eq0
returns-else-self-eq0 c =
    let a = c.args.self.power in
    record { same = regroup _ 8388608 23 ((a - 23) / 2) a refl (omega arith); wide = omega arith }
