-- The nearest whole number to the root of n, for the square n * 4 ^ k, is the root's digits, and k its exponent.
use Rattle.std.proofs.Common.{◌-◌, ◌/◌, ◌≤◌, ◌∙◌, arith}
use Rattle.float.proofs.RootPatterns.{root_of_bits, in_range_law}
use Rattle.float.proofs.root.root_bits.Goals as goal

pub returns : goal.returns
returns c =
    let a = c.parts-p.result.power in
    let sq = c.square.ensures in
    let R = c.nearest_root-r.ensures in
    let range = c.parts-p.result.range in
    let few : (a - 23) / 2 ≤ 189 = omega arith in (
      in_range_law ((a - 23) / 2) c.nearest_root-r.result R.least R.most few,
      root_of_bits _
          c.square.result ((a - 23) / 2) c.nearest_root-r.result c.requires.nonzero
          c.requires.finite (sq.same ∙ c.parts-p.ensures) sq.wide R few,
    )
