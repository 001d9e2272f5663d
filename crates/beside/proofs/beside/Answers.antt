-- Every number but 0 stands for the right.
use Rattle.std.proofs.Common.{◌∙◌}
use Rattle.beside.specs.BesideLaws.{beside_at}
use Rattle.beside.proofs.beside.Goals as goal

pub returns-in-Right : goal.returns-in-Right
returns-in-Right c =
    c.right_of.ensures ∙ beside_at _ _ _ _ _ _ _ c.args.side _ c.in-Right.ensures
