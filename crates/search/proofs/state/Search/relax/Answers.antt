-- `relax` is `relaxed`: the test reads the entry that the definition reads, since `next` is below 256.
use Rattle.std.proofs.Common.{◌≡◌, ◌∙◌, ap, true, false, get_or, arith}
use Rattle.std.specs.Float.{inf}
use Rattle.std.specs.Float.Ieee.{lt, nan}
use Rattle.plan_format.specs.Laws.{get_d_any}
use Rattle.search.specs.Search.{relaxed}
use Rattle.search.proofs.state.Search.relax.Goals as goal

pub returns-then-nd-self : goal.returns-then-nd-self
unfolding relaxed
returns-then-nd-self c =
    let a = c.args in
    let s = a.self.now in
    let e = get_d_any s.dist a.next (inf false) nan (omega (arith, s.dists)) in
    let t : lt a.nd (get_or s.dist a.next (inf false)) ≡ true = ap (lt a.nd) e ∙ c.if-nd-self.true in rw t

pub returns-else-nd-self : goal.returns-else-nd-self
unfolding relaxed
returns-else-nd-self c =
    let a = c.args in
    let s = a.self.now in
    let e = get_d_any s.dist a.next (inf false) nan (omega (arith, s.dists)) in
    let t : lt a.nd (get_or s.dist a.next (inf false)) ≡ false = ap (lt a.nd) e ∙ c.if-nd-self.false in rw t
