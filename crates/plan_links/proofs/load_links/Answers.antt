-- The chains hold the links by key; what is written by keys is what the definition has (Linked).
use Rattle.std.proofs.Common.{ℕ, List, ◌∙◌, ap, refl, sym, arith}
use Rattle.plan_format.specs.Laws.{Bytes}
use Rattle.plan_format.specs.Tables.{over}
use Rattle.plan_links.specs.Linked.{all_fans, all_groups, keyed}
use Rattle.plan_links.proofs.load_links.Goals as goal

pub new-requires : goal.new-requires
new-requires c =
    let a = c.args in
    let bytes : Bytes a.file.now = (λ i. omega (arith, c.type_inv.file i)) in
    let L = c.requires.0 in
    (L.link, L.links, L.role, keyed a.file.now a.ls.now a.ks.now a.ps.now a.index.now bytes L, L.index.size, refl, refl)

pub returns : goal.returns
returns c =
    let a = c.args in
    let bytes : Bytes a.file.now = (λ i. omega (arith, c.type_inv.file i)) in
    let groups = all_groups a.file.now a.ls.now a.ks.now a.ps.now a.index.now bytes c.requires.0 in
    let fans = all_fans a.file.now a.ls.now a.ks.now a.ps.now a.index.now bytes c.requires.0 _ c.index_numbers.ensures in
    let written = rw (c.new.ensures.0, c.new.ensures.1, c.new.ensures.2) at c.group.ensures in (
      written.0 ∙ ap (λ (r : List ℕ). over r a.links.now) (sym groups),
      written.1 ∙ ap (λ (r : List ℕ). over r a.fans.now) (sym fans),
    )
