-- Each turn writes the links of the next lane, role by role, and its fan; k counts the links of the lanes before.
use Rattle.std.proofs.Common.{◌≡◌, ℕ, map, ◌*◌, drop}
use Rattle.lists.specs.Filling.{Filling}
use Rattle.plan_links.specs.Chains.{link_key, tally}
use Rattle.plan_links.specs.Groups.{fans_in, groups_in}
use Rattle.plan_links.proofs.Links.group.Given as goal

abbrev pub invariant-loop-i : goal.invariant-loop-i
invariant-loop-i l =
    let s = l.self.file.now in
    let m = l.self.index.now in
    let links = l.self.starts.now in
    (l.k ≡ tally (3 * l.i) (map (link_key s m) links))
    × Filling ℕ l.initial.out l.out (2 * l.k) (groups_in s m links l.i (drop l.i l.lanes)) (groups_in s m links 0 l.lanes)
    × Filling ℕ l.initial.fans l.fans (5 * l.i) (fans_in s m links l.placed l.i (drop l.i l.lanes) l.k) (fans_in s m links l.placed 0 l.lanes 0)
