-- From the last link to the first: each is put in front of its chain.
use Rattle.std.proofs.Common.{◌≡◌, map, drop, length}
use Rattle.plan_links.specs.Chains.{Chains, heads, link_key}
use Rattle.plan_links.proofs.Links.new.Given as goal

abbrev pub invariant-loop-j : goal.invariant-loop-j
invariant-loop-j l =
    (length l.first ≡ 768) × (length l.next ≡ 2048)
    × Chains (length l.starts) (heads l.first) (heads l.next) (map (link_key l.file l.index) (drop l.j l.starts)) l.j
