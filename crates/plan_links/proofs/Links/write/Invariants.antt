-- What is left of the chain makes of the table now what the whole makes of the first (Writing).
use Rattle.std.proofs.Common.{◌-◌, length}
use Rattle.plan_links.specs.Chains.{Writing, head, heads, links_of}
use Rattle.plan_links.proofs.Links.write.Given as goal

abbrev pub invariant-loop-link : goal.invariant-loop-link
invariant-loop-link l =
    Writing l.self.file.now l.self.index.now l.self.starts.now (heads l.self.next.now) l.start
    (links_of l.self.file.now l.self.index.now l.self.starts.now l.q)
    l.initial.out l.out (head l.link) l.n

abbrev pub decreases-loop-link : goal.decreases-loop-link
decreases-loop-link l = length (links_of l.self.file.now l.self.index.now l.self.starts.now l.q) - l.n
