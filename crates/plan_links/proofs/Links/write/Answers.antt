-- What is left of the chain makes of the table now what the whole makes of the first (Writing).
use Rattle.std.proofs.Common.{◌<◌, arith, length}
use Rattle.std.proofs.lemmas.List.{length-map}
use Rattle.plan_links.specs.Chains.{head, links_of, link_in, link_last, link_next}
use Rattle.plan_links.proofs.Links.write.Goals.{In-Some}
use Rattle.plan_links.proofs.Links.write.Goals as goal

-- there is such a link, and one more row to write
link_there : (c : In-Some) → let a = c.args.self.now in
    (c.in-Some.j < length a.starts.now) × (c.loop-link.n < length (links_of a.file.now a.index.now a.starts.now c.args.q))
link_there c =
    let a = c.args.self.now in
    link_in a.file.now a.index.now a.starts.now a.next.now c.args.start (links_of a.file.now a.index.now a.starts.now c.args.q) c.args.out.now
    c.loop-link.out c.loop-link.link c.loop-link.n c.loop-link.invariant c.in-Some.j c.in-Some.is

pub bounds-self-j : goal.bounds-self-j
bounds-self-j c = (link_there (goal.at.bounds-self-j c).In-Some).0

pub u16_at-to-requires : goal.u16_at-to-requires
u16_at-to-requires c = let h = link_there (goal.at.u16_at-to-requires c).In-Some in omega (arith, c.args.self.now.chained.link c.in-Some.j h.0)

pub put_row-requires : goal.put_row-requires
put_row-requires c = let h = link_there (goal.at.put_row-requires c).In-Some in omega (arith, c.requires.1, c.requires.2, c.loop-link.auto.out, h.1)

pub bounds-self-j-in-Some : goal.bounds-self-j-in-Some
bounds-self-j-in-Some c =
    let a = c.args.self.now in
    let h = link_there (goal.at.bounds-self-j-in-Some c).In-Some in
    omega (arith, a.chained.next_size, length-map a.next.now head, h.0)

pub loop-link-smaller : goal.loop-link-smaller
loop-link-smaller c = let h = link_there (goal.at.loop-link-smaller c).In-Some in omega (arith, h.1)

pub loop-link-preserved : goal.loop-link-preserved
loop-link-preserved c =
    let a = c.args.self.now in
    link_next a.file.now a.index.now a.starts.now a.next.now c.args.start (links_of a.file.now a.index.now a.starts.now c.args.q) c.args.out.now
    c.loop-link.out c.loop-link.link c.loop-link.n c.loop-link.invariant c.in-Some.j c.in-Some.is c.u16_at-to.result c.put_row.new.out
    c.u16_at-to.ensures.0 c.put_row.ensures

pub returns : goal.returns
returns c =
    let a = c.args.self.now in
    link_last a.file.now a.index.now a.starts.now a.next.now c.args.start (links_of a.file.now a.index.now a.starts.now c.args.q) c.args.out.now
    c.loop-link.out c.loop-link.link c.loop-link.n c.loop-link.invariant c.in_default.is
