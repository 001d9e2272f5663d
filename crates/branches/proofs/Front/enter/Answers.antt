-- A 1,025th key marks the run as full, and any other that is new goes in with its branch.
use Rattle.std.specs.Prelude.{length, reverse}
use Rattle.std.proofs.Common.{arith, ap, ◌∙◌, sym}
use Rattle.std.proofs.lemmas.Bool.{eqb-true, eqb-false}
use Rattle.std.proofs.lemmas.List.{length-reverse}
use Rattle.branches.specs.Branches.{same_key}
use Rattle.branches.specs.BranchLaws.{enter_none, enter_new}
use Rattle.branches.specs.Held.{front_of}
use Rattle.branches.specs.HeldLaws.{pushed, holds_any}
use Rattle.branches.proofs.Front.enter.Goals as goal

pub returns-then-is_full : goal.returns-then-is_full
returns-then-is_full c =
    let f = c.args.self.now in
    let k = c.key_of-k.result in
    let held = c.holds.ensures ∙ sym (holds_any same_key k (reverse f.keys.items)) in
    let all = length-reverse f.keys.items in
    let is = eqb-true (length f.keys.items) 1024 (sym c.is_full.ensures.value ∙ c.if-is_full.true) in
    enter_none c.args.lanes.now.rows.now c.args.b (front_of f) k c.key_of-k.ensures c.holds.result held c.if-holds.false (omega arith)

pub returns : goal.returns
returns c =
    let f = c.args.self.now in
    let k = c.key_of-k.result in
    let held = c.holds.ensures ∙ sym (holds_any same_key k (reverse f.keys.items)) in
    let all = length-reverse f.keys.items in
    let room = eqb-false (length f.keys.items) 1024 (sym c.is_full.ensures.value ∙ c.if-is_full.false) in
    enter_new c.args.lanes.now.rows.now c.args.b (front_of f) k c.key_of-k.ensures c.holds.result held c.if-holds.false
    (omega (arith, room, c.is_full.ensures.fits)) _ _ (ap reverse c.push-2.ensures.items ∙ pushed f.todo.items c.args.b)
    (ap reverse c.push.ensures.items ∙ pushed f.keys.items k)
