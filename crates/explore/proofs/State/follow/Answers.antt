-- Where metres are left the links are followed; a branch that enters none, and one with no metres left, ends.
use Rattle.std.specs.Prelude.{◌≡◌, Float}
use Rattle.std.proofs.Common.{ap, ◌∙◌}
use Rattle.branches.specs.Branches.{room_of}
use Rattle.branches.specs.Held.{front_of, link_front_of, tables_of}
use Rattle.ends.specs.Ends.{place_in}
use Rattle.ends.specs.Held.{found_of}
use Rattle.explore.specs.declared.State as declared
use Rattle.explore.specs.Explore.{State}
use Rattle.explore.specs.Held.{state_of}
use Rattle.explore.specs.RunLaws.{entered_by, follow_on, follow_dead, follow_end}
use Rattle.explore.proofs.State.follow.Goals as goal
use Rattle.explore.proofs.State.follow.Goals.{then-b-space+else-enter_links, else-b-space}

pub returns-then-enter_links-clause-followed : goal.returns-then-enter_links-clause-followed
returns-then-enter_links-clause-followed c =
    let t = tables_of c.args.plan.now in
    let b = c.args.b in
    let q = state_of c.args.self.now in
    let space = c.room-space.ensures ∙ ap (λ (x : Float). room_of b.up x b.arc) c.length.ensures in
    let e = link_front_of c.enter_links.new.self c.enter_links.result in
    follow_on t c.args.ahead b q c.room-space.result space c.if-b-space.true e
    (entered_by t c.args.ahead b q c.room-space.result space e c.link_end-end.result c.link_count-count.result c.exit_point.result
    c.link_end-end.ensures c.link_count-count.ensures c.exit_point.ensures c.enter_links.ensures)
    c.if-enter_links.true

pub returns-clause-followed : goal.returns-clause-followed
returns-clause-followed c =
    let t = tables_of c.args.plan.now in
    let b = c.args.b in
    let q = state_of c.args.self.now in
    let space = c.room-space.ensures ∙ ap (λ (x : Float). room_of b.up x b.arc) c.length.ensures in
    let given = λ (s : declared.State) (is : c.if-b-space.self ≡ s).
    c.place.ensures.given ∙ ap (λ (x : declared.State). place_in t c.args.ahead b c.room-space.result (found_of x.found)) is in
    let whole : declared.State → State = λ x. record { front = front_of x.front; found = found_of c.place.new.self } in
    elim c.if-b-space.branch [
      | then-b-space+else-enter_links w ↦
          let e = link_front_of w.enter_links.new.self w.enter_links.result in
          ap whole w.self-is
          ∙ follow_dead t c.args.ahead b q c.room-space.result space w.if-b-space.true e
          (entered_by t c.args.ahead b q c.room-space.result space e w.link_end-end.result w.link_count-count.result w.exit_point.result
          w.link_end-end.ensures w.link_count-count.ensures w.exit_point.ensures w.enter_links.ensures)
          w.if-enter_links.false (found_of c.place.new.self) (given _ w.self-is)
      | else-b-space w ↦
          ap whole w.self-is
          ∙ follow_end t c.args.ahead b q c.room-space.result space w.if-b-space.false (found_of c.place.new.self) (given _ w.self-is)
    ]
