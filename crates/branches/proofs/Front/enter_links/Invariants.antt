-- The links from row `at` on are followed, as the definition follows them.
use Rattle.std.proofs.Common.{◌≡◌, ◌-◌, ◌≤◌}
use Rattle.branches.specs.Tables.{led_to}
use Rattle.branches.specs.Held.{front_of, link_front_of}
use Rattle.branches.specs.Links.{enter_links}
use Rattle.branches.proofs.Front.enter_links.Given as goal

abbrev pub invariant-loop-at : goal.invariant-loop-at
invariant-loop-at l =
    record {
      left : l.end - l.count ≤ l.at;
      followed :
          link_front_of l.self l.any
          ≡ enter_links l.lanes.rows.now l.lanes.count l.lanes.points.now l.lanes.cumulative.now l.ahead l.l
          (led_to l.links l.end (l.end - l.at)) (front_of l.initial.self);
    }
