-- Tables written front to back; lists has their laws.
pub use Rattle.lists.specs.Over.{over, placed, length_placed, over_first, over_next, over_two, over_three, over_whole, over_placed}
