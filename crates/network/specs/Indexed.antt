-- An index with its tables, as the definitions have it: its spans, what a query makes of each, and the best so far. Definitions only.
use Rattle.std.specs.Prelude.{List, ℕ, Option}
use Rattle.network.specs.declared.Nearest.{Nearest}
use Rattle.network.specs.declared.Spans.{Spans}
use Rattle.network.specs.Lanes.{Span}
use Rattle.network.specs.Nearest.{Best, Item}
use Rattle.network.specs.Tables.{best_of, item_in, item_list, span_list}

abbrev pub spans_of : Spans → List Span
spans_of s = span_list s.lanes.now s.points.now s.spans.now s.boxes.now s.index.count 0

abbrev pub items_of : Spans → List Item
items_of s = item_list s.lanes.now s.points.now s.spans.now s.boxes.now s.index s.index.count 0

-- span i
abbrev pub item_at : Spans → ℕ → Item
item_at s i = item_in s.lanes.now s.points.now s.spans.now s.boxes.now s.index i

abbrev pub best_in : Spans → Option Nearest → Best
best_in s best = best_of s.lanes.now s.points.now best
