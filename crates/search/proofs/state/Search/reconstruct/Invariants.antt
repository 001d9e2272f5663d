-- `reconstruct` is `rebuild`: what is left adds to the lanes on the way back what the whole adds to the goal.
use Rattle.std.proofs.Common.{◌≡◌, ◌∷◌, [], ◌-◌, ◌+◌, ◌<◌, length, reverse}
use Rattle.search.specs.Search.{rebuild}
use Rattle.search.proofs.state.Search.reconstruct.Given as goal

abbrev pub invariant-loop : goal.invariant-loop
invariant-loop l = record {
  below : l.lane < 256;
  lanes : length l.path.items ≡ l.counter + 1;
  rest : rebuild (256 - l.counter) l.self.prev l.start l.lane (reverse l.path.items) ≡ rebuild 256 l.self.prev l.start l.goal (l.goal ∷ []);
}
