-- Each entry below the i-th is what `read` gives there.
use Rattle.std.proofs.Common.{◌<◌, get_or, ℕ}
use Rattle.plan_rows.proofs.put_values.Given as goal

abbrev pub invariant-loop-i : goal.invariant-loop-i
invariant-loop-i g l = (k : ℕ) (d : _) → k < l.i → goal.R-post g l.read l.at k (get_or l.out k d)
