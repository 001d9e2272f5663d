-- `measure` tests for a NaN first, then whether the span wins.
use mathlib.Core.Path.{◌∙◌, sym}
use Rattle.network.proofs.Walk.{measured_nan, measured_wins, measured_loses}
use Rattle.network.proofs.measure.Goals as goal

pub returns-then-is_nan : goal.returns-then-is_nan
returns-then-is_nan c = λ lanes points. measured_nan _ _ _ _ _ (sym c.is_nan.ensures ∙ c.if-is_nan.true)

pub returns-then-wins : goal.returns-then-wins
returns-then-wins c =
    λ lanes points. measured_wins _ _ _ _ _ (sym c.is_nan.ensures ∙ c.if-is_nan.false)
    (sym (c.wins.ensures lanes points) ∙ c.if-wins.true)

pub returns : goal.returns
returns c =
    λ lanes points. measured_loses _ _ _ _ _ (sym c.is_nan.ensures ∙ c.if-is_nan.false)
    (sym (c.wins.ensures lanes points) ∙ c.if-wins.false)
