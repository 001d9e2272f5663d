-- A refusal's answer, by computation.
use Rattle.std.proofs.Common.{refl}
use Rattle.route.specs.Route.{answer_of}
use Rattle.route.proofs.RouteAnswerFromResultRouteAnswerRefusal.from.Goals as goal

pub returns-in-Err : goal.returns-in-Err
unfolding answer_of
returns-in-Err c = rw (c.in-Err.is, c.number.ensures) refl
