-- The reply to the query found, or nothing.
use Rattle.std.proofs.Common.{sym, ◌∙◌}
use Rattle.replies.specs.Written.{next_none, next_written}
use Rattle.replies.proofs.next_piece.Goals as goal

pub returns-in-Some : goal.returns-in-Some
returns-in-Some g c =
    next_written c.args.file.now c.args.at _ _ (sym c.next_query.ensures ∙ c.in-Some.is) c.clear.ensures c.reply.ensures

pub returns-in-None : goal.returns-in-None
returns-in-None g c = next_none c.args.file.now c.args.at (sym c.next_query.ensures ∙ c.in-None.is) c.clear.ensures
