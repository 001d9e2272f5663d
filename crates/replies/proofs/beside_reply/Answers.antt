-- The answer written out is the reply.
use Rattle.replies.specs.Lent.{from_lent}
use Rattle.replies.specs.Replied.{beside_replied}
use Rattle.replies.proofs.beside_reply.Goals as goal

pub returns : goal.returns
returns g c =
    let a = c.args in
    let calls = rw (← c.from-a.ensures) at c.beside-answer.ensures in
    beside_replied a.file.now a.lane a.s a.side c.from-a.result (from_lent c.new-t.ensures calls) c.beside_text.ensures
