use Rattle.workers.proofs.Going.{replied}
use Rattle.workers.proofs.calls.DeskCalls.hand_in.Goals as goal

pub returns-in-Ok-clause-ok : goal.returns-in-Ok-clause-ok
returns-in-Ok-clause-ok g c = replied _ _ _ _ c.last_entry.result.now c.in-Ok.ensures.receipt c.last_entry.ensures c.reply.ensures.kind (rw c.reply.ensures.reply at c.stays_open.ensures)
