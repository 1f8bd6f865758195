use Rattle.events.proofs.Told.{nothing_told}
use Rattle.events.proofs.event.EventId.is_next.Goals as goal

pub returns-in_default : goal.returns-in_default
returns-in_default c = rw (c.in_default.is-0, c.in_default.is-1) nothing_told
