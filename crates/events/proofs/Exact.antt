-- Names of events that are the same word for word.
use Rattle.std.proofs.Common.{◌≡◌, rules}
use Rattle.std.specs.Bool.{Decides}
use Rattle.events.specs.declared.event.EventId.{EventId}
use Rattle.events.specs.contracts.event.EventIdPartialEq.TheImpl.{ghosts as name_equality}

pub name_exact : (d e : EventId) → Decides (name_equality.eq d e) (d ≡ e)
name_exact d e = search rules
