use Rattle.slices.proofs.Recently.{known_more}
use Rattle.std.proofs.Common.{refl}
use Rattle.slices.proofs.recent.Recent.note.Goals as goal

pub returns : goal.returns
returns c v base old is k p = known_more v base _ c.args.self.now.states _ c.args.known old is refl k p
