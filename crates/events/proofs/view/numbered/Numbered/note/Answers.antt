use Rattle.events.proofs.Adding.{fits}
use Rattle.events.proofs.view.numbered.Numbered.note.Goals as goal

pub insert-requires : goal.insert-requires
insert-requires c = fits c.args.self.now c.args.event c.args.numbers.now.count c.in-Some.number c.requires.count c.in-Some.ensures
