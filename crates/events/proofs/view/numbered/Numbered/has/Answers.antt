use Rattle.events.proofs.Standing.{by_number}
use Rattle.events.proofs.view.numbered.Numbered.has.Goals as goal

pub returns : goal.returns
returns c = by_number c.args.self.now c.args.name c.args.number c.event.result c.is_in.result c.event.ensures c.is_in.ensures
