use Rattle.events.proofs.Structures.{moved_set}
use Rattle.events.proofs.view.GraphView.set.Goals as goal

pub returns : goal.returns
returns c = moved_set c.numbered.result c.args.self.now c.args.name c.set.result c.numbered.ensures c.set.ensures
