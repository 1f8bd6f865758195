use Rattle.relations.specs.Events.{Has}
use Rattle.relations.proofs.Relations.{joined_set}
use Rattle.relations.proofs.rel.Rel.insert_all.Goals as goal

pub returns : goal.returns
returns c = joined_set c.self.inside.count c.self.inside.rows c.args.i c.args.to.now.count c.word.result (Has c.args.to.now) c.args.self.now c.self.view_is c.self.told c.self.invariant c.requires.from c.requires.to c.word.ensures
