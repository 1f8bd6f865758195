use Rattle.relations.specs.Relation.{In}
use Rattle.relations.proofs.Reached.{row_closed}
use Rattle.relations.proofs.rel.Rel.close_row.Goals as goal

pub returns : goal.returns
returns c =
    row_closed c.self.inside.count c.args.of.now.count c.self.inside.rows c.args.i c.reached-reached.result (In c.args.of.now) c.args.self.now c.self.view_is c.self.told c.self.invariant c.requires.i c.requires.behind c.reached-reached.ensures
