use Rattle.events.specs.Rows.{name_of}
use Rattle.events.proofs.Standing.{by_numbers}
use Rattle.events.proofs.view.numbered.Numbered.relates.Goals as goal

pub returns : goal.returns
returns c =
    by_numbers c.args.self.now (name_of c.args.name) c.args.from c.args.to c.event.result c.event-2.result c.is_related.result c.event.ensures c.event-2.ensures c.is_related.ensures
