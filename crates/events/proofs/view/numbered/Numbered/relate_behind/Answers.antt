use Rattle.events.specs.Named.{event_count}
use Rattle.events.proofs.Adding.{fits, row_more}
use Rattle.events.proofs.view.numbered.Numbered.relate_behind.Goals as goal

pub insert_all-requires-clause-from : goal.insert_all-requires-clause-from
insert_all-requires-clause-from c = fits c.args.self.now c.args.event c.args.rel.now.count c.in-Some.number c.requires.rel c.in-Some.ensures

pub insert-requires : goal.insert-requires
insert-requires c = fits c.args.self.now c.args.event c.args.behind.now.count c.in-Some.number c.requires.behind c.in-Some.ensures

pub returns-in-Some-clause-rel : goal.returns-in-Some-clause-rel
returns-in-Some-clause-rel c =
    row_more (event_count c.args.self.now) c.args.rel.now.count c.in-Some.number c.args.self.now c.args.event c.args.behind.now c.args.rel.now c.insert_all.new.self
    c.requires.rel c.in-Some.ensures c.insert_all.ensures
