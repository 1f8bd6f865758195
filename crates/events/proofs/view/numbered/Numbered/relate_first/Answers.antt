use Rattle.events.specs.Named.{event_count}
use Rattle.events.proofs.Adding.{fits, row_more}
use Rattle.events.proofs.Cutting.{first_stands, first_more, first_unnamed}
use Rattle.events.proofs.view.numbered.Numbered.relate_first.Goals as goal

pub insert_all-requires-clause-from : goal.insert_all-requires-clause-from
insert_all-requires-clause-from c = fits c.args.self.now c.in-Some.first.now c.args.rel.now.count c.in-Some-number_of.number c.requires.count c.in-Some-number_of.ensures

pub returns-in-Some-number_of : goal.returns-in-Some-number_of
returns-in-Some-number_of c =
    let n = event_count c.args.self.now in
    first_more n c.args.self.now c.args.order.now c.args.others.now c.in-Some.first.now c.numbers_of.result c.args.rel.now c.insert_all.new.self (first_stands c.args.order.now c.in-Some.first.now c.in-Some.ensures.value) c.numbers_of.ensures
    (row_more n c.args.rel.now.count c.in-Some-number_of.number c.args.self.now c.in-Some.first.now c.numbers_of.result c.args.rel.now c.insert_all.new.self c.requires.count c.in-Some-number_of.ensures c.insert_all.ensures)

pub returns-in_default-number_of : goal.returns-in_default-number_of
returns-in_default-number_of c = first_unnamed (event_count c.args.self.now) c.args.self.now c.args.order.now c.args.others.now c.in-Some.first.now c.args.rel.now (first_stands c.args.order.now c.in-Some.first.now c.in-Some.ensures.value) c.in_default-number_of.ensures c.requires.count c.requires.canonical
