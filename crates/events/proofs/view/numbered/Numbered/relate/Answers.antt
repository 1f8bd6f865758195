use Rattle.std.proofs.Common.{arith}
use Rattle.events.specs.Named.{event_count}
use Rattle.events.proofs.Adding.{fits, pair_more}
use Rattle.events.proofs.Turning.{turned_more}
use Rattle.events.proofs.view.numbered.Numbered.relate.Goals as goal

pub insert-requires-clause-from : goal.insert-requires-clause-from
insert-requires-clause-from c = fits c.args.self.now c.args.first c.args.rel.now.count c.in-Some.from c.requires.count c.in-Some.ensures

pub insert-requires-clause-to : goal.insert-requires-clause-to
insert-requires-clause-to c = fits c.args.self.now c.args.second c.args.rel.now.count c.in-Some-number_of.to c.requires.count c.in-Some-number_of.ensures

pub returns-in-Some-number_of-clause-rel : goal.returns-in-Some-number_of-clause-rel
returns-in-Some-number_of-clause-rel c =
    pair_more (event_count c.args.self.now) c.args.rel.now.count c.in-Some.from c.in-Some-number_of.to c.args.self.now c.args.first c.args.second c.args.rel.now c.insert.new.self
    c.requires.count c.in-Some.ensures c.in-Some-number_of.ensures c.insert.ensures

pub insert-requires-in-Some-number_of-clause-from : goal.insert-requires-in-Some-number_of-clause-from
insert-requires-in-Some-number_of-clause-from c =
    omega (arith, c.requires.turned.count, fits c.args.self.now c.args.second c.args.rel.now.count c.in-Some-number_of.to c.requires.count c.in-Some-number_of.ensures)

pub insert-requires-in-Some-number_of-clause-to : goal.insert-requires-in-Some-number_of-clause-to
insert-requires-in-Some-number_of-clause-to c =
    omega (arith, c.requires.turned.count, fits c.args.self.now c.args.first c.args.rel.now.count c.in-Some.from c.requires.count c.in-Some.ensures)

pub returns-in-Some-number_of-clause-turned : goal.returns-in-Some-number_of-clause-turned
returns-in-Some-number_of-clause-turned c =
    turned_more c.in-Some.from c.in-Some-number_of.to c.args.rel.now c.insert.new.self c.args.turned.now c.insert-in-Some-number_of.new.self c.requires.turned c.insert.ensures
    c.insert-in-Some-number_of.ensures
