use Rattle.std.proofs.Common.{◌∙◌, refl}
use Rattle.events.specs.Named.{event_count}
use Rattle.events.proofs.Adding.{fits}
use Rattle.events.proofs.Opening.{number_alone, other_more}
use Rattle.events.proofs.view.numbered.Numbered.relate_other.Goals as goal

pub insert-requires : goal.insert-requires
insert-requires c = fits c.args.self.now c.args.event c.empty-own.result.count c.in-Some.number (c.empty-own.ensures.count ∙ c.count.ensures.is) c.in-Some.ensures

pub insert_all-requires-clause-from : goal.insert_all-requires-clause-from
insert_all-requires-clause-from c = fits c.args.self.now c.args.event c.args.rel.now.count c.in-Some.number c.requires.rel c.in-Some.ensures

pub returns-in-Some : goal.returns-in-Some
returns-in-Some c =
    let n = event_count c.args.self.now in
    other_more n c.args.rel.now.count c.in-Some.number c.args.self.now c.args.event c.args.numbers.now c.insert.new.self c.minus.result c.args.rel.now c.insert_all.new.self
    c.requires.rel refl c.requires.numbers c.in-Some.ensures
    (number_alone n c.count.result c.in-Some.number c.empty-own.result c.insert.new.self c.count.ensures.is c.empty-own.ensures c.insert.ensures) c.minus.ensures c.insert_all.ensures
