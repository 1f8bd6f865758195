use Rattle.events.specs.Named.{event_count}
use Rattle.events.proofs.Grouping.{location_in, location_more}
use Rattle.events.proofs.view.numbered.Numbered.relate_location.Goals as goal

pub returns-then-not-contains : goal.returns-then-not-contains
returns-then-not-contains c =
    location_more (event_count c.args.self.now) c.args.number c.args.self.now c.beside.result c.args.rel.now c.relate_group.new.rel c.requires.before c.beside.ensures c.relate_group.ensures

pub returns-else-not-contains : goal.returns-else-not-contains
returns-else-not-contains c = location_in (event_count c.args.self.now) c.args.number c.args.self.now c.args.rel.now c.requires.before (c.contains.ensures.0 c.if-not-contains.false)
