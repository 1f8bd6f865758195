use Rattle.std.proofs.Common.{get_or, refl}
use Rattle.events.specs.declared.event.EventId.TheVariants.{Initial}
use Rattle.events.specs.Named.{event_count}
use Rattle.events.proofs.Standing.{stands_index}
use Rattle.events.proofs.Adding.{read_more, no_read_more}
use Rattle.events.proofs.view.numbered.Numbered.relate_read.Goals as goal

pub returns-then-read-sources-clause-rel : goal.returns-then-read-sources-clause-rel
returns-then-read-sources-clause-rel c =
    let g = c.args.self.now in
    let sources = c.args.sources.now in
    read_more (event_count g) g sources c.args.read (get_or sources c.args.read (Initial 0)) c.read.result c.args.rel.now c.relate.new.rel c.read.ensures
    (stands_index sources sources c.args.read (Initial 0) refl c.if-read-sources.true)
    c.relate.ensures.rel

pub returns-else-read-sources-clause-rel : goal.returns-else-read-sources-clause-rel
returns-else-read-sources-clause-rel c = no_read_more c.args.self.now c.args.sources.now c.args.read c.args.rel.now c.if-read-sources.false c.requires.count c.requires.canonical
