use Rattle.std.proofs.Common.{sym, ◌∙◌}
use Rattle.std.proofs.lemmas.Bool.{false≢true}
use Rattle.relations.specs.Events.{Has}
use Rattle.events.specs.Named.{event_count}
use Rattle.events.proofs.Adding.{fits}
use Rattle.events.proofs.Cutting.{unless_row, unless_event, except_row, except_event}
use Rattle.events.proofs.view.numbered.Numbered.relate_unless.Goals as goal

pub contains-requires : goal.contains-requires
contains-requires c = fits c.args.self.now c.args.event c.args.without.now.count c.in-Some.number c.requires.without c.in-Some.ensures

pub insert_all-requires-clause-from : goal.insert_all-requires-clause-from
insert_all-requires-clause-from c = fits c.args.self.now c.args.event c.args.rel.now.count c.in-Some.number c.requires.rel c.in-Some.ensures

pub insert-requires : goal.insert-requires
insert-requires c = fits c.args.self.now c.args.event c.args.behind.now.count c.in-Some.number c.requires.behind c.in-Some.ensures

pub returns-then-not-contains-clause-rel : goal.returns-then-not-contains-clause-rel
returns-then-not-contains-clause-rel c =
    unless_row (event_count c.args.self.now) c.args.rel.now.count c.in-Some.number c.args.self.now c.args.event (Has c.args.without.now) c.args.behind.now c.args.rel.now c.insert_all.new.self
    c.requires.rel c.in-Some.ensures (λ h. false≢true (sym c.if-not-contains.true ∙ c.contains.ensures.1 h)) c.insert_all.ensures

pub returns-then-not-contains-clause-behind : goal.returns-then-not-contains-clause-behind
returns-then-not-contains-clause-behind c =
    unless_event (event_count c.args.self.now) c.args.behind.now.count c.in-Some.number c.args.self.now c.args.event (Has c.args.without.now) c.args.behind.now c.insert.new.self
    c.requires.behind c.in-Some.ensures (λ h. false≢true (sym c.if-not-contains.true ∙ c.contains.ensures.1 h)) c.insert.ensures

pub returns-else-not-contains-clause-rel : goal.returns-else-not-contains-clause-rel
returns-else-not-contains-clause-rel c =
    except_row (event_count c.args.self.now) c.args.rel.now.count c.in-Some.number c.args.self.now c.args.event (Has c.args.without.now) c.args.behind.now c.args.rel.now
    c.requires.rel c.requires.canonical_rel c.in-Some.ensures (c.contains.ensures.0 c.if-not-contains.false)

pub returns-else-not-contains-clause-behind : goal.returns-else-not-contains-clause-behind
returns-else-not-contains-clause-behind c =
    except_event (event_count c.args.self.now) c.args.behind.now.count c.in-Some.number c.args.self.now c.args.event (Has c.args.without.now) c.args.behind.now
    c.requires.behind c.requires.canonical_behind c.in-Some.ensures (c.contains.ensures.0 c.if-not-contains.false)
