use Rattle.std.proofs.Common.{sym, ◌∙◌, subst}
use Rattle.events.specs.declared.event.EventId.{EventId}
use Rattle.listings.specs.Lists.{StandsAt}
use Rattle.slices.proofs.Pairing.{event_exact, event_now}
use Rattle.slices.proofs.rivals.Exchange.reads_from.Goals as goal

pub returns-in-Some : goal.returns-in-Some
returns-in-Some c t =
    let P : EventId → Type 0 = λ v. StandsAt c.args.graph.now.rf c.args.self.read v in
    subst P ((event_exact c.in-Some.source.now c.args.write).0 (sym c.eq.ensures ∙ t))
    (event_now c.args.graph.now.rf c.rf.result.now c.args.self.read c.in-Some.source.now c.rf.ensures (sym c.in-Some.ensures.lookup.0) c.in-Some.ensures.lookup.1)
