use Rattle.std.proofs.Common.{◌∙◌, List, length, take, ap, sym}
use Rattle.events.specs.declared.event.Event.{Event}
use Rattle.events.specs.declared.event.EventId.{EventId}
use Rattle.candidates.specs.Executions.{reads}
use Rattle.candidates.specs.Readings.{read_at}
use Rattle.candidates.proofs.Sources.{as_many_read}
use Rattle.candidates.proofs.reading.turn_sources.Goals as goal

pub set_sources-requires-clause-len : goal.set_sources-requires-clause-len
set_sources-requires-clause-len c =
    let page = c.args.page.now in
    ap (λ (ws : List EventId). length ws) (c.deref_mut.ensures.value ∙ c.requires.rf)
    ∙ as_many_read page.runs.items (reads page.runs.items) c.args.from
    ∙ ap (λ (rs : List Event). length rs) (sym c.requires.page.reads_are)

pub set_sources-requires-clause-before : goal.set_sources-requires-clause-before
set_sources-requires-clause-before c =
    let page = c.args.page.now in
    let m = c.differing-tail.result.from in
    ap (λ (ws : List EventId). take m ws) (c.deref_mut.ensures.value ∙ c.requires.rf)
    ∙ ap (λ (rs : List Event). take m (read_at page.runs.items rs c.args.from)) (sym c.requires.page.reads_are)
    ∙ c.differing-tail.ensures.same
