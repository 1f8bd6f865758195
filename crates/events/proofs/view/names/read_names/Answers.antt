use Rattle.std.proofs.Common.{◌≡◌, ◌∙◌, true, false, ap, sym, get_or, add-one, append_assoc, drop-cons}
use Rattle.std.proofs.lemmas.List.{drop_all, append-nil}
use Rattle.events.specs.declared.event.EventId.TheVariants.{Initial}
use Rattle.events.specs.Executions.{is_read}
use Rattle.events.specs.Named.{access_of}
use Rattle.events.proofs.view.names.read_names.Goals.{then-is_read+in_ok-push, else-is_read}
use Rattle.events.proofs.view.names.read_names.Goals as goal

pub loop-event-preserved : goal.loop-event-preserved
loop-event-preserved c =
    let es = c.args.events.now in
    let i = c.loop-event.event-index in
    let here = rw (drop-cons es i (Initial 0) c.loop-event-test.true) at c.loop-event.invariant in
    let told = sym (c.is_read.ensures ∙ ap is_read c.access.ensures) in
    elim c.if-is_read.branch [
      | then-is_read+in_ok-push w ↦ (let yes : is_read (access_of c.args.graph.now (get_or es i (Initial 0))) ≡ true = told ∙ w.if-is_read.true in
          rw (w.reads-is, w.in_ok-push.ensures.items, add-one, append_assoc) (rw yes at here))
      | else-is_read w ↦ (let no : is_read (access_of c.args.graph.now (get_or es i (Initial 0))) ≡ false = told ∙ w.if-is_read.false in
          rw (w.reads-is, add-one) (rw no at here))
    ]

pub returns : goal.returns
returns c = sym (append-nil c.loop-event.reads.items) ∙ rw (drop_all c.loop-event.event-index c.args.events.now c.loop-event-test.false) at c.loop-event.invariant
