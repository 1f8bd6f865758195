use Rattle.std.proofs.Common.{◌∙◌, ◌+◌, List, [], ◌∷◌, ◌++◌, ap, drop, sym, append-nil}
use Rattle.std.specs.Prelude.{filter}
use Rattle.events.specs.declared.event.Event.{Event}
use Rattle.events.specs.Executions.{is_read}
use Rattle.candidates.proofs.Gathered.{gathered_on, passed_on}
use Rattle.candidates.proofs.Graphs.{filter_yes, filter_no}
use Rattle.std.proofs.lemmas.List.{at_drop_all}
use Rattle.candidates.proofs.assembly.push_reads.Goals as goal
use Rattle.candidates.proofs.assembly.push_reads.Goals.{then-is_read+in_ok-push, else-is_read}

pub loop-event-preserved : goal.loop-event-preserved
loop-event-preserved c =
    let F : List Event → List Event = filter (λ e. is_read e.access) in
    let es = c.args.events.now in
    let at = c.loop-event in
    let e = c.event-item.result in
    let rest = drop (at.event-index + 1) es in
    elim c.if-is_read.branch [
      | then-is_read+in_ok-push w ↦
          rw w.reads-is (gathered_on F F es at.event-index e (e ∷ []) at.reads.items w.push.new.self.items _ c.loop-event-test.true c.event-item.is
          (sym (filter_yes e rest (sym c.is_read.ensures ∙ w.if-is_read.true))) (w.in_ok-push.ensures.items ∙ ap (λ (x : Event). at.reads.items ++ x ∷ []) w.copy.ensures) at.invariant)
      | else-is_read w ↦
          rw w.reads-is (passed_on F F es at.event-index e at.reads.items _ c.loop-event-test.true c.event-item.is (sym (filter_no e rest (sym c.is_read.ensures ∙ w.if-is_read.false))) at.invariant)
    ]

pub returns : goal.returns
returns c =
    let done = c.loop-event.reads.items in
    sym (append-nil done) ∙ ap (λ (es : List Event). done ++ es) (sym (at_drop_all (filter (λ e. is_read e.access)) c.args.events.now c.loop-event.event-index c.loop-event-test.false)) ∙ c.loop-event.invariant
