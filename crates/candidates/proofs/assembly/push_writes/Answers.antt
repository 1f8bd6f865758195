use Rattle.std.proofs.Common.{◌∙◌, ◌+◌, List, [], ◌∷◌, drop, sym, ◌++◌, ap, append-nil}
use Rattle.events.specs.declared.event.Event.{Event}
use Rattle.events.specs.declared.event.EventId.{EventId}
use Rattle.events.specs.declared.event.EventId.TheVariants.{Own}
use Rattle.candidates.specs.Executions.{writes_from}
use Rattle.candidates.proofs.Gathered.{gathered_on, passed_on, write_yes, write_no}
use Rattle.std.proofs.lemmas.List.{at_drop_all}
use Rattle.candidates.proofs.assembly.push_writes.Goals as goal
use Rattle.candidates.proofs.assembly.push_writes.Goals.{then-writes_to+in_ok-push, else-writes_to}

pub loop-place-preserved : goal.loop-place-preserved
loop-place-preserved c =
    let x = c.args.location in
    let k = c.args.thread in
    let es = c.args.events.now in
    let at = c.loop-place in
    let e = c.index-events-place.result in
    let rest = drop (at.place + 1) es in
    let F : List Event → List EventId = writes_from x k at.place in
    let G : List Event → List EventId = writes_from x k (at.place + 1) in
    elim c.if-writes_to.branch [
      | then-writes_to+in_ok-push w ↦
          rw w.writes-is (gathered_on F G es at.place e (Own k at.place ∷ []) at.writes.items w.push.new.self.items _ c.loop-place-test.true c.index-events-place.is
          (write_yes x k at.place e rest (sym c.writes_to.ensures ∙ w.if-writes_to.true)) w.in_ok-push.ensures.items at.invariant)
      | else-writes_to w ↦
          rw w.writes-is (passed_on F G es at.place e at.writes.items _ c.loop-place-test.true c.index-events-place.is (write_no x k at.place e rest (sym c.writes_to.ensures ∙ w.if-writes_to.false)) at.invariant)
    ]

pub returns : goal.returns
returns c =
    let at = c.loop-place in
    let done = at.writes.items in
    sym (append-nil done) ∙ ap (λ (ws : List EventId). done ++ ws) (sym (at_drop_all (writes_from c.args.location c.args.thread at.place) c.args.events.now at.place c.loop-place-test.false)) ∙ at.invariant
