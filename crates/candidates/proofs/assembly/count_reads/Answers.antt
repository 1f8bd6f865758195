use Rattle.std.proofs.Common.{◌∙◌, ◌+◌, List, ap, drop, length, sym, arith}
use Rattle.std.specs.Prelude.{filter}
use Rattle.events.specs.declared.event.Event.{Event}
use Rattle.events.specs.Executions.{is_read}
use Rattle.candidates.proofs.Graphs.{filter_yes, filter_no}
use Rattle.candidates.proofs.Sources.{next}
use Rattle.std.proofs.lemmas.List.{drop_all}
use Rattle.candidates.proofs.assembly.count_reads.Goals as goal
use Rattle.candidates.proofs.assembly.count_reads.Goals.{then-is_read, else-is_read}

pub loop-event-preserved : goal.loop-event-preserved
loop-event-preserved c =
    let F : List Event → List Event = filter (λ e. is_read e.access) in
    let es = c.args.events.now in
    let at = c.loop-event in
    let e = c.event-item.result in
    let rest = drop (at.event-index + 1) es in
    let step = ap (λ (xs : List Event). length (F xs)) (next es at.event-index e c.loop-event-test.true c.event-item.is) in
    elim c.if-is_read.branch [
      | then-is_read w ↦ (let one = ap (λ (xs : List Event). length xs) (filter_yes e rest (sym c.is_read.ensures ∙ w.if-is_read.true)) in
          (omega (arith, step, one, at.invariant.0, w.count-is), omega (arith, at.invariant.1, w.count-is)))
      | else-is_read w ↦ (let none_more = ap (λ (xs : List Event). length xs) (filter_no e rest (sym c.is_read.ensures ∙ w.if-is_read.false)) in
          (omega (arith, step, none_more, at.invariant.0, w.count-is), omega (arith, at.invariant.1, w.count-is)))
    ]

pub returns : goal.returns
returns c =
    let at = c.loop-event in
    let left = ap (λ (xs : List Event). length (filter (λ e. is_read e.access) xs)) (drop_all at.event-index c.args.events.now c.loop-event-test.false) in
    omega (arith, left, at.invariant.0)

pub overflow_add-count : goal.overflow_add-count
overflow_add-count c = omega (arith, c.loop-event.invariant.1, c.loop-event-test.true)
