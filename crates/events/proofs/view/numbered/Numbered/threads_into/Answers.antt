use Rattle.std.proofs.Common.{ℕ, ◌∙◌, ap, arith, length, subst}
use Rattle.relations.specs.Relation.{IsExactly}
use Rattle.events.specs.Executions.{GraphValue}
use Rattle.events.specs.Named.{event_count}
use Rattle.events.proofs.Grouping.{threads_begun, initial_begun, threads_more, groups_more, threads_full, groups_full}
use Rattle.events.proofs.view.numbered.Numbered.threads_into.Goals as goal

pub loop-thread-init : goal.loop-thread-init
loop-thread-init c =
    let g = c.args.self.now in
    let n = event_count g in
    let P : ℕ → Type 0 = λ m. IsExactly m (λ i j. ⊥) c.become_empty.new.self in
    let Q : ℕ → Type 0 = λ m. IsExactly m (λ i j. ⊥) c.become_empty-2.new.self in
    record {
      po = threads_begun n g c.become_empty.new.self (subst P c.count-size.ensures.is c.become_empty.ensures);
      int = initial_begun n g c.set.result c.become_empty-2.new.self c.relate_group.new.rel c.set.ensures (subst Q c.count-size.ensures.is c.become_empty-2.ensures) c.relate_group.ensures;
    }

pub loop-thread-preserved : goal.loop-thread-preserved
loop-thread-preserved c =
    let g = c.args.self.now in
    let n = event_count g in
    record {
      po = threads_more n g c.loop-thread.thread c.loop-thread.po c.relate_thread-events.new.po c.loop-thread.invariant.po c.relate_thread-events.ensures.po;
      int = groups_more n g c.loop-thread.thread c.relate_thread-events.result c.loop-thread.int c.relate_group-in-loop-thread.new.rel c.relate_thread-events.ensures.numbers c.loop-thread.invariant.int
          c.relate_group-in-loop-thread.ensures;
    }

pub returns-clause-po : goal.returns-clause-po
returns-clause-po c =
    let g = c.args.self.now in
    let e = c.runs-run-items.ensures.value ∙ ap (λ (g : GraphValue). g.runs) c.self.view_is in
    threads_full (event_count g) g c.loop-thread.thread c.loop-thread.po (omega (arith, ap length e, c.loop-thread-test.false)) c.loop-thread.invariant.po

pub returns-clause-int : goal.returns-clause-int
returns-clause-int c =
    let g = c.args.self.now in
    let e = c.runs-run-items.ensures.value ∙ ap (λ (g : GraphValue). g.runs) c.self.view_is in
    groups_full (event_count g) g c.loop-thread.thread c.loop-thread.int (omega (arith, ap length e, c.loop-thread-test.false)) c.loop-thread.invariant.int
