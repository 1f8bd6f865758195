use Rattle.std.proofs.Common.{rules, ◌≡◌, ◌≢◌, ◌∙◌, ◌+◌, ℕ, true, false, List, ap, sym, take, arith}
use Rattle.std.specs.List.{count_by}
use Rattle.std.proofs.lemmas.List.{take_all, length-take-le}
use Rattle.std.proofs.lemmas.List.Sums.{count_by_more_yes, count_by_more_no, count_by-le-length}
use Rattle.events.specs.declared.event.Event.{Event}
use Rattle.events.specs.Executions.{is_read, writes_to}
use Rattle.candidates.specs.Bounds.{reads_from}
use Rattle.candidates.proofs.counts.count.Goals.{then-is_read+then-event-location, else-is_read, else-is_read-via-then-is_read+else-event-location, else-is_read-via-else-is_read, then-writes_to, else-writes_to}
use Rattle.candidates.proofs.counts.count.Goals as goal

reads_yes : (x : ℕ) (e : Event) → is_read e.access ≡ true → e.loc ≡ x → reads_from x e ≡ true
reads_yes x e r l = search rules

reads_elsewhere : (x : ℕ) (e : Event) → is_read e.access ≡ true → e.loc ≢ x → reads_from x e ≡ false
reads_elsewhere x e r l = search rules

reads_no : (x : ℕ) (e : Event) → is_read e.access ≡ false → reads_from x e ≡ false
reads_no x e r = rw r

pub loop-event-preserved : goal.loop-event-preserved
loop-event-preserved c =
    let es = c.args.events.now in
    let i = c.loop-event.event-index in
    let e = c.event-item.result in
    let l = c.loop-event-test.true in
    let x = c.args.location in
    let p = reads_from x in
    let at = ap p (sym c.event-item.is) in
    record {
      reads = elim c.if-is_read.branch [
        | then-is_read+then-event-location w ↦ w.reads-is ∙ ap (λ n. n + 1) c.loop-event.invariant.reads ∙ sym (count_by_more_yes p es i e l (at ∙ reads_yes x e (sym c.is_read.ensures ∙ w.if-is_read.true) w.if-event-location.true))
        | else-is_read w ↦ w.reads-is ∙ c.loop-event.invariant.reads ∙ sym (count_by_more_no p es i e l (at ∙ elim w.else-is_read.branch [
          | else-is_read-via-then-is_read+else-event-location v ↦ reads_elsewhere x e (sym c.is_read.ensures ∙ v.if-is_read.true) v.if-event-location.false
          | else-is_read-via-else-is_read v ↦ reads_no x e (sym c.is_read.ensures ∙ v.if-is_read.false)
        ]))
      ];
      writes = elim c.if-writes_to.branch [
        | then-writes_to w ↦ w.writes-is ∙ ap (λ n. n + 1) c.loop-event.invariant.writes ∙ sym (count_by_more_yes (writes_to c.args.location) es i e l (ap (writes_to c.args.location) (sym c.event-item.is) ∙ sym c.writes_to.ensures ∙ w.if-writes_to.true))
        | else-writes_to w ↦ w.writes-is ∙ c.loop-event.invariant.writes ∙ sym (count_by_more_no (writes_to c.args.location) es i e l (ap (writes_to c.args.location) (sym c.event-item.is) ∙ sym c.writes_to.ensures ∙ w.if-writes_to.false))
      ];
    }

pub returns-clause-reads : goal.returns-clause-reads
returns-clause-reads c = c.loop-event.invariant.reads ∙ ap (λ (es : List Event). count_by (reads_from c.args.location) es) (take_all c.loop-event.event-index c.args.events.now c.loop-event-test.false)

pub returns-clause-writes : goal.returns-clause-writes
returns-clause-writes c = c.loop-event.invariant.writes ∙ ap (λ (es : List Event). count_by (writes_to c.args.location) es) (take_all c.loop-event.event-index c.args.events.now c.loop-event-test.false)

pub overflow_add-writes : goal.overflow_add-writes
overflow_add-writes c =
    let i = c.loop-event.event-index in
    let front = take i c.args.events.now in
    omega (arith, c.loop-event.invariant.writes, count_by-le-length (writes_to c.args.location) front, length-take-le i c.args.events.now (omega (arith, c.loop-event-test.true)), c.loop-event-test.true)

pub overflow_add-reads : goal.overflow_add-reads
overflow_add-reads c =
    let i = c.loop-event.event-index in
    let front = take i c.args.events.now in
    omega (arith, c.loop-event.invariant.reads, count_by-le-length (reads_from c.args.location) front, length-take-le i c.args.events.now (omega (arith, c.loop-event-test.true)), c.loop-event-test.true)
