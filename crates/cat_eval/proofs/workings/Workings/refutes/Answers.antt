use Rattle.std.proofs.Common.{Bool, Option, Some, None, List, length, map, take, drop, ap, subst, sym, refl, arith, ◌≡◌, ◌++◌, ◌∙◌}
use Rattle.std.specs.Prelude.{IfSome, IsTrue}
use Rattle.std.specs.Option.{is_some}
use Rattle.std.proofs.lemmas.Bool.{false≢true}
use Rattle.events.specs.Executions.{GraphValue}
use Rattle.events.specs.Cuts.{part_of}
use Rattle.events.specs.Extends.{Extends}
use Rattle.cat_eval.specs.declared.step.Step.{Step}
use Rattle.cat_eval.specs.declared.value.Value.{Value}
use Rattle.cat_eval.specs.Code.{planned_clause}
use Rattle.cat_eval.specs.Judging.{Allowed}
use Rattle.cat_eval.specs.Keeping.{Holds}
use Rattle.cat_eval.proofs.Held.{written_back}
use Rattle.cat_eval.proofs.Worked.{holds_followed, works_made}
use Rattle.cat_eval.proofs.workings.Workings.refutes.Goals as goal

pub refutes_over-refuted-requires-clause-code : goal.refutes_over-refuted-requires-clause-code
refutes_over-refuted-requires-clause-code c = record {
  speaks = rw (c.deref.ensures.value, c.deref-2.ensures.value) c.requires.works.speaks;
  runs = rw c.deref-2.ensures.value c.requires.works.runs;
  graded = rw c.deref.ensures.value c.requires.works.graded;
}

pub refutes_over-refuted-requires-clause-absent : goal.refutes_over-refuted-requires-clause-absent
refutes_over-refuted-requires-clause-absent c = rw c.deref-2.ensures.value c.requires.absent

pub refutes_over-refuted-requires-clause-kept : goal.refutes_over-refuted-requires-clause-kept
refutes_over-refuted-requires-clause-kept c = record {
  long = ap length c.deref_mut.ensures.value ∙ c.requires.works.values ∙ sym (ap length c.deref.ensures.value);
  holds = rw (c.deref.ensures.value, c.deref_mut.ensures.value)
      (holds_followed c.args.items.now c.args.self.now (part_of c.args.graph.now c.args.part)
      (record { counts = c.bases.ensures.counts; like = c.bases.ensures.plain; sets = c.bases.ensures.sets; runs = c.bases.ensures.runs; sources = c.bases.ensures.sources }) c.requires.followed c.requires.works);
}

pub returns-clause-works : goal.returns-clause-works
returns-clause-works c =
    let w = c.args.self.now in
    let g = part_of c.args.graph.now c.args.part in
    let old : List Value = w.values.items in
    let new : List Value = c.refutes_over-refuted.new.values in
    let a = c.refutes_over-refuted.ensures.kept.long in
    let f = ap length c.deref.ensures.value in
    let v = c.requires.works.values in
    let b = ap length c.deref_mut.ensures.value in
    let d = c.deref_mut.ensures.len in
    let e : take w.values.len (new ++ drop (length new) old) ≡ new = written_back w.values.len new (drop (length new) old) (omega (arith, a, f, v, b, d)) in
    let P : List Step → Type 0 = λ xs. Holds g xs w.bases c.refutes_over-refuted.new.kept new in
    let R : List Value → Type 0 = λ xs. Holds g w.steps.items w.bases c.refutes_over-refuted.new.kept xs in
    works_made c.args.items.now w _ g
    (record { counts = c.bases.ensures.counts; like = c.bases.ensures.plain; sets = c.bases.ensures.sets; runs = c.bases.ensures.runs; sources = c.bases.ensures.sources })
    c.requires.followed refl (ap length e ∙ a ∙ f) (subst R (sym e) (subst P c.deref.ensures.value c.refutes_over-refuted.ensures.kept.holds)) c.requires.works

-- what is known where there is a value is known where a test says so
of_some : {T : Type 0} (o : Option T) (b : Bool) (P : Type 0) → b ≡ is_some o → IfSome o (λ _. P) → IsTrue b → P
of_some {T} (Some x) b P e h t = h
of_some {T} None b P e h t = absurd (false≢true (sym e ∙ t))

pub returns-clause-refuted : goal.returns-clause-refuted
returns-clause-refuted c =
    of_some c.refutes_over-refuted.result c.is_some.result ((h : GraphValue) → Extends (part_of c.args.graph.now c.args.part) h → ¬ Allowed (map planned_clause c.args.items.now) h) c.is_some.ensures c.refutes_over-refuted.ensures.refuted
