use Rattle.std.proofs.Common.{List, length, take, drop, ap, subst, sym, refl, arith, ◌≡◌, ◌++◌, ◌∙◌}
use Rattle.events.specs.Opened.{opened}
use Rattle.cat_eval.specs.declared.step.Step.{Step}
use Rattle.cat_eval.specs.declared.value.Value.{Value}
use Rattle.cat_eval.specs.Keeping.{Holds}
use Rattle.cat_eval.proofs.Held.{written_back}
use Rattle.cat_eval.proofs.Worked.{holds_followed, works_made}
use Rattle.cat_eval.proofs.workings.Workings.judge_open.Goals as goal

pub judge_open_over-requires-clause-code : goal.judge_open_over-requires-clause-code
judge_open_over-requires-clause-code c = record {
  speaks = rw (c.deref.ensures.value, c.deref-2.ensures.value) c.requires.works.speaks;
  runs = rw c.deref-2.ensures.value c.requires.works.runs;
  graded = rw c.deref.ensures.value c.requires.works.graded;
}

pub judge_open_over-requires-clause-absent : goal.judge_open_over-requires-clause-absent
judge_open_over-requires-clause-absent c = rw c.deref-2.ensures.value c.requires.absent

pub judge_open_over-requires-clause-kept : goal.judge_open_over-requires-clause-kept
judge_open_over-requires-clause-kept c = record {
  long = ap length c.deref_mut.ensures.value ∙ c.requires.works.values ∙ sym (ap length c.deref.ensures.value);
  holds = rw (c.deref.ensures.value, c.deref_mut.ensures.value)
      (holds_followed c.args.items.now c.args.self.now (opened c.args.graph.now c.args.cut)
      (record { counts = c.bases.ensures.counts; like = c.bases.ensures.plain; sets = c.bases.ensures.sets; runs = c.bases.ensures.runs; sources = c.bases.ensures.sources }) c.requires.followed c.requires.works);
}

pub returns-clause-works : goal.returns-clause-works
returns-clause-works c =
    let w = c.args.self.now in
    let old : List Value = w.values.items in
    let new : List Value = c.judge_open_over.new.values in
    let a = c.judge_open_over.ensures.kept.long in
    let f = ap length c.deref.ensures.value in
    let v = c.requires.works.values in
    let b = ap length c.deref_mut.ensures.value in
    let d = c.deref_mut.ensures.len in
    let e : take w.values.len (new ++ drop (length new) old) ≡ new = written_back w.values.len new (drop (length new) old) (omega (arith, a, f, v, b, d)) in
    let P : List Step → Type 0 = λ xs. Holds (opened c.args.graph.now c.args.cut) xs w.bases c.judge_open_over.new.kept new in
    let R : List Value → Type 0 = λ xs. Holds (opened c.args.graph.now c.args.cut) w.steps.items w.bases c.judge_open_over.new.kept xs in
    works_made c.args.items.now w _ (opened c.args.graph.now c.args.cut)
    (record { counts = c.bases.ensures.counts; like = c.bases.ensures.plain; sets = c.bases.ensures.sets; runs = c.bases.ensures.runs; sources = c.bases.ensures.sources })
    c.requires.followed refl (ap length e ∙ a ∙ f) (subst R (sym e) (subst P c.deref.ensures.value c.judge_open_over.ensures.kept.holds)) c.requires.works
