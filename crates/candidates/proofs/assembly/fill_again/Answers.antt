use Rattle.std.proofs.Common.{◌∙◌, ◌≡◌, ℕ, List, ap, take, length, subst, sym, inl, inr, arith}
use Rattle.events.specs.declared.event.Event.{Event}
use Rattle.events.specs.Executions.{ThreadRun}
use Rattle.candidates.specs.Executions.{reads}
use Rattle.candidates.specs.Readings.{HaveSuitable}
use Rattle.candidates.specs.declared.reading.Suitable.{Suitable}
use Rattle.candidates.proofs.Calm.{reads_stay, suited_alike, suited_none}
use Rattle.candidates.proofs.Outlining.{as_many_reads}
use Rattle.candidates.proofs.assembly.fill_again.Goals as goal

pub reads_before-before-requires-clause-all : goal.reads_before-before-requires-clause-all
reads_before-before-requires-clause-all c =
    let was = c.requires.was in
    let there = ap (λ (es : List Event). length es) was.reads_were ∙ sym (as_many_reads c.args.page.now.runs.items was.before was.alike) ∙ ap (λ (rs : List ThreadRun). length (reads rs)) (sym c.deref.ensures.value) in
    omega (arith, c.len.ensures, there)

pub reads-requires-clause-known : goal.reads-requires-clause-known
reads-requires-clause-known c =
    let was = c.requires.was in
    let runs = c.args.page.now.runs.items in
    let k = c.args.kept.same in
    let n = c.reads_before-before.result in
    let count = c.reads_before-before.ensures ∙ ap (λ (rs : List ThreadRun). length (reads (take k rs))) c.deref.ensures.value in
    ap (λ v. take n v.items) c.replace-stood.ensures.value ∙ ap (λ (es : List Event). take n es) was.reads_were ∙ reads_stay was.before runs k n was.kept.same count
    ∙ ap (λ (rs : List ThreadRun). reads (take k rs)) (sym c.deref-2.ensures.value)

pub all_suitable-requires-clause-known : goal.all_suitable-requires-clause-known
all_suitable-requires-clause-known c =
    let was = c.requires.was in
    let init = c.args.init.now in
    let runs = c.args.page.now.runs.items in
    let k = c.args.kept.same in
    let n = c.reads_before-before.result in
    let count = c.reads_before-before.ensures ∙ ap (λ (rs : List ThreadRun). length (reads (take k rs))) c.deref.ensures.value in
    let P : List Event → Type 0 = λ es. HaveSuitable init was.before es c.args.page.now.suitable.items (length es) in
    let suited = subst P was.reads_were was.suited in
    let read : reads runs ≡ c.in_ok-page.field-0.items = sym (c.in_ok-page.ensures ∙ ap reads c.deref-2.ensures.value) in
    let Q : List Event → Type 0 = λ es. HaveSuitable init runs es c.replace-room.result.items c.if_calm.result in
    let R : List Suitable → Type 0 = λ fs. HaveSuitable init runs (reads runs) fs c.if_calm.result in
    let S : ℕ → Type 0 = λ m. HaveSuitable init runs (reads runs) c.args.page.now.suitable.items m in
    subst Q read (subst R (sym (ap (λ v. v.items) c.replace-room.ensures.value)) (elim c.if_calm.ensures [
      | inl zero_known ↦ subst S (sym zero_known) (suited_none init runs (reads runs) c.args.page.now.suitable.items)
      | inr calm ↦ subst S (sym calm.1) (suited_alike init was.before runs c.args.page.now.suitable.items k n was.alike (was.kept.calm calm.0) was.kept.same count suited)
    ]))
