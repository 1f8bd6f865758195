use Rattle.std.proofs.Common.{◌≡◌, ℕ, ◌∙◌, ◌<◌, ◌+◌, length, refl, arith, subst, sym, ap}
use Rattle.std.proofs.lemmas.Grind.{common_steps}
use Rattle.book.specs.Step.{Step}
use Rattle.journal.specs.declared.records.Refusal.TheVariants.{Space}
use Rattle.journal.specs.declared.records.Reply.TheVariants.{Refused}
use Rattle.journal.specs.declared.records.Said.TheVariants.{Ask}
use Rattle.book.specs.Workbench.{Workbench, test_version}
use Rattle.candidates.specs.Faults.{IsSpaceFault}
use Rattle.candidates.specs.declared.fault.SpaceFault.{SpaceFault}
use Rattle.candidates.specs.declared.fault.SpaceFault.TheVariants.{TooManyRuns, TooManyCandidates}
use Rattle.book.proofs.Steps.{no_space, opened_job}
use Rattle.book.proofs.workbench.Bench.decide_work.Goals as goal

pub returns-clause-step : goal.returns-clause-step
returns-clause-step c =
    let s = c.args.self.now in
    let room : length s.jobs < 256 = grind (arith, common_steps) in
    let number : c.self.inside.last_job + 1 ≡ s.last_job + 1 = ap (λ (x : Workbench). x.last_job + 1) c.self.view_is in
    let version : c.version-version.result ≡ test_version s.tests c.args.test.now = c.version-version.ensures ∙ ap (λ (x : Workbench). test_version x.tests c.args.test.now) c.self.view_is in
    opened_job s 0 c.args.test.now c.args.cat.now c.args.tree.now c.args.tree.now c.args.model (c.self.inside.last_job + 1) c.version-version.result c.in-Ok.work c.in-Ok.work c.in_ok-job.job c.requires.open c.requires.there c.requires.model refl c.in-Ok.ensures.work c.in-Ok.ensures.admitted room number version refl
    c.in_ok-job.ensures.number c.in_ok-job.ensures.version c.in_ok-job.ensures.work c.in_ok-job.ensures.cut

pub returns-in-Err-TooManyRuns-clause-step : goal.returns-in-Err-TooManyRuns-clause-step
returns-in-Err-TooManyRuns-clause-step c =
    let s = c.args.self.now in
    let fault : SpaceFault = TooManyRuns c.in-Err-TooManyRuns.thread in
    let P : SpaceFault → Type 0 = λ f. IsSpaceFault c.args.tree.now f in
    let cause : IsSpaceFault c.args.tree.now fault = subst P c.in-Err-TooManyRuns.field-0-is c.in-Err-TooManyRuns.ensures.fault in
    let Q : ℕ → Type 0 = λ k. Step s 0 (Ask c.args.test.now c.args.cat.now) (Refused (Space (TooManyRuns k))) s in
    rw c.refuse.ensures (subst Q (sym c.in-Err-TooManyRuns.thread-is) (no_space s 0 c.args.test.now c.args.cat.now c.args.tree.now c.args.tree.now c.args.model fault c.requires.open c.requires.there c.requires.model refl cause (λ e. cc)))

pub returns-in-Err-TooManyCandidates-clause-step : goal.returns-in-Err-TooManyCandidates-clause-step
returns-in-Err-TooManyCandidates-clause-step c =
    let s = c.args.self.now in
    let P : SpaceFault → Type 0 = λ f. IsSpaceFault c.args.tree.now f in
    let cause : IsSpaceFault c.args.tree.now TooManyCandidates = subst P c.in-Err-TooManyCandidates.field-0-is c.in-Err-TooManyCandidates.ensures.fault in
    rw c.refuse-in-Err-TooManyCandidates.ensures (no_space s 0 c.args.test.now c.args.cat.now c.args.tree.now c.args.tree.now c.args.model TooManyCandidates c.requires.open c.requires.there c.requires.model refl cause (λ e. cc))
