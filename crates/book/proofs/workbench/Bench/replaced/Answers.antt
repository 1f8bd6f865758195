use Rattle.std.proofs.Common.{◌≡◌, Option, refl, subst}
use Rattle.std.proofs.lemmas.Bool.{eq-eqb}
use Rattle.std.specs.Prelude.{IfOk}
use Rattle.journal.specs.declared.records.Replacement.{Replacement}
use Rattle.book.specs.Workbench.{test_version, replaced, replaced_file}
use Rattle.book.proofs.workbench.Bench.replaced.Goals as goal

pub returns : goal.returns
returns c =
    let version : test_version c.self.inside.tests c.args.job.now.work.test.name ≡ c.args.job.now.version = cc in
    let files : c.files-files.result.now ≡ c.args.job.now.work.model.files = cc in
    let P : Option Replacement → Type 0 = λ o. IfOk c.replaced_file.result (λ r. r ≡ o) in
    let is : replaced_file c.self.inside.cats c.files-files.result.now ≡ replaced c.args.self.now c.args.job.now = rw (← c.self.view_is, files, eq-eqb _ _ version) refl in
    subst P is c.replaced_file.ensures
