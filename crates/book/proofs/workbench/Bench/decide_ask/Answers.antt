use Rattle.std.proofs.Common.{◌≡◌, ◌∙◌, sym, ap, subst, Some}
use Rattle.cat_model.specs.Faults.{IsCause}
use Rattle.slices.specs.Works.{IsModelOf}
use Rattle.book.specs.Workbench.{Workbench, test_of}
use Rattle.book.proofs.Steps.{no_model}
use Rattle.book.proofs.workbench.Bench.decide_ask.Goals as goal

pub returns-in-Err-clause-step : goal.returns-in-Err-clause-step
returns-in-Err-clause-step c =
    let there : test_of c.args.self.now.tests c.args.test.now ≡ Some c.in-Some.tree.now = sym (ap (λ (s : Workbench). test_of s.tests c.args.test.now) c.self.view_is) ∙ c.in-Some.ensures in
    let P : Workbench → Type 0 = λ s. IsCause c.in-Err.fault s.cats c.args.cat.now in
    rw c.refuse-in-Err.ensures (no_model c.args.self.now 0 c.args.test.now c.args.cat.now c.in-Some.tree.now c.in-Err.fault c.requires.open there (subst P c.self.view_is (c.in-Err.ensures.cause c.if-is_model_memory.ensures)))

pub decide_work-requires-clause-there : goal.decide_work-requires-clause-there
decide_work-requires-clause-there c = sym (ap (λ (s : Workbench). test_of s.tests c.args.test.now) c.self.view_is) ∙ c.in-Some.ensures

pub decide_work-requires-clause-model : goal.decide_work-requires-clause-model
decide_work-requires-clause-model c = let P : Workbench → Type 0 = λ s. IsModelOf s.cats c.args.cat.now c.in-Ok.model in subst P c.self.view_is c.in-Ok.ensures.model
