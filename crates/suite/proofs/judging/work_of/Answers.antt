use Rattle.std.proofs.Common.{◌∙◌, ap, rules}
use Rattle.litmus_tree.specs.Tree.{Litmus}
use Rattle.cat_model.specs.Models.{Assembly}
use Rattle.slices.specs.Works.{WorkValue}
use Rattle.suite.proofs.Told.{space_told}
use Rattle.suite.proofs.judging.work_of.Goals as goal

pub returns-in-Err-clause-cause : goal.returns-in-Err-clause-cause
returns-in-Err-clause-cause c = space_told _ _ _ _ _ c.in-Err.is c.new.ensures.fault (search rules) c.of_space.ensures

pub returns-in_ok-new-in-Ok-clause-work : goal.returns-in_ok-new-in-Ok-clause-work
returns-in_ok-new-in-Ok-clause-work c =
    let of_test : Litmus → WorkValue = λ t. record { test = t; model = c.in_ok-copy-2.field-0 } in
    let of_model : Assembly → WorkValue = λ m. record { test = c.args.test.now; model = m } in
    c.in_ok-new-in-Ok.ensures ∙ c.in-Ok.ensures.work ∙ ap of_test c.in_ok-copy.ensures ∙ ap of_model c.in_ok-copy-2.ensures
