use Rattle.program.proofs.Inputs.{test_refusal, cat_refusal, model_refusal, space_refusal}
use Rattle.program.proofs.summary.judge.Goals as goal

pub returns-in_err-test-clause-refusal : goal.returns-in_err-test-clause-refusal
returns-in_err-test-clause-refusal c =
    test_refusal c.args.text.now c.args.cat.now _ c.from_residual.result c.from_residual.ensures.1 c.in_err-test.ensures.only c.in_err-test.ensures.cause

pub returns-in_err-file-clause-refusal : goal.returns-in_err-file-clause-refusal
returns-in_err-file-clause-refusal c =
    cat_refusal c.args.text.now c.args.cat.now _ _ c.from_residual-in_err-file.result c.from_residual-in_err-file.ensures.1
    c.in_ok-test.ensures.found c.in_err-file.ensures.only c.in_err-file.ensures.cause

pub returns-in_err-model-clause-refusal : goal.returns-in_err-model-clause-refusal
returns-in_err-model-clause-refusal c =
    model_refusal c.args.text.now c.args.cat.now _ _ _ c.from_residual-in_err-model.result c.from_residual-in_err-model.ensures.1
    c.in_ok-test.ensures.found c.in_ok-file.ensures.found c.in_err-model.ensures.cause

pub returns-in_err-work-clause-refusal : goal.returns-in_err-work-clause-refusal
returns-in_err-work-clause-refusal c =
    space_refusal c.args.text.now c.args.cat.now c.in_ok-test.test c.in_ok-model.model _ c.from_residual-in_err-work.result c.from_residual-in_err-work.ensures.1
    c.in_ok-test.ensures.found
    (c.in_ok-file.file, c.in_ok-file.ensures.found, c.in_ok-model.ensures.model) c.in_err-work.ensures.fault

pub returns-clause-refusal : goal.returns-clause-refusal
returns-clause-refusal c = tt
