use Rattle.std.proofs.Common.{◌∙◌, inr, ap}
use Rattle.cat_model.specs.declared.fault.ModelFault.TheVariants.{WrongSort}
use Rattle.cat_model.proofs.Listed.{clash}
use Rattle.cat_model.proofs.checking.require_testable.Goals as goal

pub returns-then-not-branch-clause-err : goal.returns-then-not-branch-clause-err
returns-then-not-branch-clause-err c = inr (ap WrongSort (c.in_ok-word.ensures ∙ c.spelling.ensures), λ W f t. clash c.in_ok-is_testable.field-0 c.if-not-branch.true ((c.in_ok-is_testable.ensures W f).1 t))

pub returns-clause-ok : goal.returns-clause-ok
returns-clause-ok c = λ W f. (c.in_ok-is_testable.ensures W f).0 c.if-not-branch.false
