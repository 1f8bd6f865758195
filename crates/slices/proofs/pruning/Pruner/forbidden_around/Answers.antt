use Rattle.std.proofs.Common.{Option, refl, subst}
use Rattle.std.specs.Prelude.{IfSome}
use Rattle.slices.specs.Passing.{IsForbidden}
use Rattle.slices.specs.declared.lesson.Forbidden.{Forbidden}
use Rattle.slices.proofs.PassedOver.{block_known}
use Rattle.slices.proofs.pruning.Pruner.forbidden_around.Goals as goal

pub returns-in-Some-clause-forbidden : goal.returns-in-Some-clause-forbidden
returns-in-Some-clause-forbidden c =
    block_known c.args.evaluator.now.items c.loop-depth.evaluator.items c.args.walk.now c.args.walk.now c.in_ok-end.field-0 c.in-Some.end c.loop-depth.invariant.model refl c.in-Some.is c.in_ok-end.ensures.forbidden

pub returns-in-Some-learned-clause-forbidden : goal.returns-in-Some-learned-clause-forbidden
returns-in-Some-learned-clause-forbidden c =
    let items = c.args.evaluator.now.items in
    let P : Option Forbidden → Type 0 = λ o. IfSome o (λ f. IsForbidden items c.args.walk.now f.end) in
    subst P c.in-Some-learned.is (c.forbidden_around-learned.ensures.forbidden items c.requires.learned.0)
