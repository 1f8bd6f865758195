use Rattle.std.proofs.Common.{ℕ, Option, sym, subst}
use Rattle.std.specs.Prelude.{IfSome}
use Rattle.slices.specs.Passing.{IsForbidden, NoneAllowed}
use Rattle.slices.specs.declared.span.Span.{Span}
use Rattle.slices.proofs.PassedOver.{gone_on, none_from}
use Rattle.slices.proofs.pruning.Pruner.passes.Goals as goal

pub returns-in_err-end-clause-known : goal.returns-in_err-end-clause-known
returns-in_err-end-clause-known c =
    let R : Span → Type 0 = λ z. NoneAllowed c.args.evaluator.now.items c.args.walk.now.space z.from z.to in
    (subst R (sym c.forbidden_around.ensures.refuted) c.requires.known.0, c.forbidden_around.ensures.learned)

pub returns-in_default-clause-known : goal.returns-in_default-clause-known
returns-in_default-clause-known c =
    let R : Span → Type 0 = λ z. NoneAllowed c.args.evaluator.now.items c.args.walk.now.space z.from z.to in
    (subst R (sym c.forbidden_around.ensures.refuted) c.requires.known.0, c.forbidden_around.ensures.learned)

pub returns-clause-known : goal.returns-clause-known
returns-clause-known c =
    let items = c.args.evaluator.now.items in
    let P : Option ℕ → Type 0 = λ o. IfSome o (IsForbidden items c.args.walk.now) in
    (none_from items c.args.walk.now c.args.number c.in-Some.end c.requires.found (subst P c.in-Some.is c.in_ok-end.ensures.forbidden), c.forbidden_around.ensures.learned)

pub returns-clause-passed : goal.returns-clause-passed
returns-clause-passed c =
    let items = c.args.evaluator.now.items in
    let P : Option ℕ → Type 0 = λ o. IfSome o (IsForbidden items c.args.walk.now) in
    gone_on items c.args.number c.in-Some.end c.args.walk.now c.pass.new.self c.requires.found (subst P c.in-Some.is c.in_ok-end.ensures.forbidden) c.pass.ensures.space c.pass.ensures.to c.pass.ensures.next
