use Rattle.std.proofs.Common.{◌≡◌, ◌+◌, ◌++◌, ◌∷◌, ◌∙◌, [], List, map, drop, refl, sym, ap, subst}
use Rattle.std.proofs.Math.ListN.{drop_of_length-le}
use Rattle.cat_tree.specs.Tree.{Defined, defined_of, functions_in}
use Rattle.cat_model.specs.Behind.{Fit, functions_above}
use Rattle.cat_model.proofs.Charged.{mapped_more}
use Rattle.cat_model.proofs.Pushed.{functions_first}
use Rattle.cat_model.proofs.binding.bind_functions.Goals as goal

pub loop-definition-init : goal.loop-definition-init
loop-definition-init c = λ B W f g. (W, g, refl)

pub loop-definition-preserved : goal.loop-definition-preserved
loop-definition-preserved c = λ B W f g.
    (let d : Defined = defined_of c.definition-item.result in
    let rest : List Defined = map defined_of (drop (c.loop-definition.definition-index + 1) c.args.definitions.now) in
    let e = mapped_more defined_of c.args.definitions.now c.loop-definition.definition-index c.definition-item.result c.loop-definition-test.true c.definition-item.is in
    let u = c.loop-definition.invariant B W f g in
    (functions_above B (functions_in (d ∷ [])) u.0, c.in_ok-bind_if_function.ensures B u.0 f u.1, functions_first B d rest u.0 ∙ ap (λ l. functions_above B (functions_in l) u.0) (sym e) ∙ u.2))

pub returns : goal.returns
returns c = λ B W f g.
    (let u = c.loop-definition.invariant B W f g in
    let e : functions_above B (functions_in (map defined_of (drop c.loop-definition.definition-index c.args.definitions.now))) u.0 ≡ u.0 = ap (λ l. functions_above B (functions_in (map defined_of l)) u.0) (drop_of_length-le c.args.definitions.now c.loop-definition-test.false) in
    subst (Fit (c.args.scope.now.names.items ++ c.loop-definition.above.items)) (sym e ∙ u.2) u.1)
