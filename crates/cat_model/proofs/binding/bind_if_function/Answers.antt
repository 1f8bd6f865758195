use Rattle.std.proofs.Common.{◌≡◌, ◌++◌, ◌∷◌, [], sym, subst, arith, vec_len}
use Rattle.std.proofs.lemmas.Bool.{eqb-false}
use Rattle.std.proofs.lemmas.Result.{on_ok_weaker}
use Rattle.cat_tree.specs.Tree.{Defined, defined_of, function_if}
use Rattle.cat_model.specs.Behind.{Fit, functions_above}
use Rattle.cat_model.proofs.Pushed.{some_function}
use Rattle.cat_model.proofs.binding.bind_if_function.Goals as goal

pub returns-else-is_empty : goal.returns-else-is_empty
returns-else-is_empty c =
    let d : Defined = defined_of c.args.definition.now in
    let some : function_if d.parameters d [] ≡ d ∷ [] = some_function d.parameters d (λ n. eqb-false (vec_len c.args.definition.now.parameters) 0 (sym c.if-is_empty.ensures) (omega (arith, n))) in
    on_ok_weaker c.bind_function.result (λ h B W f g. subst (λ l. Fit (c.args.scope.now.names.items ++ c.bind_function.new.above.items) (functions_above B l W)) (sym some) (h B W f g)) c.bind_function.ensures
