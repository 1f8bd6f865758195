use Rattle.std.proofs.Common.{◌++◌, ◌∙◌, List, map, sym, ap, subst, append-nil}
use Rattle.cat_tree.specs.Tree.{defined_of, functions_in}
use Rattle.cat_model.specs.Behind.{Fit, functions_above, unbound}
use Rattle.cat_model.specs.declared.scope.BoundName.{BoundName}
use Rattle.cat_model.proofs.Pushed.{fit_none}
use Rattle.cat_model.proofs.checking.first_scope.Goals as goal

pub returns : goal.returns
returns c =
    let ns : List BoundName = c.new-scope.result.names.items in
    let none : Fit ns unbound = subst (λ l. Fit l unbound) (sym c.new-scope.ensures) fit_none in
    let start : Fit (ns ++ c.new-above.result.items) unbound = subst (λ l. Fit l unbound) (sym (ap (λ l. ns ++ l) c.new-above.ensures.items ∙ append-nil ns)) none in
    let end = c.in_ok-bind_functions.ensures unbound unbound none start in
    let whole : Fit c.append.new.self.items (functions_above unbound (functions_in (map defined_of c.args.functions.now)) unbound) = subst (λ l. Fit l (functions_above unbound (functions_in (map defined_of c.args.functions.now)) unbound)) (sym c.in_ok-append.ensures.items) end in
    subst (λ ds. Fit c.append.new.self.items (functions_above unbound (functions_in ds) unbound)) c.requires whole
