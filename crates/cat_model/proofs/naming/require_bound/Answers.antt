use Rattle.std.proofs.Common.{Option, Bor, inr, ap, subst}
use Rattle.cat_tree.specs.Tree.{Word, term_of}
use Rattle.cat_model.specs.Along.{is_loose, IsFirstLoose}
use Rattle.cat_model.specs.Names.{names}
use Rattle.cat_model.specs.declared.fault.ModelFault.TheVariants.{Unbound}
use Rattle.cat_model.proofs.Contained.{found, none_found}
use Rattle.cat_model.proofs.naming.require_bound.Goals as goal

pub returns-in_ok-copy-in-Some-clause-err : goal.returns-in_ok-copy-in-Some-clause-err
returns-in_ok-copy-in-Some-clause-err c =
    let P : Option (Bor Word) → Type 0 = λ o. IsFirstLoose c.args.scope.now.names.items c.args.parameters.now o (term_of c.args.expression.now) in
    let f = found (is_loose c.args.scope.now.names.items c.args.parameters.now) (names (term_of c.args.expression.now)) c.in-Some.name.now (subst P c.in-Some.is c.in_ok-name.ensures) in
    inr (c.in-Some.name.now, ap Unbound c.in_ok-copy-in-Some.ensures, f.0, f.1)

pub returns-in-None-clause-ok : goal.returns-in-None-clause-ok
returns-in-None-clause-ok c =
    let P : Option (Bor Word) → Type 0 = λ o. IsFirstLoose c.args.scope.now.names.items c.args.parameters.now o (term_of c.args.expression.now) in
    none_found (is_loose c.args.scope.now.names.items c.args.parameters.now) (names (term_of c.args.expression.now)) (subst P c.in-None.is c.in_ok-name.ensures)
