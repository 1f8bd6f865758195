use Rattle.std.proofs.Common.{◌≡◌, List, inl, inr, true, false, subst}
use Rattle.std.specs.List.{Contains}
use Rattle.std.proofs.lemmas.Result.{err_from_is_err_and}
use Rattle.cat_tree.specs.Tree.{Word, Defined, defined_of}
use Rattle.cat_model.specs.Along.{is_loose}
use Rattle.cat_model.specs.Lookups.{is_known}
use Rattle.cat_model.specs.Names.{names, free_names}
use Rattle.cat_model.proofs.Contained.{contains_at, each_more, each_end}
use Rattle.cat_model.proofs.Loose.{known_free, free_loose}
use Rattle.cat_model.proofs.naming.require_definitions_bound.Goals as goal

pub returns-in_err-require_bound-clause-err : goal.returns-in_err-require_bound-clause-err
returns-in_err-require_bound-clause-err c =
    let p = err_from_is_err_and c.from_residual.result c.from_residual.ensures.1 in
    let d : Defined = defined_of c.definition-item.result in
    rw (p.1, p.2)
    (elim c.in_err-require_bound.ensures.err [
      | inl m ↦ inl m
      | inr u ↦ inr (let P : List Word → Type 0 = λ ps. is_loose c.args.scope.now.names.items ps u.0 ≡ true in
          let f = free_loose c.args.scope.now.names.items d u.0 u.2 (subst P c.deref.ensures.value u.3) in
          (u.0, d, u.1, contains_at defined_of c.args.definitions.now c.loop-definition.definition-index c.definition-item.result c.loop-definition-test.true c.definition-item.is, f.0, f.1))
    ])

pub loop-definition-preserved : goal.loop-definition-preserved
loop-definition-preserved c =
    let d : Defined = defined_of c.definition-item.result in
    let P : List Word → Type 0 = λ ps. (x : Word) → Contains (names d.value) x → is_loose c.args.scope.now.names.items ps x ≡ false in
    each_more (λ e. (x : Word) → Contains (free_names e) x → is_known c.args.scope.now.names.items x ≡ true) defined_of c.args.definitions.now c.loop-definition.definition-index c.definition-item.result c.loop-definition-test.true c.definition-item.is c.loop-definition.invariant
    (known_free c.args.scope.now.names.items d (subst P c.deref.ensures.value c.in_ok-require_bound.ensures.ok))

pub returns-clause-ok : goal.returns-clause-ok
returns-clause-ok c =
    each_end (λ e. (x : Word) → Contains (free_names e) x → is_known c.args.scope.now.names.items x ≡ true) defined_of c.args.definitions.now c.loop-definition.definition-index c.loop-definition-test.false c.loop-definition.invariant
