use Rattle.std.proofs.Common.{◌≡◌, inl, inr, true}
use Rattle.std.specs.List.{Contains}
use Rattle.std.proofs.lemmas.Result.{err_from_is_err_and}
use Rattle.cat_tree.specs.Tree.{Word, Bound, bound_of}
use Rattle.cat_model.specs.Lookups.{is_known}
use Rattle.cat_model.specs.Names.{names}
use Rattle.cat_model.proofs.Contained.{contains_at, each_more, each_end}
use Rattle.cat_model.proofs.Loose.{known_bound, unknown_bound}
use Rattle.cat_model.proofs.naming.require_bindings_bound.Goals as goal

pub returns-in_err-require_bound-clause-err : goal.returns-in_err-require_bound-clause-err
returns-in_err-require_bound-clause-err c =
    let p = err_from_is_err_and c.from_residual.result c.from_residual.ensures.1 in
    let b : Bound = bound_of c.binding-item.result in
    rw (p.1, p.2)
    (elim c.in_err-require_bound.ensures.err [
      | inl m ↦ inl m
      | inr u ↦ inr (u.0, b, u.1, contains_at bound_of c.args.bindings.now c.loop-binding.binding-index c.binding-item.result c.loop-binding-test.true c.binding-item.is, u.2, unknown_bound (is_known c.args.scope.now.names.items u.0) u.3)
    ])

pub loop-binding-preserved : goal.loop-binding-preserved
loop-binding-preserved c =
    each_more (λ b. (x : Word) → Contains (names b.value) x → is_known c.args.scope.now.names.items x ≡ true) bound_of c.args.bindings.now c.loop-binding.binding-index c.binding-item.result c.loop-binding-test.true c.binding-item.is c.loop-binding.invariant
    (λ x h. known_bound (is_known c.args.scope.now.names.items x) (c.in_ok-require_bound.ensures.ok x h))

pub returns-clause-ok : goal.returns-clause-ok
returns-clause-ok c =
    each_end (λ b. (x : Word) → Contains (names b.value) x → is_known c.args.scope.now.names.items x ≡ true) bound_of c.args.bindings.now c.loop-binding.binding-index c.loop-binding-test.false c.loop-binding.invariant
