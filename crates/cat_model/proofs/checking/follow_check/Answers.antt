use Rattle.std.proofs.Common.{inl, inr, true, false, refl}
use Rattle.std.proofs.lemmas.Result.{err_from_is_err_and}
use Rattle.cat_tree.specs.Tree.{check_of}
use Rattle.cat_model.specs.Behind.{behind, first}
use Rattle.cat_model.specs.Lookups.{is_known}
use Rattle.cat_model.specs.Names.{IsBound}
use Rattle.cat_model.specs.Scopes.{charges}
use Rattle.cat_model.proofs.Driven.{stands_push, known_behind, unbound_fault, large_fault, sort_fault}
use Rattle.cat_model.proofs.Loose.{known_bound, unknown_bound}
use Rattle.cat_model.proofs.checking.follow_check.Goals as goal

pub returns-in_err-require_bound-clause-err : goal.returns-in_err-require_bound-clause-err
returns-in_err-require_bound-clause-err c =
    let p = err_from_is_err_and c.from_residual-in_err-require_bound.result c.from_residual-in_err-require_bound.ensures.1 in
    let ns = c.args.scope.now.names.items in
    rw (p.1, p.2) (λ front s. elim c.in_err-require_bound.ensures.err [
      | inl m ↦ inl m
      | inr u ↦ inr (unbound_fault c.in_err-require_bound.field-0.0 u.0 front (check_of c.args.check.now) u.1 u.2 (known_behind ns c.args.total front u.0 false s (unknown_bound (is_known ns u.0) u.3)))
    ])

pub returns-in_err-sum-clause-err : goal.returns-in_err-sum-clause-err
returns-in_err-sum-clause-err c =
    let p = err_from_is_err_and c.from_residual-in_err-sum.result c.from_residual-in_err-sum.ensures.1 in
    let ns = c.args.scope.now.names.items in
    rw (p.1, p.2) (λ front s. elim c.in_err-sum.ensures.err [
      | inl m ↦ inl m
      | inr u ↦ inr (let b : IsBound front (check_of c.args.check.now) = λ x h. known_behind ns c.args.total front x true s (known_bound (is_known ns x) (c.in_ok-require_bound.ensures.ok x h)) in
          large_fault c.in_err-sum.field-0.0 front (check_of c.args.check.now) b (u (behind first front) (charges front) s.fit s.count))
    ])

pub returns-in_err-require_testable-clause-err : goal.returns-in_err-require_testable-clause-err
returns-in_err-require_testable-clause-err c =
    let p = err_from_is_err_and c.from_residual-in_err-require_testable.result c.from_residual-in_err-require_testable.ensures.1 in
    let ns = c.args.scope.now.names.items in
    rw (p.1, p.2) (λ front s. elim c.in_err-require_testable.ensures.err [
      | inl m ↦ inl m
      | inr u ↦ inr (let b : IsBound front (check_of c.args.check.now) = λ x h. known_behind ns c.args.total front x true s (known_bound (is_known ns x) (c.in_ok-require_bound.ensures.ok x h)) in
          sort_fault c.in_err-require_testable.field-0.0 _ c.in_ok-sum.sum front (check_of c.args.check.now) u.0 b (c.in_ok-sum.ensures.ok (behind first front) (charges front) s.fit s.count) (refl, u.1 (behind first front) s.fit))
    ])

pub returns-clause-ok : goal.returns-clause-ok
returns-clause-ok c = λ front s.
    (let ns = c.args.scope.now.names.items in
    let b : IsBound front (check_of c.args.check.now) = λ x h. known_behind ns c.args.total front x true s (known_bound (is_known ns x) (c.in_ok-require_bound.ensures.ok x h)) in
    stands_push ns ns c.args.total c.in_ok-sum.sum front (check_of c.args.check.now) s s.fit (c.in_ok-sum.ensures.ok (behind first front) (charges front) s.fit s.count) b
    (c.in_ok-require_name.ensures.ok, c.in_ok-require_testable.ensures.ok (behind first front) s.fit))
