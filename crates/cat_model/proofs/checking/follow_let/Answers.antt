use Rattle.std.proofs.Common.{◌++◌, ◌∙◌, List, map, inl, inr, true, false, refl, sym, ap, subst, append-nil}
use Rattle.std.proofs.lemmas.Result.{err_from_is_err_and}
use Rattle.cat_tree.specs.Tree.{Defined, defined_of, values_in, functions_in, bind}
use Rattle.cat_model.specs.Behind.{World, Fit, values_above, functions_above, behind, first}
use Rattle.cat_model.specs.Names.{IsBound}
use Rattle.cat_model.specs.Scopes.{charges}
use Rattle.cat_model.specs.declared.scope.BoundName.{BoundName}
use Rattle.cat_model.proofs.Driven.{stands_push, known_behind, unbound_fault, large_fault, sort_fault}
use Rattle.cat_model.proofs.checking.follow_let.Goals as goal

pub returns-in_err-require_definitions_bound-clause-err : goal.returns-in_err-require_definitions_bound-clause-err
returns-in_err-require_definitions_bound-clause-err c =
    let p = err_from_is_err_and c.from_residual.result c.from_residual.ensures.1 in
    let ds : List Defined = map defined_of c.args.definitions.now in
    let ns = c.args.scope.now.names.items in
    rw (p.1, p.2) (λ front s. elim c.in_err-require_definitions_bound.ensures.err [
      | inl m ↦ inl m
      | inr u ↦ inr (unbound_fault c.in_err-require_definitions_bound.field-0.0 u.0 front (bind ds) u.2 (u.1, u.3, u.4) (known_behind ns c.args.total front u.0 false s u.5))
    ])

pub returns-in_err-sum-clause-err : goal.returns-in_err-sum-clause-err
returns-in_err-sum-clause-err c =
    let p = err_from_is_err_and c.from_residual-in_err-sum.result c.from_residual-in_err-sum.ensures.1 in
    let ds : List Defined = map defined_of c.args.definitions.now in
    let ns = c.args.scope.now.names.items in
    rw (p.1, p.2) (λ front s. elim c.in_err-sum.ensures.err [
      | inl m ↦ inl m
      | inr u ↦ inr (let b : IsBound front (bind ds) = λ x h. known_behind ns c.args.total front x true s (c.in_ok-require_definitions_bound.ensures.ok h.0 h.1 x h.2) in
          large_fault c.in_err-sum.field-0.0 front (bind ds) b (u (behind first front) (charges front) s.fit s.count))
    ])

pub returns-in_err-bind_values-clause-err : goal.returns-in_err-bind_values-clause-err
returns-in_err-bind_values-clause-err c =
    let p = err_from_is_err_and c.from_residual-in_err-bind_values.result c.from_residual-in_err-bind_values.ensures.1 in
    let ds : List Defined = map defined_of c.args.definitions.now in
    let ns = c.args.scope.now.names.items in
    rw (p.1, p.2) (λ front s. elim c.in_err-bind_values.ensures.err [
      | inl m ↦ inl m
      | inr u ↦ inr (let b : IsBound front (bind ds) = λ x h. known_behind ns c.args.total front x true s (c.in_ok-require_definitions_bound.ensures.ok h.0 h.1 x h.2) in
          sort_fault c.in_err-bind_values.field-0.0 u.0.name c.in_ok-sum.sum front (bind ds) u.1 b (c.in_ok-sum.ensures.ok (behind first front) (charges front) s.fit s.count) (u.0, u.2, refl, u.3 (behind first front) s.fit))
    ])

pub returns-clause-ok : goal.returns-clause-ok
returns-clause-ok c = λ front s.
    (let ds : List Defined = map defined_of c.args.definitions.now in
    let ns : List BoundName = c.args.scope.now.names.items in
    let W : World = behind first front in
    let b : IsBound front (bind ds) = λ x h. known_behind ns c.args.total front x true s (c.in_ok-require_definitions_bound.ensures.ok h.0 h.1 x h.2) in
    let start : Fit (ns ++ c.new-above.result.items) W = subst (λ l. Fit l W) (sym (ap (λ l. ns ++ l) c.new-above.ensures.items ∙ append-nil ns)) s.fit in
    let values = c.in_ok-bind_values.ensures.ok W W s.fit start in
    let all = c.in_ok-bind_functions.ensures W (values_above W (values_in ds) W) s.fit values in
    let whole : Fit c.append.new.self.items (functions_above W (functions_in ds) (values_above W (values_in ds) W)) = subst (λ l. Fit l (functions_above W (functions_in ds) (values_above W (values_in ds) W))) (sym c.in_ok-append.ensures.items) all in
    stands_push ns c.append.new.self.items c.args.total c.in_ok-sum.sum front (bind ds) s whole (c.in_ok-sum.ensures.ok W (charges front) s.fit s.count) b (c.in_ok-bind_values.ensures.sorted W s.fit))
