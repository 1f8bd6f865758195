use Rattle.std.proofs.Common.{List, Option, Bor, map, inl, inr, refl, ap, subst}
use Rattle.std.specs.Prelude.{MatchOption}
use Rattle.std.specs.List.{Contains}
use Rattle.std.proofs.lemmas.Result.{err_from_is_err_and}
use Rattle.cat_tree.specs.Tree.{Word, Bound, bound_of, bind_recursively}
use Rattle.cat_model.specs.Behind.{group_above, behind, first}
use Rattle.cat_model.specs.Denials.{marks, grouped, denied_in}
use Rattle.cat_model.specs.Names.{IsBound}
use Rattle.cat_model.specs.Scopes.{IsMonotone, charges}
use Rattle.cat_model.specs.declared.fault.ModelFault.TheVariants.{NotMonotone}
use Rattle.cat_model.proofs.Driven.{stands_push, group_unknown, group_known, unbound_fault, large_fault, sort_fault, denied_fault}
use Rattle.cat_model.proofs.checking.follow_recursion.Goals as goal

pub returns-in_err-require_bindings_bound-clause-err : goal.returns-in_err-require_bindings_bound-clause-err
returns-in_err-require_bindings_bound-clause-err c =
    let p = err_from_is_err_and c.from_residual-in_err-require_bindings_bound.result c.from_residual-in_err-require_bindings_bound.ensures.1 in
    let bs : List Bound = map bound_of c.args.bindings.now in
    let ns = c.args.scope.now.names.items in
    let ms = c.bind_group.new.scope.names.items in
    rw (p.1, p.2) (λ front s. elim c.in_err-require_bindings_bound.ensures.err [
      | inl m ↦ inl m
      | inr u ↦ inr (let k = group_unknown ns ms c.args.total front bs u.0 s (c.in_ok-bind_group.ensures (behind first front) s.fit) u.5 in
          unbound_fault c.in_err-require_bindings_bound.field-0.0 u.0 front (bind_recursively bs) u.2 (u.1, u.3, u.4, k.0) k.1)
    ])

pub returns-in_err-sum-clause-err : goal.returns-in_err-sum-clause-err
returns-in_err-sum-clause-err c =
    let p = err_from_is_err_and c.from_residual-in_err-sum.result c.from_residual-in_err-sum.ensures.1 in
    let bs : List Bound = map bound_of c.args.bindings.now in
    let ns = c.args.scope.now.names.items in
    let ms = c.bind_group.new.scope.names.items in
    rw (p.1, p.2) (λ front s. elim c.in_err-sum.ensures.err [
      | inl m ↦ inl m
      | inr u ↦ inr (let f = c.in_ok-bind_group.ensures (behind first front) s.fit in
          let b : IsBound front (bind_recursively bs) = λ x h. group_known ns ms c.args.total front bs x s f (c.in_ok-require_bindings_bound.ensures.ok h.0 h.1 x h.2) h.3 in
          large_fault c.in_err-sum.field-0.0 front (bind_recursively bs) b (u (group_above bs (behind first front)) (charges front) f s.count))
    ])

pub returns-in_err-require_relations-clause-err : goal.returns-in_err-require_relations-clause-err
returns-in_err-require_relations-clause-err c =
    let p = err_from_is_err_and c.from_residual-in_err-require_relations.result c.from_residual-in_err-require_relations.ensures.1 in
    let bs : List Bound = map bound_of c.args.bindings.now in
    let ns = c.args.scope.now.names.items in
    let ms = c.bind_group.new.scope.names.items in
    rw (p.1, p.2) (λ front s. elim c.in_err-require_relations.ensures.err [
      | inl m ↦ inl m
      | inr u ↦ inr (let f = c.in_ok-bind_group.ensures (behind first front) s.fit in
          let b : IsBound front (bind_recursively bs) = λ x h. group_known ns ms c.args.total front bs x s f (c.in_ok-require_bindings_bound.ensures.ok h.0 h.1 x h.2) h.3 in
          sort_fault c.in_err-require_relations.field-0.0 u.0.name c.in_ok-sum.sum front (bind_recursively bs) u.1 b (c.in_ok-sum.ensures.ok (group_above bs (behind first front)) (charges front) f s.count) (u.0, u.2, refl, u.3 (group_above bs (behind first front)) f))
    ])

pub returns-in_ok-copy-in-Some-clause-err : goal.returns-in_ok-copy-in-Some-clause-err
returns-in_ok-copy-in-Some-clause-err c = λ front s.
    (let bs : List Bound = map bound_of c.args.bindings.now in
    let P : Option (Bor Word) → Type 0 = λ o. MatchOption o (IsMonotone (behind first front).marks bs) (λ x. (b : Bound) × Contains bs b × Contains (denied_in (marks (grouped bs (behind first front).marks) b.value)) x.now) in
    let d = subst P c.in-Some.is (c.in_ok-denied.ensures (behind first front) s.fit) in
    inr (denied_fault _ c.in-Some.name.now front (bind_recursively bs) (ap NotMonotone c.in_ok-copy-in-Some.ensures) d))

pub returns-in-None-clause-ok : goal.returns-in-None-clause-ok
returns-in-None-clause-ok c = λ front s.
    (let bs : List Bound = map bound_of c.args.bindings.now in
    let ns = c.args.scope.now.names.items in
    let ms = c.bind_group.new.scope.names.items in
    let f = c.in_ok-bind_group.ensures (behind first front) s.fit in
    let b : IsBound front (bind_recursively bs) = λ x h. group_known ns ms c.args.total front bs x s f (c.in_ok-require_bindings_bound.ensures.ok h.0 h.1 x h.2) h.3 in
    let P : Option (Bor Word) → Type 0 = λ o. MatchOption o (IsMonotone (behind first front).marks bs) (λ x. (b : Bound) × Contains bs b × Contains (denied_in (marks (grouped bs (behind first front).marks) b.value)) x.now) in
    stands_push ns ms c.args.total c.in_ok-sum.sum front (bind_recursively bs) s f (c.in_ok-sum.ensures.ok (group_above bs (behind first front)) (charges front) f s.count) b
    (c.in_ok-require_relations.ensures.ok (group_above bs (behind first front)) f, subst P c.in-None.is (c.in_ok-denied.ensures (behind first front) s.fit)))
