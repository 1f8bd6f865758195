use Rattle.std.proofs.Common.{List, map, take, inl, inr, subst}
use Rattle.std.proofs.lemmas.List.Elements.{All-contains}
use Rattle.std.proofs.lemmas.Result.{err_from_is_err_and}
use Rattle.cat_tree.specs.Tree.{Clause, clause_of}
use Rattle.cat_model.specs.Closure.{IsOwn}
use Rattle.cat_model.specs.Counts.{Stands}
use Rattle.cat_model.proofs.Contained.{contains_at}
use Rattle.cat_model.proofs.Driven.{front_more, faulty_at}
use Rattle.cat_model.proofs.Listed.{at_map, long_map}
use Rattle.cat_model.proofs.checking.require_model.Goals as goal

pub follow-requires : goal.follow-requires
follow-requires c =
    All-contains IsOwn (map clause_of c.args.items.now) (clause_of c.item-item.result) c.requires.own (contains_at clause_of c.args.items.now c.loop-item.item-index c.item-item.result c.loop-item-test.true c.item-item.is)

pub returns-in_err-total-clause-err : goal.returns-in_err-total-clause-err
returns-in_err-total-clause-err c =
    let p = err_from_is_err_and c.from_residual-in_err-total.result c.from_residual-in_err-total.ensures.1 in
    let is : List Clause = map clause_of c.args.items.now in
    let k = c.loop-item.item-index in
    rw (p.1, p.2)
    (elim (c.in_err-total.ensures.err (take k is) c.loop-item.invariant) [
      | inl m ↦ inl m
      | inr u ↦ inr (faulty_at c.in_err-total.field-0.0 is k (clause_of c.item-item.result) (long_map clause_of c.args.items.now k c.loop-item-test.true) (at_map clause_of c.args.items.now k c.item-item.result c.loop-item-test.true c.item-item.is) c.loop-item.invariant.ordered u)
    ])

pub loop-item-preserved : goal.loop-item-preserved
loop-item-preserved c =
    let is : List Clause = map clause_of c.args.items.now in
    let k = c.loop-item.item-index in
    subst (Stands c.follow.new.scope.names.items c.in_ok-total.total) (front_more is k (clause_of c.item-item.result) (long_map clause_of c.args.items.now k c.loop-item-test.true) (at_map clause_of c.args.items.now k c.item-item.result c.loop-item-test.true c.item-item.is))
    (c.in_ok-total.ensures.ok (take k is) c.loop-item.invariant)
