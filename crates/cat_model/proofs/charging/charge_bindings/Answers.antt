use Rattle.std.proofs.Common.{◌+◌, ◌∷◌, [], List, inl, inr, ap, map, drop}
use Rattle.std.proofs.Math.ListN.{drop_of_length-le}
use Rattle.std.proofs.lemmas.Result.{err_from_is_err_and}
use Rattle.cat_tree.specs.Tree.{Bound, bound_of}
use Rattle.cat_model.specs.Scopes.{Charge, charge, charges_for}
use Rattle.cat_model.proofs.Charged.{up_to_more, up_to_end, over_told, mapped_more}
use Rattle.cat_model.proofs.charging.charge_bindings.Goals as goal

pub returns-in_err-sum-clause-err : goal.returns-in_err-sum-clause-err
returns-in_err-sum-clause-err c =
    let p = err_from_is_err_and c.from_residual.result c.from_residual.ensures.1 in
    let b : Bound = bound_of c.binding-item.result in
    rw (p.1, p.2)
    (elim c.in_err-sum.ensures.err [
      | inl m ↦ inl m
      | inr u ↦ inr (λ W cs f h.
          (let some : List Bound → List Charge = λ bs. charges_for W.sizes W.depths bs in
          let e = ap some (mapped_more bound_of c.args.bindings.now c.loop-binding.binding-index c.binding-item.result c.loop-binding-test.true c.binding-item.is) in
          over_told c.in_err-sum.field-0.0 c.loop-binding.sum cs (charge W.sizes W.depths b.name b.value ∷ []) (some (map bound_of (drop (c.loop-binding.binding-index + 1) c.args.bindings.now))) (some (map bound_of (drop c.loop-binding.binding-index c.args.bindings.now))) (some (map bound_of c.args.bindings.now))
          e (c.loop-binding.invariant W cs f h) (λ ds k. u W ds f k)))
    ])

pub loop-binding-preserved : goal.loop-binding-preserved
loop-binding-preserved c = λ W cs f h.
    (let b : Bound = bound_of c.binding-item.result in
    let some : List Bound → List Charge = λ bs. charges_for W.sizes W.depths bs in
    let e = ap some (mapped_more bound_of c.args.bindings.now c.loop-binding.binding-index c.binding-item.result c.loop-binding-test.true c.binding-item.is) in
    up_to_more c.loop-binding.sum c.in_ok-sum.sum cs (charge W.sizes W.depths b.name b.value ∷ []) (some (map bound_of (drop (c.loop-binding.binding-index + 1) c.args.bindings.now))) (some (map bound_of (drop c.loop-binding.binding-index c.args.bindings.now))) (some (map bound_of c.args.bindings.now))
    e (c.loop-binding.invariant W cs f h) (λ ds k. c.in_ok-sum.ensures.ok W ds f k))

pub returns-clause-ok : goal.returns-clause-ok
returns-clause-ok c = λ W cs f h.
    (let some : List Bound → List Charge = λ bs. charges_for W.sizes W.depths bs in
    up_to_end c.loop-binding.sum cs (some (map bound_of (drop c.loop-binding.binding-index c.args.bindings.now))) (some (map bound_of c.args.bindings.now))
    (ap (λ bs. some (map bound_of bs)) (drop_of_length-le c.args.bindings.now c.loop-binding-test.false)) (c.loop-binding.invariant W cs f h))
