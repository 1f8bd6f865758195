use Rattle.std.proofs.Common.{◌∙◌, ◌+◌, ◌∷◌, [], List, inl, inr, ap, map, drop}
use Rattle.std.proofs.Math.ListN.{drop_of_length-le}
use Rattle.std.proofs.lemmas.Result.{err_from_is_err_and}
use Rattle.cat_tree.specs.Tree.{Defined, defined_of, values_in}
use Rattle.cat_model.specs.Scopes.{Charge, charges_for}
use Rattle.cat_model.proofs.Charged.{charges_first, up_to_more, up_to_end, over_told, mapped_more}
use Rattle.cat_model.proofs.charging.charge_definitions.Goals as goal

pub returns-in_err-sum-clause-err : goal.returns-in_err-sum-clause-err
returns-in_err-sum-clause-err c =
    let p = err_from_is_err_and c.from_residual.result c.from_residual.ensures.1 in
    let b : Defined = defined_of c.definition-item.result in
    rw (p.1, p.2)
    (elim c.in_err-sum.ensures.err [
      | inl m ↦ inl m
      | inr u ↦ inr (λ W cs f h.
          (let some : List Defined → List Charge = λ bs. charges_for W.sizes W.depths (values_in bs) in
          let e = ap some (mapped_more defined_of c.args.definitions.now c.loop-definition.definition-index c.definition-item.result c.loop-definition-test.true c.definition-item.is) ∙ charges_first W.sizes W.depths b (map defined_of (drop (c.loop-definition.definition-index + 1) c.args.definitions.now)) in
          over_told c.in_err-sum.field-0.0 c.loop-definition.sum cs (some (b ∷ [])) (some (map defined_of (drop (c.loop-definition.definition-index + 1) c.args.definitions.now))) (some (map defined_of (drop c.loop-definition.definition-index c.args.definitions.now))) (some (map defined_of c.args.definitions.now))
          e (c.loop-definition.invariant W cs f h) (λ ds k. u W ds f k)))
    ])

pub loop-definition-preserved : goal.loop-definition-preserved
loop-definition-preserved c = λ W cs f h.
    (let b : Defined = defined_of c.definition-item.result in
    let some : List Defined → List Charge = λ bs. charges_for W.sizes W.depths (values_in bs) in
    let e = ap some (mapped_more defined_of c.args.definitions.now c.loop-definition.definition-index c.definition-item.result c.loop-definition-test.true c.definition-item.is) ∙ charges_first W.sizes W.depths b (map defined_of (drop (c.loop-definition.definition-index + 1) c.args.definitions.now)) in
    up_to_more c.loop-definition.sum c.in_ok-sum.sum cs (some (b ∷ [])) (some (map defined_of (drop (c.loop-definition.definition-index + 1) c.args.definitions.now))) (some (map defined_of (drop c.loop-definition.definition-index c.args.definitions.now))) (some (map defined_of c.args.definitions.now))
    e (c.loop-definition.invariant W cs f h) (λ ds k. c.in_ok-sum.ensures.ok W ds f k))

pub returns-clause-ok : goal.returns-clause-ok
returns-clause-ok c = λ W cs f h.
    (let some : List Defined → List Charge = λ bs. charges_for W.sizes W.depths (values_in bs) in
    up_to_end c.loop-definition.sum cs (some (map defined_of (drop c.loop-definition.definition-index c.args.definitions.now))) (some (map defined_of c.args.definitions.now))
    (ap (λ bs. some (map defined_of bs)) (drop_of_length-le c.args.definitions.now c.loop-definition-test.false)) (c.loop-definition.invariant W cs f h))
