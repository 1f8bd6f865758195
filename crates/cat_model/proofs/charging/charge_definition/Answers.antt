use Rattle.std.proofs.Common.{◌≡◌, [], List, inl, inr, subst, sym, arith, vec_len}
use Rattle.std.proofs.lemmas.Bool.{eqb-true}
use Rattle.std.proofs.lemmas.Result.{IfErr-weaker}
use Rattle.cat_tree.specs.Tree.{Word, Defined, defined_of, value_if}
use Rattle.cat_model.specs.Counts.{IsOver}
use Rattle.cat_model.specs.Scopes.{charges_for}
use Rattle.cat_model.proofs.Waiting.{nothing}
use Rattle.cat_model.proofs.charging.charge_definition.Goals as goal

pub returns-then-is_empty-clause-err : goal.returns-then-is_empty-clause-err
returns-then-is_empty-clause-err c =
    let d : Defined = defined_of c.args.definition.now in
    let none : d.parameters ≡ [] = nothing d.parameters (let e = eqb-true (vec_len c.args.definition.now.parameters) 0 (sym c.if-is_empty.ensures) in omega (arith, e)) in
    IfErr-weaker c.charge_value.result _ _ (λ e h. elim h [
      | inl m ↦ inl m
      | inr u ↦ inr (λ W cs f k. (let o = u W cs f k in let P : List Word → Type 0 = λ ps. IsOver cs (charges_for W.sizes W.depths (value_if ps d [])) o.0 in (o.0, o.1, subst P (sym none) o.2)))
    ]) c.charge_value.ensures.err
