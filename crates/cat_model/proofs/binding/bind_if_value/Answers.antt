use Rattle.std.proofs.Common.{◌≡◌, ◌++◌, [], List, IsSome, All, sym, subst, inl, inr, arith, vec_len}
use Rattle.std.specs.List.{Contains}
use Rattle.std.proofs.lemmas.Bool.{eqb-true}
use Rattle.std.proofs.lemmas.List.Elements.{All-cons, All-nil}
use Rattle.std.proofs.lemmas.Result.{IfErr-weaker, on_ok_weaker}
use Rattle.cat_tree.specs.Tree.{Word, Bound, Defined, defined_of, value_if}
use Rattle.cat_model.specs.Behind.{Fit, values_above}
use Rattle.cat_model.specs.Sorts.{sort}
use Rattle.cat_model.proofs.Contained.{contains_first}
use Rattle.cat_model.proofs.Waiting.{nothing}
use Rattle.cat_model.proofs.binding.bind_if_value.Goals as goal

pub returns-then-is_empty-clause-ok : goal.returns-then-is_empty-clause-ok
returns-then-is_empty-clause-ok c =
    let d : Defined = defined_of c.args.definition.now in
    let none : d.parameters ≡ [] = nothing d.parameters (let e = eqb-true (vec_len c.args.definition.now.parameters) 0 (sym c.if-is_empty.ensures) in omega (arith, e)) in
    on_ok_weaker c.bind_value.result (λ h B W f g.
    (let P : List Word → Type 0 = λ ps. Fit (c.args.scope.now.names.items ++ c.bind_value.new.above.items) (values_above B (value_if ps d []) W) in subst P (sym none) (h B W f g))) c.bind_value.ensures.ok

pub returns-then-is_empty-clause-sorted : goal.returns-then-is_empty-clause-sorted
returns-then-is_empty-clause-sorted c =
    let d : Defined = defined_of c.args.definition.now in
    let none : d.parameters ≡ [] = nothing d.parameters (let e = eqb-true (vec_len c.args.definition.now.parameters) 0 (sym c.if-is_empty.ensures) in omega (arith, e)) in
    on_ok_weaker c.bind_value.result (λ h B f.
    (let Q : Bound → Type 0 = λ b. IsSome (sort B.sorts b.value) in
    let P : List Word → Type 0 = λ ps. All Q (value_if ps d []) in subst P (sym none) (All-cons Q (record { name = d.name; value = d.value }) [] (h B f) (All-nil Q)))) c.bind_value.ensures.sorted

pub returns-then-is_empty-clause-err : goal.returns-then-is_empty-clause-err
returns-then-is_empty-clause-err c =
    let d : Defined = defined_of c.args.definition.now in
    let none : d.parameters ≡ [] = nothing d.parameters (let e = eqb-true (vec_len c.args.definition.now.parameters) 0 (sym c.if-is_empty.ensures) in omega (arith, e)) in
    let b : Bound = record { name = d.name; value = d.value } in
    IfErr-weaker c.bind_value.result _ _ (λ e h. elim h [
      | inl m ↦ inl m
      | inr u ↦ inr (let P : List Word → Type 0 = λ ps. Contains (value_if ps d []) b in (b, u.0, subst P (sym none) (contains_first b []), u.1))
    ]) c.bind_value.ensures.err
