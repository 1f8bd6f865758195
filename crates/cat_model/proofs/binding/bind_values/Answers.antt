use Rattle.std.proofs.Common.{◌≡◌, ◌+◌, ◌++◌, ◌∷◌, ◌∙◌, [], List, map, drop, IsSome, All, refl, sym, ap, subst, inl, inr}
use Rattle.std.specs.List.{Contains}
use Rattle.std.proofs.Math.ListN.{drop_of_length-le}
use Rattle.std.proofs.lemmas.List.Elements.{All-nil}
use Rattle.std.proofs.lemmas.Result.{err_from_is_err_and}
use Rattle.cat_tree.specs.Tree.{Bound, Defined, defined_of, values_in}
use Rattle.cat_model.specs.Behind.{Fit, values_above}
use Rattle.cat_model.specs.Sorts.{sort}
use Rattle.cat_model.proofs.Charged.{mapped_more}
use Rattle.cat_model.proofs.Pushed.{values_first, values_all, value_first, value_later}
use Rattle.cat_model.proofs.binding.bind_values.Goals as goal

pub loop-definition-init : goal.loop-definition-init
loop-definition-init c = record {
  fit = λ B W f g. (W, g, refl);
  sorted = λ B f h. h;
  among = λ b h. h;
}

pub returns-in_err-bind_if_value-clause-err : goal.returns-in_err-bind_if_value-clause-err
returns-in_err-bind_if_value-clause-err c =
    let p = err_from_is_err_and c.from_residual.result c.from_residual.ensures.1 in
    let d : Defined = defined_of c.definition-item.result in
    let rest : List Defined = map defined_of (drop (c.loop-definition.definition-index + 1) c.args.definitions.now) in
    let e = mapped_more defined_of c.args.definitions.now c.loop-definition.definition-index c.definition-item.result c.loop-definition-test.true c.definition-item.is in
    rw (p.1, p.2)
    (elim c.in_err-bind_if_value.ensures.err [
      | inl m ↦ inl m
      | inr u ↦ inr (let P : List Defined → Type 0 = λ l. Contains (values_in l) u.0 in (u.0, u.1, c.loop-definition.invariant.among u.0 (subst P (sym e) (value_first d rest u.0 u.2)), u.3))
    ])

pub loop-definition-preserved : goal.loop-definition-preserved
loop-definition-preserved c =
    let d : Defined = defined_of c.definition-item.result in
    let rest : List Defined = map defined_of (drop (c.loop-definition.definition-index + 1) c.args.definitions.now) in
    let e = mapped_more defined_of c.args.definitions.now c.loop-definition.definition-index c.definition-item.result c.loop-definition-test.true c.definition-item.is in
    record {
      fit = λ B W f g. (let u = c.loop-definition.invariant.fit B W f g in (values_above B (values_in (d ∷ [])) u.0, c.in_ok-bind_if_value.ensures.ok B u.0 f u.1, values_first B d rest u.0 ∙ ap (λ l. values_above B (values_in l) u.0) (sym e) ∙ u.2));
      sorted = λ B f h.
          (let P : Bound → Type 0 = λ b. IsSome (sort B.sorts b.value) in
          let Q : List Defined → Type 0 = λ l. All P (values_in l) in
          c.loop-definition.invariant.sorted B f (subst Q (sym e) (values_all P d rest (c.in_ok-bind_if_value.ensures.sorted B f) h)));
      among = λ b h. (let P : List Defined → Type 0 = λ l. Contains (values_in l) b in c.loop-definition.invariant.among b (subst P (sym e) (value_later d rest b h)));
    }

pub returns-clause-ok : goal.returns-clause-ok
returns-clause-ok c = λ B W f g.
    (let u = c.loop-definition.invariant.fit B W f g in
    let e : values_above B (values_in (map defined_of (drop c.loop-definition.definition-index c.args.definitions.now))) u.0 ≡ u.0 = ap (λ l. values_above B (values_in (map defined_of l)) u.0) (drop_of_length-le c.args.definitions.now c.loop-definition-test.false) in
    subst (Fit (c.args.scope.now.names.items ++ c.loop-definition.above.items)) (sym e ∙ u.2) u.1)

pub returns-clause-sorted : goal.returns-clause-sorted
returns-clause-sorted c = λ B f.
    (let P : Bound → Type 0 = λ b. IsSome (sort B.sorts b.value) in
    c.loop-definition.invariant.sorted B f (subst (λ l. All P (values_in (map defined_of l))) (sym (drop_of_length-le c.args.definitions.now c.loop-definition-test.false)) (All-nil P)))
