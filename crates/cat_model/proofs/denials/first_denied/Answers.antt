use Rattle.std.proofs.Common.{◌≡◌, ◌∙◌, List, map, ap, arith, sym, subst}
use Rattle.std.proofs.lemmas.List.{length-map}
use Rattle.cat_tree.specs.Tree.{Word, bound_of, term_of}
use Rattle.cat_model.specs.Marked.{Traced}
use Rattle.cat_model.specs.declared.denials.Trace.{Trace}
use Rattle.cat_model.proofs.Denying.{denied_some, denied_none, match_if}
use Rattle.cat_model.proofs.denials.first_denied.Goals as goal

pub returns : goal.returns
returns c = λ M f.
    (let xs : List Word = map (λ x. x.now) c.deref-3.result.now in
    let named : xs ≡ map (λ b. b.name) (map bound_of c.args.group.now) = ap (map (λ x. x.now)) c.deref-3.ensures.value ∙ c.in_ok-names.ensures in
    let P : List Word → Type 0 = λ ys. Traced c.args.scope.now.names.items ys c.in_ok-traces.traces.items (term_of c.args.expression.now) in
    let Q : List Trace → Type 0 = λ ts. Traced c.args.scope.now.names.items xs ts (term_of c.args.expression.now) in
    let traced : Traced c.args.scope.now.names.items xs c.deref-2.result.now (term_of c.args.expression.now) =
    subst Q (sym c.deref-2.ensures.value) (subst P (ap (map (λ x. x.now)) (c.deref.ensures.value ∙ sym c.deref-3.ensures.value)) c.in_ok-traces.ensures) in
    match_if c.first_name.result _ _ _ _
    (λ h. denied_none c.args.scope.now.names.items (map bound_of c.args.group.now) xs (term_of c.args.expression.now) c.deref-2.result.now named traced (λ i l. h i (let k = length-map c.deref-3.result.now (λ x. x.now) in omega (arith, k, l))) M f)
    (λ x h. denied_some c.args.scope.now.names.items (map bound_of c.args.group.now) xs (term_of c.args.expression.now) c.deref-2.result.now x.now named traced h M f) c.first_name.ensures)
