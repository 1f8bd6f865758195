use Rattle.std.proofs.Common.{◌↔◌, ◌∙◌, List, map, ap, length, refl, subst}
use Rattle.std.specs.List.{Contains}
use Rattle.cat_tree.specs.Tree.{Word, term_of}
use Rattle.cat_model.specs.Marked.{Traced}
use Rattle.cat_model.specs.declared.denials.Marked.{Marked}
use Rattle.cat_model.specs.declared.denials.Trace.{Trace}
use Rattle.cat_model.proofs.Tracing.{marked_function}
use Rattle.cat_model.proofs.denials.make_marked.Goals as goal

pub returns : goal.returns
returns c =
    let P : List Word → Type 0 = λ xs. Traced c.args.scope.now.names.items xs c.in_ok-traces.traces.items (term_of c.args.body.now) in
    let Q : List Trace → Type 0 = λ ts. (q : Trace) → Contains c.in_ok-distinct.field-0.items q ↔ Contains ts q in
    let made : Marked = record { count = length c.args.parameters.now; traces = c.in_ok-distinct.field-0 } in
    marked_function c.args.scope.now.names.items c.args.parameters.now (term_of c.args.body.now) c.in_ok-traces.traces.items made refl (subst Q c.deref-2.ensures.value c.in_ok-distinct.ensures)
    (subst P (ap (map (λ x. x.now)) c.deref.ensures.value ∙ c.in_ok-tracked.ensures) c.in_ok-traces.ensures)
