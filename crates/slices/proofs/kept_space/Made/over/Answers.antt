use Rattle.std.proofs.Common.{◌≡◌, ◌∙◌, List, [], ap, sym, subst}
use Rattle.cat_tree.specs.Tree.{Clause}
use Rattle.cat_eval.specs.Prepared.{IsReadyFor}
use Rattle.slices.specs.Findings.{FindingValue}
use Rattle.slices.specs.Verdicts.{Tells}
use Rattle.slices.specs.Works.{WorkValue}
use Rattle.slices.proofs.kept_space.Made.over.Goals as goal

pub invariant_of-result : goal.invariant_of-result
invariant_of-result c =
    let same : c.in_ok-evaluator_of.field-0.items ≡ c.in_ok-work.work.model.items = c.in_ok-evaluator_of.ensures ∙ ap (λ (w : WorkValue). w.model.items) (c.work.ensures ∙ sym c.in_ok-work.ensures) in
    let P : List Clause → Type 0 = λ items. IsReadyFor items c.without_model-ready.result in
    let T : List Clause → FindingValue → Type 0 = λ items v. Tells c.in_ok-work.work.test items [] v in
    let W : List Clause → WorkValue → Type 0 = λ items w. Tells w.test items [] c.in_ok-found.found in
    record { space = rw c.in_ok-work.ensures c.requires; paused = rw c.in_ok-paused.ensures.ok (c.new-3.ensures.paused c.args.space.value); ready = subst P same c.without_model-ready.ensures; known = rw c.in_ok-pruner.ensures.ok (c.new.ensures.known c.args.space.value c.in_ok-work.work.model.items); nothing = λ items. subst (T items) (sym c.in_ok-nothing.ensures) (subst (W items) (c.in_ok-share.ensures ∙ sym c.in_ok-work.ensures) (c.in_ok-found.ensures items)) }
