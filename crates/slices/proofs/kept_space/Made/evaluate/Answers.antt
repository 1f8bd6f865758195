use Rattle.std.proofs.Common.{◌≡◌, ◌∙◌, List, ap, sym, subst}
use Rattle.cat_tree.specs.Tree.{Clause}
use Rattle.cat_model.specs.Models.{Assembly}
use Rattle.candidates.specs.Candidates.{Choices, choices_of}
use Rattle.candidates.specs.Walks.{IsPausedIn, Walking}
use Rattle.cat_eval.specs.Prepared.{IsReadyFor}
use Rattle.slices.specs.Passing.{Knows}
use Rattle.slices.specs.Works.{WorkValue}
use Rattle.slices.proofs.kept_space.Made.evaluate.Goals as goal

pub evaluate_in-requires-clause-evaluator : goal.evaluate_in-requires-clause-evaluator
evaluate_in-requires-clause-evaluator c =
    c.in_ok-evaluator.ensures.items ∙ ap (λ (m : Assembly). m.items) c.model.ensures ∙ ap (λ (w : WorkValue). w.model.items) (c.work-2.ensures ∙ c.work.ensures.work)

pub evaluate_in-requires-clause-known : goal.evaluate_in-requires-clause-known
evaluate_in-requires-clause-known c =
    let K : WorkValue → Type 0 = λ w. Knows (choices_of w.test) w.model.items c.deref_mut.result.now in
    let S : Choices → Type 0 = λ s. Knows s c.self.inside.work.model.items c.deref_mut.result.now in
    subst K (c.self.view_is ∙ c.requires) (subst S c.self.invariant.space (rw c.deref_mut.ensures.value c.self.invariant.known))

pub invariant_of-made : goal.invariant_of-made
invariant_of-made c =
    let own : c.args.piece.now.work ≡ c.self.inside.work = sym (c.self.view_is ∙ c.requires) in
    let same : c.evaluate_in.new.evaluator.items ≡ c.self.inside.work.model.items =
    c.evaluate_in.ensures.evaluator ∙ c.in_ok-evaluator.ensures.items ∙ ap (λ (m : Assembly). m.items) c.model.ensures ∙ ap (λ (w : WorkValue). w.model.items) (c.work-2.ensures ∙ c.work.ensures.work ∙ own) in
    let P : List Clause → Type 0 = λ items. IsReadyFor items c.without_model-ready.result in
    let W : Choices → Type 0 = λ s. IsPausedIn s c.pause.result in
    let K : WorkValue → Type 0 = λ w. Knows (choices_of w.test) w.model.items c.evaluate_in.new.pruner in
    let S : Choices → Type 0 = λ s. Knows s c.self.inside.work.model.items c.evaluate_in.new.pruner in
    let own_space = c.in_ok-result.ensures.space ∙ ap (λ (w : Walking). w.space) c.resume-walk.ensures ∙ c.deref.ensures in
    record { space = c.self.invariant.space; paused = rw c.in_ok-paused.ensures.ok (subst W own_space c.pause.ensures); ready = subst P same c.without_model-ready.ensures; known = subst S (sym c.self.invariant.space) (subst K own c.in_ok-result.ensures.known); nothing = c.self.invariant.nothing }
