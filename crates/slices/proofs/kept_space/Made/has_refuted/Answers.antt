use Rattle.std.proofs.Common.{◌∙◌, sym, subst}
use Rattle.candidates.specs.Candidates.{Choices, choices_of}
use Rattle.slices.specs.Passing.{Knows, NoneAllowed}
use Rattle.slices.specs.Works.{WorkValue}
use Rattle.slices.specs.declared.pruning.Pruner.{Pruner}
use Rattle.slices.specs.declared.span.Span.{Span}
use Rattle.slices.proofs.kept_space.Made.has_refuted.Goals as goal

pub returns-then-has_refuted-clause-none : goal.returns-then-has_refuted-clause-none
returns-then-has_refuted-clause-none c t =
    let m = c.self.inside in
    let p = c.args.piece.now in
    let K : Pruner → Type 0 = λ q. Knows m.space.value m.work.model.items q in
    let S : Choices → Type 0 = λ s. NoneAllowed m.work.model.items s c.span.result.from c.span.result.to in
    let R : Span → Type 0 = λ r. NoneAllowed m.work.model.items (choices_of m.work.test) r.from r.to in
    let W : WorkValue → Type 0 = λ w. NoneAllowed w.model.items (choices_of w.test) p.from p.to in
    let none = c.has_refuted.ensures m.space.value m.work.model.items (subst K (sym c.deref.ensures) c.self.invariant.known) c.if-has_refuted.true in
    subst W (c.self.view_is ∙ c.is_of.ensures.0 t ∙ c.work.ensures.work) (subst R c.span.ensures.value (subst S c.self.invariant.space none))
