use Rattle.std.proofs.Common.{◌+◌, List, [], ◌∷◌, ◌∙◌, get_or, drop, ap, sym, refl}
use Rattle.events.specs.contracts.event.EventIdPartialEq.TheImpl.{ghosts as event_equality}
use Rattle.events.specs.declared.event.EventId.TheVariants.{Initial}
use Rattle.drawing.specs.Arrows.{arrow, overtaken}
use Rattle.drawing.specs.declared.arrows.Arrow.{Arrow}
use Rattle.drawing.proofs.Adding.{added, none_added, all_added, passes, fails}
use Rattle.drawing.proofs.arrows.push_overtaken.Goals.{then-eq+in_ok-push, else-eq}
use Rattle.drawing.proofs.arrows.push_overtaken.Goals as goal

pub loop-step-preserved : goal.loop-step-preserved
loop-step-preserved c =
    let a = c.args.read in
    let co = c.args.co.now in
    let i = c.loop-step.step-index in
    let d = arrow (Initial 0) (Initial 0) in
    let F = λ (l : List Arrow). overtaken l a in
    let f = λ (b : Arrow). arrow a.to b.to in
    let p = λ (b : Arrow). event_equality.eq b.from a.from in
    elim c.if-eq.branch [
      | then-eq+in_ok-push w ↦ added F F co i d (f (get_or co i d) ∷ []) c.loop-step.arrows.items c.if-eq.arrows.items _ c.loop-step-test.true (passes f p (get_or co i d) (drop (i + 1) co) (sym c.eq.ensures ∙ w.if-eq.true)) (ap (λ v. v.items) w.arrows-is ∙ w.in_ok-push.ensures.items) c.loop-step.invariant
      | else-eq w ↦ none_added F co i d c.loop-step.arrows.items c.if-eq.arrows.items _ c.loop-step-test.true (fails f p (get_or co i d) (drop (i + 1) co) (sym c.eq.ensures ∙ w.if-eq.false)) (ap (λ v. v.items) w.arrows-is) c.loop-step.invariant
    ]

pub returns : goal.returns
returns c = all_added (λ (l : List Arrow). overtaken l c.args.read) c.args.co.now c.loop-step.step-index c.loop-step.arrows.items _ c.loop-step-test.false refl c.loop-step.invariant
