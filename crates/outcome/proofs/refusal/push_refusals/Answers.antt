use Rattle.std.proofs.Common.{refl, ap, ◌∙◌, ◌++◌}
use Rattle.std.specs.List.{flat_map}
use Rattle.outcome.specs.Refusals.{refusal_text}
use Rattle.outcome.proofs.Added.{element_on, none_left}
use Rattle.outcome.proofs.refusal.push_refusals.Goals as goal

pub loop-case-preserved : goal.loop-case-preserved
loop-case-preserved c =
    element_on c.args.cases.now c.loop-case.case-index _ (flat_map (refusal_text c.args.form c.args.milliseconds c.args.label.now)) _ c.loop-case.text.items _ _ c.loop-case-test.true refl
    (c.in_ok-append.ensures.items ∙ ap (λ l. c.loop-case.text.items ++ l) c.in_ok-text_of.ensures) c.loop-case.invariant

pub returns : goal.returns
returns c =
    none_left c.args.cases.now c.loop-case.case-index (flat_map (refusal_text c.args.form c.args.milliseconds c.args.label.now)) c.loop-case.text.items _ c.loop-case-test.false refl c.loop-case.invariant
