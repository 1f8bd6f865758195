use Rattle.std.proofs.Common.{ap, ◌∙◌, ◌++◌}
use Rattle.std.proofs.lemmas.Slice.Zip.{Zip-more, either_empty_from_Zip}
use Rattle.outcome.proofs.Zipped.{no_texts, at_end, text_on}
use Rattle.outcome.proofs.verdicts.push_verdicts.Goals as goal

pub loop-case-preserved : goal.loop-case-preserved
loop-case-preserved c =
    let step = Zip-more c.loop-case.case-iterator c.next.new.self _ _ c.in-Some.is c.next.ensures.steps in
    text_on c.args.form c.args.milliseconds c.loop-case.text.items _ _ _ _ _ _ _ _ step.0 step.1 (c.in_ok-append.ensures.items ∙ ap (λ l. c.loop-case.text.items ++ l) c.in_ok-text_of.ensures) c.loop-case.invariant

pub returns : goal.returns
returns c = at_end _ _ _ c.loop-case.invariant (no_texts c.args.form c.args.milliseconds _ _ (either_empty_from_Zip c.loop-case.case-iterator c.next.new.self _ c.in-None.is c.next.ensures.steps))
