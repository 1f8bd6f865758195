use Rattle.std.proofs.lemmas.Slice.Zip.{Zip-more, either_empty_from_Zip}
use Rattle.outcome.proofs.Explained.{one_on, none_on}
use Rattle.outcome.proofs.explaining.push_reasons.Goals as goal

pub loop-case-preserved : goal.loop-case-preserved
loop-case-preserved c = λ why dot h.
    let step = Zip-more c.loop-case.case-iterator c.next.new.self _ _ c.in-Some.is c.next.ensures.steps in
    c.loop-case.invariant why dot (one_on _ _ _ _ _ _ _ _ _ _ step.0 step.1 c.in_ok-push_reason.ensures why dot h)

pub returns : goal.returns
returns c = c.loop-case.invariant _ _ (none_on _ _ _ _ (either_empty_from_Zip c.loop-case.case-iterator c.next.new.self _ c.in-None.is c.next.ensures.steps))
