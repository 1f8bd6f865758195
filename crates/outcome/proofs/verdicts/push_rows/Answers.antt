use Rattle.std.proofs.lemmas.Slice.Zip.{Zip-more, either_empty_from_Zip}
use Rattle.outcome.proofs.Zipped.{no_rows, at_end, row_on}
use Rattle.outcome.proofs.verdicts.push_rows.Goals as goal

pub loop-case-preserved : goal.loop-case-preserved
loop-case-preserved c =
    let step = Zip-more c.loop-case.case-iterator c.next.new.self _ _ c.in-Some.is c.next.ensures.steps in
    row_on c.loop-case.rows.items _ _ _ _ _ _ _ _ _ step.0 step.1 c.in_ok-push.ensures.items c.in_ok-row_for.ensures c.loop-case.invariant

pub returns : goal.returns
returns c = at_end _ _ _ c.loop-case.invariant (no_rows _ _ (either_empty_from_Zip c.loop-case.case-iterator c.next.new.self _ c.in-None.is c.next.ensures.steps))
