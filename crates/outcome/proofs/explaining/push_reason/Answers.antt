use Rattle.std.proofs.Common.{ap, ◌∙◌}
use Rattle.outcome.specs.Reasons.{asks_with}
use Rattle.outcome.proofs.Explained.{explains_as}
use Rattle.outcome.proofs.explaining.push_reason.Goals as goal

pub returns : goal.returns
returns c =
    let kind = c.asks_with-has.ensures ∙ ap asks_with (c.kind.ensures ∙ ap (λ f. f.kind) c.finding.ensures.finding) in
    explains_as _ _ c.args.case.now c.args.verdict.now _ _ _ _ _ _ _ c.in_ok-answer.ensures (c.work-2.ensures ∙ c.work.ensures) kind c.as_bytes.ensures.value c.in_ok-append.ensures.items c.in_ok-append-2.ensures.items
