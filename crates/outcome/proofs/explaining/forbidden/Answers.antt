use Rattle.std.proofs.Common.{None, Some}
use Rattle.std.proofs.lemmas.Result.{IfOk-weaker}
use Rattle.outcome.proofs.Explained.{under_heading, why_is}
use Rattle.outcome.proofs.explaining.forbidden.Goals as goal

pub returns-in-Some : goal.returns-in-Some
returns-in-Some c =
    let why = why_is _ _ c.args.execution.now.graph.now _ _ c.in_ok-found.ensures c.model.ensures c.in-Some.is in
    IfOk-weaker c.against.result _ _
    (λ a d. record { execution = c.args.execution.now.graph.now; first = c.requires; reason = Some c.in-Some.found; forbids = why; drawn = under_heading _ _ _ _ _ _ _ _ d c.forbidden_heading-heading.ensures }) c.against.ensures

pub returns-in-None : goal.returns-in-None
returns-in-None c =
    let why = why_is _ _ c.args.execution.now.graph.now _ _ c.in_ok-found.ensures c.model.ensures c.in-None.is in
    IfOk-weaker c.drawn_with.result _ _
    (λ a d. record { execution = c.args.execution.now.graph.now; first = c.requires; reason = None; forbids = why; drawn = under_heading _ _ _ _ _ _ _ _ d c.forbidden_heading-heading.ensures }) (c.drawn_with.ensures None tt)
