use Rattle.std.proofs.Common.{None}
use Rattle.std.proofs.lemmas.Result.{IfOk-weaker}
use Rattle.outcome.proofs.Explained.{under_heading}
use Rattle.outcome.proofs.explaining.allowed.Goals as goal

pub returns : goal.returns
returns c =
    IfOk-weaker c.drawn_with.result _ _ (λ a d. record { execution = c.args.execution.now.graph.now; first = c.requires; drawn = under_heading _ _ _ _ _ _ _ _ d c.allowed_heading.ensures }) (c.drawn_with.ensures None tt)
