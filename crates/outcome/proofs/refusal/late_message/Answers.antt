use Rattle.std.proofs.Common.{ap, ◌∙◌, ◌++◌}
use Rattle.std.specs.Prelude.{codes}
use Rattle.outcome.proofs.refusal.late_message.Goals as goal

pub returns : goal.returns
returns c = c.in_ok-push_str.ensures.bytes ∙ ap (λ l. l ++ codes ": given up: it took longer than --timeout says\n") c.in_ok-message.ensures.ok
