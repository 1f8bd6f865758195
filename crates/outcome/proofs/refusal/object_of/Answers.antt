use Rattle.std.proofs.Common.{ap, ◌∙◌}
use Rattle.std.proofs.lemmas.Result.{IfOk-weaker}
use Rattle.serde_json.specs.Written.{compact_text, has_float}
use Rattle.outcome.proofs.refusal.object_of.Goals as goal

pub returns : goal.returns
returns c = IfOk-weaker c.to_string.result _ _ (λ s h. h (ap has_float c.in_ok-value.ensures) ∙ ap compact_text c.in_ok-value.ensures) c.to_string.ensures.text
