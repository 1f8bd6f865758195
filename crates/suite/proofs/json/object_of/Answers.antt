use Rattle.std.proofs.Common.{ap, ◌∙◌}
use Rattle.std.proofs.lemmas.Result.{IfOk-weaker}
use Rattle.serde_json.specs.Written.{compact_text, has_float}
use Rattle.suite.specs.Objects.{object_data}
use Rattle.suite.proofs.Objects.{no_float_first}
use Rattle.suite.proofs.json.object_of.Goals as goal

pub returns : goal.returns
returns c =
    let whole = ap has_float c.in_ok-value.ensures ∙ no_float_first c.finding.result.now.flags in
    let told = ap (λ v. compact_text (object_data c.args.case.now c.args.milliseconds v)) c.finding.ensures.finding in
    IfOk-weaker c.to_string.result _ _ (λ s h. h whole ∙ ap compact_text c.in_ok-value.ensures ∙ told) c.to_string.ensures.text
