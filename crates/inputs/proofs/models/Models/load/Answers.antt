use Rattle.std.proofs.Common.{ap, sym, ◌∙◌}
use Rattle.suite.specs.Digests.{digests_text}
use Rattle.inputs.proofs.models.Models.load.Goals as goal

pub keep-requires : goal.keep-requires
keep-requires c =
    record { texts = c.deref.result.now; root = c.args.root.now; given = c.in_ok-model.ensures.model; told = c.in_ok-digests.ensures ∙ ap digests_text (c.deref-2.ensures.value ∙ sym c.deref.ensures.value) }
