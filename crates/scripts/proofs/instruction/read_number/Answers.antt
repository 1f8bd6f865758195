use Rattle.std.proofs.Common.{◌∙◌}
use Rattle.scripts.proofs.Words.{differ, not_utf8, never_parsed, printed_otherwise}
use Rattle.scripts.proofs.instruction.read_number.Goals as goal

pub returns-in_default-clause-bad : goal.returns-in_default-clause-bad
returns-in_default-clause-bad c n small = not_utf8 c.args.bytes.now n small c.in_default.ensures.cases.0

pub returns-in_default-parse-clause-bad : goal.returns-in_default-parse-clause-bad
returns-in_default-parse-clause-bad c n small e =
    never_parsed c.in-Ok.text.now n c.parse.result c.in_default-parse.field-0 small c.parse.ensures.value.0 c.in_default-parse.is (c.in-Ok.ensures.cases.0 ∙ e)

pub returns-else-eq-clause-bad : goal.returns-else-eq-clause-bad
returns-else-eq-clause-bad c n small e =
    printed_otherwise c.in-Ok.text.now n c.in-Ok-parse.number c.parse.result small c.parse.ensures.value.0 c.in-Ok-parse.is
    (λ q. differ c.as_bytes.result.now c.args.bytes.now c.if-eq.ensures (c.as_bytes.ensures.value ∙ c.format.ensures.text ∙ q ∙ c.in-Ok.ensures.cases.0)) (c.in-Ok.ensures.cases.0 ∙ e)
