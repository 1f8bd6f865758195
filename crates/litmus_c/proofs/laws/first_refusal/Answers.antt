use Rattle.wb_text.specs.declared.token.Dialect.TheVariants as dialects
use Rattle.litmus_c.proofs.FirstRefusal.{one_refusal}
use Rattle.litmus_c.proofs.laws.first_refusal.Goals as goal

pub returns : goal.returns
returns c = λ text e f some other h g. one_refusal text (c.one_token_list.ensures dialects.Litmus text) e f some other h g
