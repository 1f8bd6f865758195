use Rattle.wb_text.specs.declared.token.Dialect.TheVariants as dialects
use Rattle.litmus_c.proofs.Found.{one_of}
use Rattle.litmus_c.proofs.laws.one_test.Goals as goal

pub returns : goal.returns
returns c = λ text s t d e. one_of text (c.one_token_list.ensures dialects.Litmus text) s t d e
