use Rattle.std.proofs.Common.{refl}
use Rattle.wb_text.proofs.Lexemes.{number_big}
use Rattle.wb_text.proofs.lexeme.number_len.Goals as goal

pub returns-in-None-clause-big : goal.returns-in-None-clause-big
returns-in-None-clause-big c = λ l. (refl, number_big c.args.text.now c.run_len-len.result c.run_len-len.ensures c.in-None.ensures l)
