use Rattle.std.proofs.Common.{refl}
use Rattle.wb_text.proofs.Lexemes.{word_token, word_slice, not_ascii, not_ascii_at}
use Rattle.wb_text.proofs.head.word_len.Goals as goal

pub returns-then-is_ascii-clause-word : goal.returns-then-is_ascii-clause-word
returns-then-is_ascii-clause-word c =
    word_token c.args.text.now c.run_len-len.result c.requires.byte c.requires.no_blank c.requires.no_comment c.run_len-len.ensures c.if-is_ascii.ensures.cases

pub returns-else-is_ascii-clause-none : goal.returns-else-is_ascii-clause-none
returns-else-is_ascii-clause-none c =
    let above = c.if-is_ascii.ensures.cases in
    λ n b. not_ascii (word_slice c.args.text.now c.run_len-len.result c.requires.byte c.requires.no_blank c.run_len-len.ensures) above.0 above.1 b

pub returns-else-is_ascii-clause-cause : goal.returns-else-is_ascii-clause-cause
returns-else-is_ascii-clause-cause c =
    let above = c.if-is_ascii.ensures.cases in
    (refl, not_ascii_at (word_slice c.args.text.now c.run_len-len.result c.requires.byte c.requires.no_blank c.run_len-len.ensures) above.0 above.1)
