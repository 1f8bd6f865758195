use Rattle.wb_text.specs.Faults.{bad_quotation, unclosed_quotation}
use Rattle.wb_text.proofs.Lexemes.{quoted_none, quoted_open, quoted_slice, quoted_not_ascii, not_ascii_at}
use Rattle.wb_text.proofs.lexeme.quoted_len.Goals as goal

pub returns-in_default-clause-none : goal.returns-in_default-clause-none
returns-in_default-clause-none c = quoted_none c.args.text.now c.requires.here c.requires.quote c.in_default.ensures

pub returns-in_default-clause-cause : goal.returns-in_default-clause-cause
returns-in_default-clause-cause c = λ d. unclosed_quotation (quoted_open c.args.text.now c.requires.here c.requires.quote c.in_default.ensures)

pub returns-then-is_ascii-clause-len : goal.returns-then-is_ascii-clause-len
returns-then-is_ascii-clause-len c = quoted_slice c.args.text.now c.requires.here c.requires.quote c.in-Some.after.now c.in-Some.ensures

pub returns-else-is_ascii-clause-none : goal.returns-else-is_ascii-clause-none
returns-else-is_ascii-clause-none c =
    let above = c.if-is_ascii.ensures.cases in
    quoted_not_ascii c.args.text.now c.requires.here c.requires.quote _ (quoted_slice c.args.text.now c.requires.here c.requires.quote c.in-Some.after.now c.in-Some.ensures) above.0 above.1

pub returns-else-is_ascii-clause-cause : goal.returns-else-is_ascii-clause-cause
returns-else-is_ascii-clause-cause c =
    let above = c.if-is_ascii.ensures.cases in
    λ d. bad_quotation (not_ascii_at (quoted_slice c.args.text.now c.requires.here c.requires.quote c.in-Some.after.now c.in-Some.ensures d) above.0 above.1)
