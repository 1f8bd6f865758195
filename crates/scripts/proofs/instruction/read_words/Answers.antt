use Rattle.std.proofs.Common.{sym, ◌∙◌}
use Rattle.scripts.proofs.Counted.{ok_is_no_err}
use Rattle.scripts.proofs.Words.{differ, no_such_word}
use Rattle.scripts.proofs.instruction.read_words.Goals as goal

pub returns-in_err-read_numbered-clause-bad : goal.returns-in_err-read_numbered-clause-bad
returns-in_err-read_numbered-clause-bad c e head sound h says =
    no_such_word c.args.word.now c.args.rest.now head (λ q. differ _ _ c.if-eq.ensures (q ∙ sym c.as_slice.ensures)) (λ q. differ _ _ c.if-eq-2.ensures (q ∙ sym c.as_slice-else-eq.ensures))
    (λ q. differ _ _ c.if-eq-3.ensures (q ∙ sym c.as_slice-else-eq-2.ensures)) (λ q. differ _ _ c.if-eq-4.ensures (q ∙ sym c.as_slice-else-eq-3.ensures))
    sound h c.in_err-read_numbered.ensures.bad says

pub returns-in_ok-read_name-clause-bad : goal.returns-in_ok-read_name-clause-bad
returns-in_ok-read_name-clause-bad c e = ok_is_no_err _ _ e

pub returns-in_ok-read_ask-clause-bad : goal.returns-in_ok-read_ask-clause-bad
returns-in_ok-read_ask-clause-bad c e = ok_is_no_err _ _ e

pub returns-in_ok-read_name-2-clause-bad : goal.returns-in_ok-read_name-2-clause-bad
returns-in_ok-read_name-2-clause-bad c e = ok_is_no_err _ _ e

pub returns-in_ok-read_name-3-clause-bad : goal.returns-in_ok-read_name-3-clause-bad
returns-in_ok-read_name-3-clause-bad c e = ok_is_no_err _ _ e

pub returns-in_ok-read_numbered-clause-bad : goal.returns-in_ok-read_numbered-clause-bad
returns-in_ok-read_numbered-clause-bad c e = ok_is_no_err _ _ e
