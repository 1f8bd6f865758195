use Rattle.std.proofs.Common.{sym, ◌∙◌}
use Rattle.scripts.proofs.Words.{differ, says_word}
use Rattle.scripts.proofs.instruction.read_word.Goals as goal

pub returns-else-eq-4-clause-bad : goal.returns-else-eq-4-clause-bad
returns-else-eq-4-clause-bad c head h =
    says_word c.args.word.now head h (λ e. differ _ _ c.if-eq.ensures (e ∙ sym c.as_slice.ensures)) (λ e. differ _ _ c.if-eq-2.ensures (e ∙ sym c.as_slice-else-eq.ensures))
    (λ e. differ _ _ c.if-eq-3.ensures (e ∙ sym c.as_slice-else-eq-2.ensures)) (λ e. differ _ _ c.if-eq-4.ensures (e ∙ sym c.as_slice-else-eq-3.ensures))
