use Rattle.std.proofs.Common.{Err, inl, inr, refl, ap, subst, ◌∙◌}
use Rattle.scripts.specs.Lines.{nothing_read}
use Rattle.scripts.specs.Spelled.{OpensText, SpellsNone}
use Rattle.scripts.specs.declared.reading_fault.ScriptFault.TheVariants as faults
use Rattle.scripts.proofs.Counted.{same_number, told_on}
use Rattle.scripts.proofs.Texts.{opened}
use Rattle.scripts.proofs.script.Script.call.Goals.{in-Cat+in_ok-text-in-Cat, in-Test+in_ok-text-in-Test, in-Whole}
use Rattle.scripts.proofs.script.Script.call.Goals as goal

pub returns-in-Err-Bad-clause-bad : goal.returns-in-Err-Bad-clause-bad
returns-in-Err-Bad-clause-bad g c n e =
    let number = same_number (Err (faults.BadLine c.count.result)) c.count.result n refl e in
    inl (number ∙ c.count.ensures, subst SpellsNone c.line.ensures (c.read_head.ensures.bad (c.in-Err-Bad.is ∙ ap Err c.in-Err-Bad.field-0-is)))

pub returns-in_err-text-in-Cat-clause-bad : goal.returns-in_err-text-in-Cat-clause-bad
returns-in_err-text-in-Cat-clause-bad g c n e =
    let opens = subst OpensText c.line.ensures (opened _ _ _ _ c.in-Ok.ensures.spelled c.in-Ok.ensures.seat c.in-Ok.ensures.sound c.in-Cat.is tt) in
    inr (opens, c.text.ensures.line n (c.in_err-text-in-Cat.was ∙ ap Err (told_on c.from_residual.result c.in_err-text-in-Cat.field-0.0 (faults.BadLine n) c.from_residual.ensures.1 e)))

pub returns-in_err-text-in-Test-clause-bad : goal.returns-in_err-text-in-Test-clause-bad
returns-in_err-text-in-Test-clause-bad g c n e =
    let opens = subst OpensText c.line.ensures (opened _ _ _ _ c.in-Ok.ensures.spelled c.in-Ok.ensures.seat c.in-Ok.ensures.sound c.in-Test.is tt) in
    inr (opens, c.text-in-Test.ensures.line n (c.in_err-text-in-Test.was ∙ ap Err (told_on c.from_residual-in_err-text-in-Test.result c.in_err-text-in-Test.field-0.0 (faults.BadLine n) c.from_residual-in_err-text-in-Test.ensures.1 e)))

pub returns-clause-lines : goal.returns-clause-lines
returns-clause-lines g c = elim c.match-head.branch [
  | in-Cat+in_ok-text-in-Cat w ↦ rw (w.self-is, w.reader-is) w.in_ok-text-in-Cat.ensures.lines
  | in-Test+in_ok-text-in-Test w ↦ rw (w.self-is, w.reader-is) w.in_ok-text-in-Test.ensures.lines
  | in-Whole w ↦ rw (w.self-is, w.reader-is) nothing_read
]
