use Rattle.std.proofs.Common.{◌≡◌, ◌++◌}
use Rattle.outcome.specs.Forms.{verdicts_text}
use Rattle.outcome.proofs.verdicts.push_verdicts.Given as goal

abbrev pub invariant-loop-case : goal.invariant-loop-case
invariant-loop-case l =
    l.text.items ++ verdicts_text l.form l.milliseconds l.case-iterator.a.rest.now l.case-iterator.b.rest.now ≡ l.initial.text.items ++ verdicts_text l.form l.milliseconds l.cases l.verdicts
