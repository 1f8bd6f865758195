use Rattle.std.proofs.Common.{ℕ, List}
use Rattle.std.specs.List.{zip}
use Rattle.outcome.specs.Reasons.{AreExplained}
use Rattle.outcome.proofs.explaining.push_reasons.Given as goal

-- what explains those that are left explains all
abbrev pub invariant-loop-case : goal.invariant-loop-case
invariant-loop-case l =
    (why dot : List ℕ) → AreExplained l.why.items l.dot.items (zip l.case-iterator.a.rest.now l.case-iterator.b.rest.now) why dot → AreExplained l.initial.why.items l.initial.dot.items (zip l.cases l.verdicts) why dot
