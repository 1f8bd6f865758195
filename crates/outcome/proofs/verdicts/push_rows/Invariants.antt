use Rattle.std.proofs.Common.{◌≡◌, ◌++◌, map}
use Rattle.outcome.specs.Rows.{texts_of, verdict_rows}
use Rattle.outcome.proofs.verdicts.push_rows.Given as goal

abbrev pub invariant-loop-case : goal.invariant-loop-case
invariant-loop-case l = map texts_of l.rows.items ++ verdict_rows l.case-iterator.a.rest.now l.case-iterator.b.rest.now ≡ map texts_of l.initial.rows.items ++ verdict_rows l.cases l.verdicts
