use Rattle.std.proofs.Common.{◌≡◌, ◌++◌, map, drop}
use Rattle.outcome.specs.Refusals.{refused_row}
use Rattle.outcome.specs.Rows.{texts_of}
use Rattle.outcome.proofs.refusal.push_refused.Given as goal

abbrev pub invariant-loop-case : goal.invariant-loop-case
invariant-loop-case l = map texts_of l.rows.items ++ map (refused_row l.label) (drop l.case-index l.cases) ≡ map texts_of l.initial.rows.items ++ map (refused_row l.label) l.cases
