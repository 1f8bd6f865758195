use Rattle.std.proofs.Common.{◌≡◌, ◌+◌, ◌≤◌, length, drop}
use Rattle.std.specs.Prelude.{sum_by}
use Rattle.events.proofs.view.numbers.first_of.Given as goal

abbrev pub invariant-loop-other : goal.invariant-loop-other
invariant-loop-other l = (l.other ≤ l.thread) × (l.first + sum_by (λ run. length run.events) (drop l.other l.runs) ≡ l.before + sum_by (λ run. length run.events) l.runs)
