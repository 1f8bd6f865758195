use Rattle.std.proofs.Common.{◌≡◌, ◌++◌, drop}
use Rattle.std.specs.Prelude.{find}
use Rattle.std.specs.List.{flat_map}
use Rattle.suite.specs.Expected.{same_case, novelty}
use Rattle.suite.proofs.expected.push_novelties.Given as goal

abbrev pub invariant-loop-row : goal.invariant-loop-row
invariant-loop-row l = l.text.items ++ flat_map (λ s. novelty s (find (same_case s) l.expected)) (drop l.row-index l.found) ≡ l.initial.text.items ++ flat_map (λ s. novelty s (find (same_case s) l.expected)) l.found
