use Rattle.std.proofs.Common.{◌≡◌, ◌++◌, drop}
use Rattle.std.specs.Prelude.{find}
use Rattle.std.specs.List.{flat_map}
use Rattle.suite.specs.Expected.{same_case, fate}
use Rattle.suite.proofs.expected.push_fates.Given as goal

abbrev pub invariant-loop-row : goal.invariant-loop-row
invariant-loop-row l = l.text.items ++ flat_map (λ r. fate r (find (same_case r) l.found)) (drop l.row-index l.expected) ≡ l.initial.text.items ++ flat_map (λ r. fate r (find (same_case r) l.found)) l.expected
