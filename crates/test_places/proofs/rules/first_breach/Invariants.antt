use Rattle.std.proofs.Common.{◌≡◌, ℕ, ◌<◌, false, get_or}
use Rattle.test_places.specs.declared.mark.Mark.{Mark}
use Rattle.test_places.specs.Rules.{breaks}
use Rattle.test_places.proofs.rules.first_breach.Given as goal

-- no mark so far breaks the rule
abbrev pub invariant-loop-place : goal.invariant-loop-place
invariant-loop-place l = (k : ℕ) (d : Mark) → k < l.place → breaks l.rule l.marks (get_or l.marks k d) ≡ false
