use Rattle.std.proofs.Common.{◌≡◌, map, take}
use Rattle.outcome.proofs.evidence.steps_of.Given as goal

abbrev pub invariant-loop-to : goal.invariant-loop-to
invariant-loop-to l = map (λ s. s.to) l.steps.items ≡ take l.to-index l.rest
