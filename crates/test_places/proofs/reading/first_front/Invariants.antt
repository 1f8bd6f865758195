use Rattle.std.proofs.Common.{ℕ, ◌<◌, take}
use Rattle.litmus_syntax.specs.Unspelled.{IsUnspelled}
use Rattle.test_places.proofs.reading.first_front.Given as goal

abbrev pub invariant-loop-end : goal.invariant-loop-end
invariant-loop-end l = (m : ℕ) → m < l.end → ¬ IsUnspelled (take m l.symbols) l.fault
