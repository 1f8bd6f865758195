use Rattle.std.proofs.Common.{◌<◌, ℕ, take, true, length}
use Rattle.std.specs.List.{Contains}
use Rattle.cat_model.proofs.denials.first_name.Given as goal

abbrev pub invariant-loop-trace : goal.invariant-loop-trace
invariant-loop-trace l = (i : ℕ) → i < length l.names → ¬ Contains (take l.trace-index l.traces) (record { place = i; denied = true })
