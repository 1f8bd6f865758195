use Rattle.std.proofs.Common.{◌≡◌, map, take}
use Rattle.events.specs.Structures.{unvalued_run}
use Rattle.events.proofs.run.are_like_runs.Given as goal

abbrev pub invariant-loop-thread : goal.invariant-loop-thread
invariant-loop-thread l = map unvalued_run (take l.thread l.first) ≡ map unvalued_run (take l.thread l.second)
