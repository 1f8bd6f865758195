use Rattle.std.proofs.Common.{◌≡◌, ◌++◌, drop, map}
use Rattle.candidates.specs.Groups.{tally_of}
use Rattle.candidates.proofs.choosing.group_all.Given as goal

abbrev pub invariant-loop-thread : goal.invariant-loop-thread
invariant-loop-thread l = l.groups.items ++ map (λ runs. map (λ run. tally_of l.locations run.events) runs) (drop l.thread-index l.threads) ≡ map (λ runs. map (λ run. tally_of l.locations run.events) runs) l.threads
