use Rattle.std.proofs.Common.{◌≡◌, ◌++◌, drop, map}
use Rattle.c11_threads.proofs.progress.values_of.Given as goal

abbrev pub invariant-loop-content : goal.invariant-loop-content
invariant-loop-content l = l.values.items ++ map (λ w. w.value) (drop l.content-index l.contents) ≡ map (λ w. w.value) l.contents
