use Rattle.std.proofs.Common.{◌≡◌, ◌++◌, length, map}
use Rattle.std.specs.Vec.Iter.{into_iter_items, into_iter_len}
use Rattle.c11_threads.specs.Runs.{run_of}
use Rattle.c11_threads.proofs.running.runs_from.Given as goal

abbrev pub invariant-loop-end : goal.invariant-loop-end
invariant-loop-end l = record {
  is : l.runs.items ++ map run_of (into_iter_items l.end-iterator) ≡ map run_of l.fn.ends.items;
  left : into_iter_len l.end-iterator ≡ length (into_iter_items l.end-iterator);
}
