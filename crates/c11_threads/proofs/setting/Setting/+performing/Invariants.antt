use Rattle.std.proofs.Common.{◌≡◌, drop, length}
use Rattle.std.specs.Vec.Iter.{into_iter_items, into_iter_len}
use Rattle.litmus_tree.specs.Tree.{step_of, steps_of}
use Rattle.c11_threads.specs.Unrolled.{step_runs, steps_runs}
use Rattle.c11_threads.specs.Ways.{led}
use Rattle.c11_threads.proofs.Turns.{AreLed}
use Rattle.c11_threads.proofs.setting.Setting.+performing.Given as goal

abbrev pub invariant-perform_all-loop-statement : goal.invariant-perform_all-loop-statement
invariant-perform_all-loop-statement l = led (steps_runs (steps_of (drop l.statement-index l.statements)) l.self) l.ends ≡ led (steps_runs (steps_of l.statements) l.self) l.fn.starts

abbrev pub invariant-perform_apart-loop-from : goal.invariant-perform_apart-loop-from
invariant-perform_apart-loop-from l = record {
  ways : AreLed (step_runs (step_of l.statement) l.self) l.fn.starts l.ends (into_iter_items l.from-iterator);
  left : into_iter_len l.from-iterator ≡ length (into_iter_items l.from-iterator);
}
