use Rattle.std.proofs.Common.{◌≡◌, length}
use Rattle.std.specs.Vec.Iter.{into_iter_items, into_iter_len}
use Rattle.litmus_tree.specs.Tree.{declared_of}
use Rattle.c11_threads.specs.Unrolled.{declare_runs}
use Rattle.c11_threads.proofs.Turns.{AreLed}
use Rattle.c11_threads.proofs.setting.Setting.declare_each.Given as goal

abbrev pub invariant-loop-from : goal.invariant-loop-from
invariant-loop-from l = record {
  ways : AreLed (declare_runs l.self (declared_of l.declarator)) l.fn.starts l.ends (into_iter_items l.from-iterator);
  left : into_iter_len l.from-iterator ≡ length (into_iter_items l.from-iterator);
}
