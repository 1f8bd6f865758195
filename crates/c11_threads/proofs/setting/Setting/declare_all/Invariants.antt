use Rattle.std.proofs.Common.{◌≡◌, drop, map}
use Rattle.litmus_tree.specs.Tree.{declared_of}
use Rattle.c11_threads.specs.Unrolled.{declares_runs}
use Rattle.c11_threads.specs.Ways.{led}
use Rattle.c11_threads.proofs.setting.Setting.declare_all.Given as goal

abbrev pub invariant-loop-declarator : goal.invariant-loop-declarator
invariant-loop-declarator l = led (declares_runs l.self (map declared_of (drop l.declarator-index l.declarators))) l.ends ≡ led (declares_runs l.self (map declared_of l.declarators)) l.fn.starts
