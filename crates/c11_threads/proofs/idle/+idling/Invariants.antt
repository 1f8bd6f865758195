use Rattle.std.proofs.Common.{◌≡◌, drop}
use Rattle.litmus_tree.specs.Tree.{steps_of}
use Rattle.c11_threads.specs.Idle.{are_idle}
use Rattle.c11_threads.proofs.idle.+idling.Given as goal

abbrev pub invariant-are_idle-loop-statement : goal.invariant-are_idle-loop-statement
invariant-are_idle-loop-statement l = are_idle (steps_of (drop l.statement-index l.statements)) ≡ are_idle (steps_of l.statements)
