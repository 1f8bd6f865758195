use Rattle.std.proofs.Common.{◌≡◌, ◌+◌, take, map, sum_by}
use Rattle.litmus_value.specs.Limits.{optional_events}
use Rattle.litmus_tree.specs.Tree.{declared_of}
use Rattle.litmus_c.proofs.rules.after_declarators.Given as goal

abbrev pub invariant-loop-declarator : goal.invariant-loop-declarator
invariant-loop-declarator l = l.room + sum_by (λ d. optional_events d.value) (map declared_of (take l.declarator-index l.declarators)) ≡ l.fn.room
