use Rattle.std.proofs.Common.{◌≡◌, ◌+◌, take, map, sum_by}
use Rattle.litmus_value.specs.Limits.{step_events}
use Rattle.litmus_tree.specs.Tree.{step_of}
use Rattle.litmus_c.proofs.rules.+events.Given as goal

abbrev pub invariant-after_statements-loop-statement : goal.invariant-after_statements-loop-statement
invariant-after_statements-loop-statement l = l.room + sum_by step_events (map step_of (take l.statement-index l.statements)) ≡ l.fn.room
