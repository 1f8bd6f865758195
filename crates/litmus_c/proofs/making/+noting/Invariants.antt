use Rattle.std.proofs.Common.{◌≡◌, drop}
use Rattle.litmus_c.specs.Rules.{steps_registers}
use Rattle.litmus_tree.specs.Names.{with_names}
use Rattle.litmus_tree.specs.Tree.{steps_of}
use Rattle.litmus_c.proofs.making.+noting.Given as goal

-- what is left to note gives what all of it gives
abbrev pub invariant-note_statements-loop-statement : goal.invariant-note_statements-loop-statement
invariant-note_statements-loop-statement l = with_names l.registers.keys (steps_registers (steps_of (drop l.statement-index l.statements))) ≡ with_names l.fn.registers.keys (steps_registers (steps_of l.statements))
