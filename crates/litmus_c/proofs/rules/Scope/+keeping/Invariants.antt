use Rattle.std.proofs.Common.{◌≡◌, drop}
use Rattle.litmus_c.specs.Rules.{steps_keep}
use Rattle.litmus_tree.specs.Tree.{steps_of}
use Rattle.litmus_c.proofs.rules.Scope.+keeping.Given as goal

-- what is left to try decides of all
abbrev pub invariant-steps_keep-loop-statement : goal.invariant-steps_keep-loop-statement
invariant-steps_keep-loop-statement l =
    steps_keep l.self.rule l.self.thread.now.parameters l.self.thread.now.registers (steps_of (drop l.statement-index l.statements)) ≡ steps_keep l.self.rule l.self.thread.now.parameters l.self.thread.now.registers (steps_of l.statements)
