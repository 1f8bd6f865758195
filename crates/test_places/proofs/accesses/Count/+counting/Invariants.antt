use Rattle.std.proofs.Common.{◌≡◌, ◌-◌, drop}
use Rattle.litmus_tree.specs.Tree.{steps_of}
use Rattle.test_places.specs.Accesses.{steps_accesses, steps_among}
use Rattle.test_places.proofs.accesses.Count.+counting.Given as goal

-- what is left takes off what all of it takes off
abbrev pub invariant-behind_statements-loop-statement : goal.invariant-behind_statements-loop-statement
invariant-behind_statements-loop-statement l = record {
  left : l.count.left - steps_accesses (steps_of (drop l.statement-index l.statements)) ≡ l.fn.self.left - steps_accesses (steps_of l.statements);
  room : l.count.room - steps_among l.count.left (steps_of (drop l.statement-index l.statements)) ≡ l.fn.self.room - steps_among l.fn.self.left (steps_of l.statements);
}
