use Rattle.std.proofs.Common.{◌≡◌, drop}
use Rattle.litmus_tree.specs.Tree.{steps_of}
use Rattle.litmus_value.specs.Gathering.{gathered, all_noted, AreFew}
use Rattle.litmus_value.specs.Values.{steps_numerals}
use Rattle.litmus_value.proofs.values.numbers.Numbers.+statements.Given as goal

-- what is left to note gives what all of it gives
abbrev pub invariant-note_statements-loop-statement : goal.invariant-note_statements-loop-statement
invariant-note_statements-loop-statement l = record {
  rest : all_noted (gathered l.self) (steps_numerals (steps_of (drop l.statement-index l.statements))) ≡ all_noted (gathered l.fn.self) (steps_numerals (steps_of l.statements));
  within : AreFew l.self.values.items;
}
