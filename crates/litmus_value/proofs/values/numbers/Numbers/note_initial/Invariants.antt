use Rattle.std.proofs.Common.{◌≡◌, map, drop}
use Rattle.litmus_value.specs.Gathering.{gathered, all_noted, AreFew}
use Rattle.litmus_value.specs.Values.{literal}
use Rattle.litmus_value.proofs.values.numbers.Numbers.note_initial.Given as goal

-- what is left to note gives what all of it gives
abbrev pub invariant-loop-binding : goal.invariant-loop-binding
invariant-loop-binding l = record {
  rest : all_noted (gathered l.self) (map (λ b. literal b.value) (drop l.binding-index l.bindings)) ≡ all_noted (gathered l.fn.self) (map (λ b. literal b.value) l.bindings);
  within : AreFew l.self.values.items;
}
