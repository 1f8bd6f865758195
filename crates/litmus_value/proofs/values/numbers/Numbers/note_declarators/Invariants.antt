use Rattle.std.proofs.Common.{◌≡◌, map, drop}
use Rattle.std.specs.List.{flat_map}
use Rattle.litmus_tree.specs.Tree.{declared_of}
use Rattle.litmus_value.specs.Gathering.{gathered, all_noted, AreFew}
use Rattle.litmus_value.specs.Values.{optional_numerals}
use Rattle.litmus_value.proofs.values.numbers.Numbers.note_declarators.Given as goal

-- what is left to note gives what all of it gives
abbrev pub invariant-loop-declarator : goal.invariant-loop-declarator
invariant-loop-declarator l = record {
  rest : all_noted (gathered l.self) (flat_map (λ d. optional_numerals d.value) (map declared_of (drop l.declarator-index l.declarators))) ≡ all_noted (gathered l.fn.self) (flat_map (λ d. optional_numerals d.value) (map declared_of l.declarators));
  within : AreFew l.self.values.items;
}
