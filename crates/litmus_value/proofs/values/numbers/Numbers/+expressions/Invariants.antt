use Rattle.std.proofs.Common.{◌≡◌, map, drop}
use Rattle.std.specs.List.{flat_map}
use Rattle.litmus_tree.specs.Tree.{growth_of}
use Rattle.litmus_value.specs.Gathering.{gathered, all_noted, AreFew}
use Rattle.litmus_value.specs.Values.{growth_numerals}
use Rattle.litmus_value.proofs.values.numbers.Numbers.+expressions.Given as goal

-- what is left to note gives what all of it gives
abbrev pub invariant-note_links-loop-link : goal.invariant-note_links-loop-link
invariant-note_links-loop-link l = record {
  rest : all_noted (gathered l.self) (flat_map growth_numerals (map growth_of (drop l.link-index l.links.items))) ≡ all_noted (gathered l.fn.self) (flat_map growth_numerals (map growth_of l.links.items));
  within : AreFew l.self.values.items;
}
