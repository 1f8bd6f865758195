use Rattle.std.proofs.Common.{◌≡◌, ◌≤◌, drop, length, map}
use Rattle.litmus_tree.specs.Names.{with_names}
use Rattle.litmus_c.proofs.making.note_parameters.Given as goal

-- what is left to note gives what all of it gives
abbrev pub invariant-loop-parameter : goal.invariant-loop-parameter
invariant-loop-parameter l = record {
  rest : with_names l.locations.items (map (λ p. p.name) (drop l.parameter-index l.parameters)) ≡ with_names l.fn.locations.items (map (λ p. p.name) l.parameters);
  few : length l.locations.items ≤ 8;
}
