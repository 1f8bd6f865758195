use Rattle.std.proofs.Common.{◌≡◌, ◌≤◌, [], drop, length}
use Rattle.std.specs.List.{flat_map}
use Rattle.litmus_c.specs.Rules.{place_locations}
use Rattle.litmus_tree.specs.Names.{with_names}
use Rattle.litmus_c.proofs.making.entry_locations.Given as goal

-- what is left to note gives what all of it gives
abbrev pub invariant-loop-entry : goal.invariant-loop-entry
invariant-loop-entry l = record {
  rest : with_names l.locations.items (flat_map (λ b. place_locations b.place) (drop l.entry-index l.entries)) ≡ with_names [] (flat_map (λ b. place_locations b.place) l.entries);
  few : length l.locations.items ≤ 8;
}
