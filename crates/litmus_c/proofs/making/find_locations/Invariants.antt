use Rattle.std.proofs.Common.{◌≡◌, ◌≤◌, [], drop, length, map}
use Rattle.std.specs.List.{flat_map}
use Rattle.litmus_syntax.specs.Drafts.{listing_of}
use Rattle.litmus_c.specs.Rules.{place_locations, parameter_names}
use Rattle.litmus_tree.specs.Names.{with_names}
use Rattle.litmus_c.proofs.making.find_locations.Given as goal

-- what is left to note gives what all of it gives
abbrev pub invariant-loop-body : goal.invariant-loop-body
invariant-loop-body l = record {
  rest : with_names l.locations.items (flat_map parameter_names (map listing_of (drop l.body-index l.bodies))) ≡ with_names (with_names [] (flat_map (λ b. place_locations b.place) l.entries)) (flat_map parameter_names (map listing_of l.bodies));
  few : length l.locations.items ≤ 8;
}
