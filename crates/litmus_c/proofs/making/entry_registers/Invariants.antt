use Rattle.std.proofs.Common.{◌≡◌, [], drop}
use Rattle.std.specs.List.{flat_map}
use Rattle.litmus_c.specs.Rules.{place_registers}
use Rattle.litmus_tree.specs.Names.{with_names}
use Rattle.litmus_c.proofs.making.entry_registers.Given as goal

-- what is left to note gives what all of it gives
abbrev pub invariant-loop-entry : goal.invariant-loop-entry
invariant-loop-entry l = with_names l.registers.keys (flat_map (λ b. place_registers l.number b.place) (drop l.entry-index l.entries)) ≡ with_names [] (flat_map (λ b. place_registers l.number b.place) l.entries)
