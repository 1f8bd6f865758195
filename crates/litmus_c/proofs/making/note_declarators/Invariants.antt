use Rattle.std.proofs.Common.{◌≡◌, drop, map}
use Rattle.litmus_tree.specs.Names.{with_names}
use Rattle.litmus_tree.specs.Tree.{declared_of}
use Rattle.litmus_c.proofs.making.note_declarators.Given as goal

-- what is left to note gives what all of it gives
abbrev pub invariant-loop-declarator : goal.invariant-loop-declarator
invariant-loop-declarator l = with_names l.registers.keys (map (λ d. d.register) (map declared_of (drop l.declarator-index l.declarators))) ≡ with_names l.fn.registers.keys (map (λ d. d.register) (map declared_of l.declarators))
