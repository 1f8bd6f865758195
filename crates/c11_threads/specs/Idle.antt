-- Statements that do nothing: whatever registers hold, they have no event and give nothing to a register.
use Rattle.std.specs.Prelude.{Bool, true, false, ◌&&◌}
use Rattle.litmus_tree.specs.Tree.{Step, empty, block, declare, assign, plain_write, perform, if_only, if_else, Steps, no_steps, in_turn}

abbrev mutual
  pub is_idle : Step → Bool
  is_idle empty = true
  is_idle (block steps) = are_idle steps
  is_idle (declare ds) = false
  is_idle (assign r right) = false
  is_idle (plain_write x e) = false
  is_idle (perform a) = false
  is_idle (if_only e a) = is_idle a
  is_idle (if_else e a b) = is_idle a && is_idle b

  pub are_idle : Steps → Bool
  are_idle no_steps = true
  are_idle (in_turn a rest) = is_idle a && are_idle rest
