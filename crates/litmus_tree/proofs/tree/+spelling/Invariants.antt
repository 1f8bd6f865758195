use Rattle.std.proofs.Common.{◌≡◌, drop}
use Rattle.litmus_tree.specs.Spellings.{each_over}
use Rattle.litmus_tree.specs.Tree.{steps_of}
use Rattle.litmus_tree.proofs.tree.+spelling.Given as goal

-- what is left, over what is written, is the whole
abbrev pub invariant-spelling::spell_statements-loop-statement : goal.invariant-spelling::spell_statements-loop-statement
invariant-spelling::spell_statements-loop-statement l = each_over (steps_of (drop l.statement-index l.statements)) l.key ≡ each_over (steps_of l.statements) l.fn.key
