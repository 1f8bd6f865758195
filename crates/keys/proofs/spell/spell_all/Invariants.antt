use Rattle.std.proofs.Common.{◌≡◌, drop}
use Rattle.keys.specs.Spelling.{all_over}
use Rattle.keys.proofs.spell.spell_all.Given as goal

-- what is left, over what is written, is the whole
abbrev pub invariant-loop-item : goal.invariant-loop-item
invariant-loop-item g l = all_over g.T.Spell.over (drop l.item-index l.items) l.key ≡ all_over g.T.Spell.over l.items l.fn.key
