use Rattle.std.proofs.Common.{◌≡◌, drop, map}
use Rattle.conditions.specs.Chains.{run}
use Rattle.conditions.specs.Conditions.{growth_of, formula_of}
use Rattle.conditions.specs.Spellings.{formula_over, growth_over}
use Rattle.conditions.proofs.+spelling.Given as goal

-- the links that are left, over what is written, are the whole
abbrev pub invariant-spelling::spell_prop-loop-link : goal.invariant-spelling::spell_prop-loop-link
invariant-spelling::spell_prop-loop-link l = run growth_over l.key (map growth_of (drop l.link-index l.prop.rest.items)) ≡ formula_over (formula_of l.prop) l.fn.key
