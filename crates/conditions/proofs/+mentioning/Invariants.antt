use Rattle.std.proofs.Common.{◌≡◌, ◌++◌, drop, map}
use Rattle.conditions.specs.Chains.{all_mentioned}
use Rattle.conditions.specs.Conditions.{growth_of, formula_of}
use Rattle.conditions.specs.States.{mentioned}
use Rattle.conditions.proofs.+mentioning.Given as goal

-- what is there, and what the links that are left mention, are all
abbrev pub invariant-observing::push_mentioned-loop-link : goal.invariant-observing::push_mentioned-loop-link
invariant-observing::push_mentioned-loop-link l = l.places.items ++ all_mentioned (map growth_of (drop l.link-index l.prop.rest.items)) ≡ l.fn.places.items ++ mentioned (formula_of l.prop)
