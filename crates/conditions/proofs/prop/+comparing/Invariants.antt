use Rattle.std.proofs.Common.{◌≡◌, map, drop}
use Rattle.conditions.specs.Chains.{same_growths}
use Rattle.conditions.specs.Conditions.{growth_of}
use Rattle.conditions.proofs.prop.+comparing.Given as goal

-- what is left to compare decides of all
abbrev pub invariant-equality::are_same_links-loop-i : goal.invariant-equality::are_same_links-loop-i
invariant-equality::are_same_links-loop-i l = same_growths (map growth_of (drop l.i l.links.items)) (map growth_of (drop l.i l.others.items)) ≡ same_growths (map growth_of l.links.items) (map growth_of l.others.items)
