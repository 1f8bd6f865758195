use Rattle.std.proofs.Common.{◌≡◌, map, drop}
use Rattle.std.specs.List.{list_all}
use Rattle.conditions.specs.Conditions.{growth_of}
use Rattle.litmus_c.specs.Rules.{connected_is_fair}
use Rattle.litmus_c.proofs.rules.+formulas.Given as goal

-- what is left to try decides of all
abbrev pub invariant-are_fair-loop-link : goal.invariant-are_fair-loop-link
invariant-are_fair-loop-link l =
    list_all (connected_is_fair l.threads l.locations) (map growth_of (drop l.link-index l.links.items)) ≡ list_all (connected_is_fair l.threads l.locations) (map growth_of l.links.items)
