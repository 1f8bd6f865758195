use Rattle.std.proofs.Common.{◌≡◌, map, drop}
use Rattle.std.specs.List.{list_all}
use Rattle.litmus_c.specs.Rules.{growth_keeps}
use Rattle.litmus_tree.specs.Tree.{growth_of}
use Rattle.litmus_c.proofs.rules.Scope.+terms.Given as goal

-- what is left to try decides of all
abbrev pub invariant-links_keep-loop-link : goal.invariant-links_keep-loop-link
invariant-links_keep-loop-link l =
    list_all (growth_keeps l.self.rule l.self.thread.now.parameters l.self.thread.now.registers) (map growth_of (drop l.link-index l.links.items)) ≡
    list_all (growth_keeps l.self.rule l.self.thread.now.parameters l.self.thread.now.registers) (map growth_of l.links.items)
