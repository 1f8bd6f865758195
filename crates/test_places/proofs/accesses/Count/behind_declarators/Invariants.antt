use Rattle.std.proofs.Common.{◌≡◌, ◌-◌, map, drop}
use Rattle.litmus_tree.specs.Tree.{declared_of}
use Rattle.test_places.specs.Accesses.{declared_accesses, declared_among}
use Rattle.test_places.proofs.accesses.Count.behind_declarators.Given as goal

-- what is left takes off what all of it takes off
abbrev pub invariant-loop-declarator : goal.invariant-loop-declarator
invariant-loop-declarator l = record {
  left : l.count.left - declared_accesses (map declared_of (drop l.declarator-index l.declarators)) ≡ l.fn.self.left - declared_accesses (map declared_of l.declarators);
  room : l.count.room - declared_among l.count.left (map declared_of (drop l.declarator-index l.declarators)) ≡ l.fn.self.room - declared_among l.fn.self.left (map declared_of l.declarators);
}
