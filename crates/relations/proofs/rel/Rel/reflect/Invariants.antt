use Rattle.std.proofs.Common.{◌≡◌, ◌<◌, ◌⊎◌}
use Rattle.relations.specs.Relation.{In, IsExactly}
use Rattle.relations.proofs.rel.Rel.reflect.Given as goal

abbrev pub invariant-loop-i : goal.invariant-loop-i
invariant-loop-i l = IsExactly l.fn.self.count (λ a b. In l.fn.self a b ⊎ ((a ≡ b) × (a < l.i))) l.self
