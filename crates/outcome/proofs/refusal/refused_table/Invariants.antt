use Rattle.std.proofs.Common.{◌≡◌, map, take}
use Rattle.std.specs.Prelude.{codes}
use Rattle.outcome.proofs.refusal.refused_table.Given as goal

abbrev pub invariant-loop : goal.invariant-loop
invariant-loop l = map (λ c. c.items) l.cells.items ≡ map (λ m. codes "refused") (take l.index l.items)
