-- What an execution is within has each pair of its relations, and the same sources.
use Rattle.std.proofs.Common.{◌≡◌, ℕ, sym, ap}
use Rattle.events.specs.declared.named.RelName.{RelName}
use Rattle.events.specs.Executions.{GraphValue}
use Rattle.events.specs.Named.{NamedRel}
use Rattle.events.specs.Opened.{IsWithin}
use Rattle.events.specs.Structures.{Sourced, structure_of, sourced_of}
use Rattle.events.proofs.Bases.{sources_alike, all_within}
use Rattle.events.proofs.Structures.{same_sourced, same_structure}

pub one_sourced : (h u : GraphValue) → IsWithin h u → sourced_of h ≡ sourced_of u
one_sourced h u w = same_sourced h (structure_of u) u.rf (sym (same_structure h u.init u.runs (sym w.init) (sym w.runs))) (sym w.rf)

pub relations_within : (h u : GraphValue) → IsWithin h u → (name : RelName) (i j : ℕ) → NamedRel h name i j → NamedRel u name i j
relations_within h u w = let e = one_sourced h u w in all_within h u (ap (λ (s : Sourced). s.structure) e) (sources_alike h u e) w.co
