use Rattle.std.proofs.Common.{◌≡◌, ◌++◌, drop}
use Rattle.std.specs.List.{flat_map}
use Rattle.outcome.proofs.refusal.push_parts.Given as goal

abbrev pub invariant-loop-part : goal.invariant-loop-part
invariant-loop-part l = l.text.items ++ flat_map (λ p. p.now) (drop l.part-index l.parts) ≡ l.initial.text.items ++ flat_map (λ p. p.now) l.parts
