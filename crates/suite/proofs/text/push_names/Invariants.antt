use Rattle.std.proofs.Common.{◌≡◌, ◌++◌, ◌∷◌, drop}
use Rattle.std.specs.List.{flat_map}
use Rattle.suite.proofs.text.push_names.Given as goal

abbrev pub invariant-loop-name : goal.invariant-loop-name
invariant-loop-name l = l.text.items ++ flat_map (λ name. l.before ∷ name) (drop l.name-index l.names) ≡ l.initial.text.items ++ flat_map (λ name. l.before ∷ name) l.names
