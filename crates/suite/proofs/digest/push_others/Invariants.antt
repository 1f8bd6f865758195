use Rattle.std.proofs.Common.{◌≡◌, ◌++◌, ◌∷◌, drop}
use Rattle.std.specs.List.{flat_map}
use Rattle.suite.specs.Digests.{digest_text}
use Rattle.suite.proofs.digest.push_others.Given as goal

abbrev pub invariant-loop-other : goal.invariant-loop-other
invariant-loop-other l = l.text.items ++ flat_map (λ t. 44 ∷ digest_text t) (drop l.other-index l.others) ≡ l.initial.text.items ++ flat_map (λ t. 44 ∷ digest_text t) l.others
