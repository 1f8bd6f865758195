-- What is said of a row of statements is said of each.
use Rattle.std.proofs.Common.{◌≡◌, List, [], ◌∷◌, map, ap, sym, refl, ◌∙◌}
use Rattle.std.specs.Prelude.{sum_by, ◌+◌}
use Rattle.std.proofs.lemmas.List.Sums.{sum_by-cons}
use Rattle.litmus_tree.specs.declared.tree.Statement.{Statement}
use Rattle.litmus_value.specs.Limits.{step_events, steps_events}
use Rattle.litmus_tree.specs.Tree.{step_of, steps_of}

pub row_events : (ss : List Statement) → steps_events (steps_of ss) ≡ sum_by step_events (map step_of ss)
row_events [] = refl
row_events (s ∷ ss) = ap (λ n. step_events (step_of s) + n) (row_events ss) ∙ sym (sum_by-cons step_events (step_of s) (map step_of ss))
