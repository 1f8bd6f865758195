-- Tests and sums over what a tree shows.
use Rattle.std.proofs.Common.{◌≡◌, ℕ, ◌+◌, ◌<◌, ◌≤◌, List, length, take, get_or, map, arith}
use Rattle.std.specs.Prelude.{sum_by}
use Rattle.std.specs.List.{list_all}
use Rattle.std.proofs.lemmas.List.Folds.{list_all-map}
use Rattle.std.proofs.lemmas.List.{length-map, take-map}
use Rattle.std.proofs.lemmas.List.Sums.{sum_by_more_le}
use Rattle.std.proofs.Math.ListN.{get_or-map}
use Rattle.litmus_c.specs.declared.rules.Rule.{Rule}
use Rattle.litmus_tree.specs.declared.tree.Declarator.{Declarator}
use Rattle.litmus_tree.specs.declared.tree.Parameter.{Parameter}
use Rattle.litmus_tree.specs.declared.tree.Statement.{Statement}
use Rattle.litmus_value.specs.Limits.{optional_events, step_events}
use Rattle.litmus_c.specs.Rules.{declared_keeps}
use Rattle.litmus_tree.specs.Tree.{Word, declared_of, step_of}

pub all_declared : (k : Rule) (ps : List Parameter) (rs : List Word) (ds : List Declarator) → list_all (declared_keeps k ps rs) (map declared_of ds) ≡ list_all (λ d. declared_keeps k ps rs (declared_of d)) ds
all_declared k ps rs ds = list_all-map (declared_keeps k ps rs) declared_of ds

-- what is summed so far, and one more, is at most the whole sum
below : {A B : Type 0} (f : B → ℕ) (g : A → B) (xs : List A) (i : ℕ) (d : A) → i < length xs → sum_by f (map g (take i xs)) + f (g (get_or xs i d)) ≤ sum_by f (map g xs)
below f g xs i d h =
    let whole : sum_by f (take i (map g xs)) + f (get_or (map g xs) i (g d)) ≤ sum_by f (map g xs) = sum_by_more_le f (map g xs) i (g d) (omega (arith, length-map xs g)) in
    rw (← take-map g i xs, ← get_or-map g xs i d) whole

pub declarators_below : (ds : List Declarator) (i : ℕ) (d : Declarator) → i < length ds →
    sum_by (λ d. optional_events d.value) (map declared_of (take i ds)) + optional_events (declared_of (get_or ds i d)).value ≤ sum_by (λ d. optional_events d.value) (map declared_of ds)
declarators_below = below (λ d. optional_events d.value) declared_of

pub statements_below : (ss : List Statement) (i : ℕ) (s : Statement) → i < length ss →
    sum_by step_events (map step_of (take i ss)) + step_events (step_of (get_or ss i s)) ≤ sum_by step_events (map step_of ss)
statements_below = below step_events step_of
