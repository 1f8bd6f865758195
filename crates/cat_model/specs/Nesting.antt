-- Depths by summaries. No statement on what a model says rests on this.
use Rattle.std.specs.Prelude.{◌≡◌, ℕ, ◌≤◌, ◌⊎◌, List, map}
use Rattle.std.proofs.Common.{suc}
use Rattle.cat_tree.specs.Tree.{Word}
use Rattle.cat_model.specs.Depths.{Depths}
use Rattle.cat_model.specs.Lookups.{held_in}
use Rattle.cat_model.specs.Weights.{Alike, by_held, by_weights}
use Rattle.cat_model.specs.declared.depths.Nesting.{Nesting}
use Rattle.cat_model.specs.declared.scope.BoundName.{BoundName}
use Rattle.cat_model.specs.declared.weights.Measure.TheVariants.{Depth}

-- equal, or both above 64
abbrev pub NearDepth : ℕ → ℕ → Type 0
NearDepth a b = (a ≡ b) ⊎ ((65 ≤ a) × (65 ≤ b))

-- what weighs a is b deep
abbrev pub Weighs : ℕ → ℕ → Type 0
Weighs a b = Alike Depth a (suc b)

-- the summary says what F does
abbrev pub IsNesting : Nesting → (List ℕ → ℕ) → Type 0
IsNesting s F = (ns : List ℕ) → Weighs (by_weights Depth s.weights.items (map suc ns)) (F ns)

-- names are as deep as is known of them
abbrev pub FitDepths : List BoundName → Depths → Type 0
FitDepths names D = (x : Word) (ns : List ℕ) → Weighs (by_held Depth (held_in names x) (map suc ns)) (D x ns)
