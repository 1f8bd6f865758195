-- Sizes by summaries. No statement on what a model says rests on this.
use Rattle.std.specs.Prelude.{◌≡◌, ℕ, ◌≤◌, ◌⊎◌, List}
use Rattle.cat_tree.specs.Tree.{Word}
use Rattle.cat_model.specs.Lookups.{held_in}
use Rattle.cat_model.specs.Sizes.{Sizes}
use Rattle.cat_model.specs.Weights.{by_held, by_weights}
use Rattle.cat_model.specs.declared.scope.BoundName.{BoundName}
use Rattle.cat_model.specs.declared.sizes.Sizing.{Sizing}
use Rattle.cat_model.specs.declared.weights.Measure.TheVariants.{Size}

-- equal, or both above 65,536
abbrev pub Near : ℕ → ℕ → Type 0
Near a b = (a ≡ b) ⊎ ((65537 ≤ a) × (65537 ≤ b))

-- a call by a summary
abbrev pub by_sizing : Sizing → List ℕ → ℕ
by_sizing s ns = by_weights Size s.weights.items ns

-- the summary says what F does
abbrev pub IsSizing : Sizing → (List ℕ → ℕ) → Type 0
IsSizing s F = (ns : List ℕ) → Near (by_sizing s ns) (F ns)

-- names come to what is known of them
abbrev pub FitSizes : List BoundName → Sizes → Type 0
FitSizes names Z = (x : Word) (ns : List ℕ) → Near (by_held Size (held_in names x) ns) (Z x ns)
